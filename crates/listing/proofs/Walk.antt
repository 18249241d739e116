-- Writing the rows: one situation's row, and the walk over all situations.
use Prim.Native.Nat.{ℕ, suc, ◌+◌, ◌-◌, ◌*◌, ◌%◌, ◌≤◌, ◌<◌}
use mathlib.Core.Path.{◌≡◌, refl, ap, ap₂, sym, ◌∙◌}
use mathlib.Core.List.{List, [], ◌∷◌, ◌++◌, map}
use mathlib.Core.Bool.{Bool, true, false}
use lib.Dec.{eqb}
use lib.ListN.{length, take, length-append, length-map}
use lib.Seq.{length-sets}
use borrow.Author.Tests.{ne_eqb, eqb-true, eqb-false}
use native.Mathlib.Nat.{sub-zero}
use native.Mathlib.Omega.{arith}
use denote.Enum.Bare.{sameb}
use Rattle.answers.specs.contracts.Answer.{the_type}
use Rattle.lent.specs.Inside.{Wrote}
use Rattle.lent.proofs.Laws.{wrote_none, wrote_counted, writing_start, writing_more, writing_done}
use Rattle.answers.specs.Meaning.{number, from_number}
use Rattle.answers.proofs.Claims.{from_number_lem}
use Rattle.answers.specs.declared.Answer.{Answer}
use Rattle.answers.specs.declared.Answer.TheVariants.{Silent, Bury, Keep, Clash}
use Rattle.situations.specs.declared.Situation.{Situation}
use Rattle.situations.specs.Meaning.{weight, situation_at, by_value}
use Rattle.situations.proofs.Numbers.{situation_at-length, index-situation_at}
use Rattle.situations.proofs.Columns.{by_value-numbers}
use Rattle.situations.proofs.Weights.{weight_power}
use Rattle.base4.proofs.Shifts.{weight-small, weight-columns}
use Rattle.rows.specs.Meaning.{is, cell_byte, row_field}
use Rattle.formula.specs.Meaning.{own_row}
use Rattle.planes.specs.Meaning.{lane}
use Rattle.steps.specs.Meaning.{in_words}
use Rattle.text.specs.Meaning.{Printed}
use Rattle.text.proofs.Printing.{printed_then}
use Rattle.listing.specs.Inside.{limit, behind, lowest, ahead_of, answer_bytes, listed_from, Listing}
use Rattle.listing.proofs.Words.{passed_silent}
use Rattle.listing.proofs.Rows.{from_next, from_none, from_silent}

-- text printed where there is room for it is written
pub printed_wrote : {b c xs : List ℕ} {at r : ℕ} → Printed b at xs c r → at + length xs ≤ length b → Wrote b at xs c r
printed_wrote {b} {xs = xs} {at = at} p room =
    record { ends = let e = p.ends in omega arith; holds = λ h. p.holds; long = ap length p.holds ∙ length-sets b at xs }

-- the cells of a situation's own row are its answers
own_cells : (s : List Answer) → map cell_byte (map is s) ≡ map number s
own_cells [] = refl
own_cells (a ∷ s) = ap (λ bytes. number a ∷ bytes) (own_cells s)

own_long : (s : List Answer) (a : Answer) → length (map number s ++ (number a ∷ [])) ≡ length s + 1
own_long s a = length-append (map number s) (number a ∷ []) ∙ ap (λ k. k + 1) (length-map s number)

own_field :
    (s : List Answer) (a : Answer) →
    length s ≤ 6 →
    row_field (own_row a s) ≡ (2 ∷ 0 ∷ (length s + 1) ∷ []) ++ map number s ++ (number a ∷ [])
own_field s a few =
    rw (own_cells s, own_long s a)
    (ap₂ (λ high low. 2 ∷ high ∷ low ∷ (map number s ++ (number a ∷ []))) (omega arith) (omega arith))

module _ (n w low high at : ℕ) (b : List ℕ) (inside : w < weight n) where
  abbrev here : List Answer
  here = situation_at n w

  abbrev bits : ℕ
  bits = low % 2 + 2 * (high % 2)

  abbrev answer : Answer
  answer = from_number bits

  long : length here ≡ n
  long = situation_at-length n w

  few : length here ≤ 6
  few = rw long (weight-columns n w inside)

  numbered : number answer ≡ bits
  numbered = from_number_lem bits (omega arith)

  field_is : row_field (own_row answer here) ≡ (2 ∷ 0 ∷ (n + 1) ∷ []) ++ map number here ++ (bits ∷ [])
  field_is =
      own_field here answer few ∙ ap₂ (λ k last. (2 ∷ 0 ∷ (k + 1) ∷ []) ++ map number here ++ (last ∷ [])) long numbered

  field-long : length (row_field (own_row answer here)) ≡ n + 4
  field-long = ap length field_is ∙ (simp (length-append, length-map) (rw long (omega arith)))

  -- nothing for silent
  answer_silent : bits ≡ 0 → Wrote b at (answer_bytes answer here) b at
  answer_silent z = rw z (wrote_none b at)

  -- else the row: one that does not fit is counted, and one that fits is written
  module _ (some : bits ≡ 0 → ⊥) where
    loud : answer_bytes answer here ≡ row_field (own_row answer here)
    loud = rw (ne_eqb (number answer) 0 (λ z. some (sym numbered ∙ z)))

    answer-counted : length b < at + n + 4 → Wrote b at (answer_bytes answer here) b (at + n + 4)
    answer-counted l = rw loud (wrote_counted b at (row_field (own_row answer here)) (rw field-long (omega arith)) l)

    answer-written :
        {c d e : List ℕ} {first last r : ℕ} →
        Printed d last (bits ∷ []) e r →
        {situation : Situation} →
        Printed c first (take n situation.answers) d last →
        situation ≡ by_value here →
        Printed b at (2 ∷ 0 ∷ (n + 1) ∷ []) c first →
        at + n + 4 ≤ length b →
        Wrote b at (answer_bytes answer here) e (at + n + 4)
    answer-written {e = e} {r = r} three two made one room =
        let cells : take n (by_value here).answers ≡ map number here =
        ap (λ k. take k (by_value here).answers) (sym long) ∙ by_value-numbers here few in
        let all : Printed b at (row_field (own_row answer here)) e r =
        rw field_is (printed_then (printed_then one (rw (made, cells) at two)) three) in
        let wrote = printed_wrote all (rw field-long (omega arith)) in
        rw loud (record { ends = rw field-long (omega arith); holds = λ h. all.holds; long = wrote.long })

-- the same where the code has the answer, and a test for silent
same_number : (a : Answer) → sameb the_type a Silent ≡ eqb (number a) 0
same_number Silent = refl
same_number Bury = refl
same_number Keep = refl
same_number Clash = refl

module _
    (n w low high at : ℕ) (b : List ℕ) (inside : w < weight n) {a : Answer} (is : a ≡ lowest low high)
    {t : Bool} (e : t ≡ sameb the_type a Silent)
  where
    number_is : number a ≡ low % 2 + 2 * (high % 2)
    number_is = ap number is ∙ from_number_lem (low % 2 + 2 * (high % 2)) (omega arith)

    test_is : t ≡ eqb (low % 2 + 2 * (high % 2)) 0
    test_is = e ∙ same_number a ∙ ap (λ k. eqb k 0) number_is

    pub told_silent : t ≡ true → Wrote b at (answer_bytes (lowest low high) (situation_at n w)) b at
    told_silent y = answer_silent n w low high at b inside (eqb-true (low % 2 + 2 * (high % 2)) 0 (sym test_is ∙ y))

    module _ (z : t ≡ false) where
      some : low % 2 + 2 * (high % 2) ≡ 0 → ⊥
      some = eqb-false (low % 2 + 2 * (high % 2)) 0 (sym test_is ∙ z)

      pub told-counted : length b < at + n + 4 → Wrote b at (answer_bytes (lowest low high) (situation_at n w)) b (at + n + 4)
      told-counted = answer-counted n w low high at b inside some

      pub told-written :
          {o : ℕ} {c d e : List ℕ} {first last r : ℕ} →
          Printed d last (o ∷ []) e r →
          o ≡ number a →
          {situation : Situation} →
          Printed c first (take n situation.answers) d last →
          situation ≡ by_value (situation_at n w) →
          Printed b at (2 ∷ 0 ∷ (n + 1) ∷ []) c first →
          at + n + 4 ≤ length b →
          Wrote b at (answer_bytes (lowest low high) (situation_at n w)) e (at + n + 4)
      told-written three number two made one room =
          answer-written n w low high at b inside some (rw (number ∙ number_is) at three) two made one room

-- the walk
pub walk-small : (n w : ℕ) {total : ℕ} → total ≡ weight n → w < total → w < 4096
walk-small n w t l = let most = weight-small n in omega arith

module _ (bury keep : List ℕ) (n : ℕ) where
  abbrev f : List Answer → Answer
  f = in_words bury keep

  -- the answer at a number is in the lowest bits from it on
  at_number : (w : ℕ) → w < weight n → f (situation_at n w) ≡ lane bury keep w
  unfolding in_words
  at_number w l = ap (lane bury keep) (index-situation_at n w (rw (← weight_power n (weight-columns n w l)) l))

  pub listing_start : (old : List ℕ) (at : ℕ) → Listing f n old at old at 0
  listing_start old at =
      record { left = rw (sub-zero (weight n)) (writing_start old at (listed_from f n 0 (weight n))) }

  module _
      {old new : List ℕ} {at next w : ℕ} (l : Listing f n old at new next w)
      {total : ℕ} (t : total ≡ weight n)
    where
      pub listing_done : total ≤ w → Wrote old at (listed_from f n 0 (weight n)) new next
      listing_done h = writing_done l.left (ap (listed_from f n w) {x = weight n - w} {y = 0} (omega arith) ∙ from_none f n w)

      module _ (h : w < total) where
        here-inside : w < weight n
        here-inside = omega arith

        -- the next row starts within what all rows are within
        pub listing_within :
            at + length (listed_from f n 0 (weight n)) ≤ limit → (w < weight n) × (n ≤ 6) × (next ≤ limit)
        listing_within few = (here-inside, weight-columns n w here-inside, let e = l.left.ends in omega arith)

        module _
            {low high step : ℕ} (i : low ≡ behind bury w) (j : high ≡ behind keep w)
            (e : step ≡ ahead_of low high w) (some : 1 ≤ step)
          where
            rest : ℕ
            rest = weight n - suc w

            passed : (k : ℕ) → suc w ≤ k → k < suc w + (step - 1) → k < suc w + rest → f (situation_at n k) ≡ Silent
            unfolding rest
            passed k a b c =
                at_number k (omega (arith, here-inside))
                ∙ passed_silent bury keep w k (omega arith) (rw (← i, ← j, ← e) (omega arith))

            split :
                listed_from f n w (weight n - w)
                ≡ answer_bytes (lowest low high) (situation_at n w) ++ listed_from f n (w + step) (weight n - (w + step))
            unfolding rest
            split =
                ap (listed_from f n w) {x = weight n - w} {y = suc rest} (omega (arith, here-inside))
                ∙ from_next f n w rest
                ∙ ap₂ (λ answer more. answer_bytes answer (situation_at n w) ++ more) (at_number w here-inside ∙ ap₂ lowest (sym i) (sym j))
                (from_silent f n (step - 1) (suc w) rest passed
                ∙ ap₂ (listed_from f n) {x = suc w + (step - 1)} {y = w + step} {u = rest - (step - 1)} {v = weight n - (w + step)}
                (omega arith)
                (omega (arith, here-inside)))

            pub listing_more :
                {c : List ℕ} {m : ℕ} →
                Wrote new next (answer_bytes (lowest low high) (situation_at n w)) c m →
                Listing f n old at c m (w + step)
            listing_more wrote = record { left = writing_more l.left _ _ split wrote }
