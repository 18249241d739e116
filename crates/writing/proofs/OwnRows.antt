-- The rows that a default adds, as they are written: a situation's own row, and the loop over the situations.
use Prim.Native.Nat.{ℕ, zero, suc, ◌+◌, ◌-◌, ◌≤◌, ◌<◌}
use mathlib.Core.Path.{◌≡◌, refl, ap₂}
use mathlib.Core.Bool.{Bool, true, false, cond}
use mathlib.Core.List.{List, [], ◌∷◌, ◌++◌, map}
use lib.Dec.{eqb}
use lib.ListN.{length, take, length-map}
use native.Mathlib.Numerals.{add-one}
use native.Mathlib.Omega.{arith}
use Rattle.lent.specs.Inside.{Wrote}
use Rattle.lent.proofs.Laws.{wrote_none, wrote_then, within_first}
use Rattle.answers.specs.Meaning.{number}
use Rattle.answers.specs.declared.Answer.{Answer}
use Rattle.answers.specs.declared.Answer.TheVariants.{Silent}
use Rattle.answers.proofs.Claims.{number_small}
use Rattle.answers.proofs.Every.{each}
use Rattle.situations.specs.declared.Situation.{Situation}
use Rattle.situations.specs.Meaning.{answers_of, weight, situation_at, by_value}
use Rattle.situations.proofs.Columns.{by_value-numbers}
use Rattle.situations.proofs.Numbers.{answers_of-number, situation_at-length}
use Rattle.base4.specs.Meaning.{situations_from, situations_of}
use Rattle.base4.proofs.Shifts.{weight-columns}
use Rattle.rows.specs.Meaning.{is, Row, cell_of}
use Rattle.matching.specs.Meaning.{matched}
use Rattle.formula.specs.Meaning.{followed, row_nodes, rows_left, own_row, own_rows, added_rows}
use Rattle.writing.specs.Inside.{limit, beyond, Loud, Certain, row_with, behind, lined, parts_rest, row_parts, rows_step, own_step}
use Rattle.writing.specs.Inside.{WritingParts, WritingOwn}
use Rattle.writing.proofs.Parts.{parts_start, parts_ended}
use Rattle.writing.proofs.Rows.{is_silent-loud, row_fits, row_written}

-- the answers of a situation as cells
cell_is : (a : Answer) → cell_of (number a) ≡ is a
cell_is = each _ (search refl)

cells_are : (s : List Answer) → map cell_of (map number s) ≡ map is s
cells_are [] = refl
cells_are (a ∷ s) = ap₂ (λ x xs. x ∷ xs) (cell_is a) (cells_are s)

numbers-certain : (s : List Answer) → Certain (map number s)
numbers-certain [] k l = absurd (omega arith)
numbers-certain (a ∷ s) zero l = omega (arith, number_small a)
numbers-certain (a ∷ s) (suc k) l = numbers-certain s k (omega arith)

numbers_of : (s : List Answer) {n : ℕ} → length s ≡ n → n ≤ 6 → take n (by_value s).answers ≡ map number s
numbers_of s e l = rw (← e) (by_value-numbers s (rw e l))

-- the situation with a number, by value
module _ (n w : ℕ) (l : w < weight n) {q : Situation} (e : q ≡ by_value (situation_at n w)) where
  own_numbers : take n q.answers ≡ map number (situation_at n w)
  own_numbers = rw e (numbers_of (situation_at n w) (situation_at-length n w) (weight-columns n w l))

  pub own_short : length (take n q.answers) ≤ 6
  own_short = rw (own_numbers, length-map, situation_at-length n w) (weight-columns n w l)

  pub own_certain : Certain (take n q.answers)
  own_certain = rw own_numbers (numbers-certain (situation_at n w))

  row_own : (d : Answer) → row_with (take n q.answers) d ≡ own_row d (situation_at n w)
  row_own d = rw (own_numbers, cells_are (situation_at n w))

  module _ (d : Answer) (rows : List Row) {b : Bool} (f : b ≡ matched rows (answers_of (take n q.answers))) where
    matched-is : b ≡ matched rows (situation_at n w)
    matched-is = rw (own_numbers, answers_of-number (situation_at n w)) at f

    module _ (first : Bool) where
      pub own_matched : b ≡ true → (old : List ℕ) (at : ℕ) → Wrote old at (own_step first d rows (situation_at n w)) old at
      own_matched h old at = rw (← matched-is, h) (wrote_none old at)

      module _ (h : b ≡ false) where
        own_is :
            own_step first d rows (situation_at n w)
            ≡ row_nodes (row_with (take n q.answers) d) ++ behind 7 first
        own_is = rw (← matched-is, h, row_own d)

        module _ (at : ℕ) (room : at + length (own_step first d rows (situation_at n w)) ≤ limit) where
          pub own_within : at + length (row_nodes (row_with (take n q.answers) d)) ≤ limit
          own_within = within_first (row_nodes (row_with (take n q.answers) d)) (behind 7 first) own_is at limit room

          pub own_join : {o c : List ℕ} {m : ℕ} → Wrote o at (row_nodes (row_with (take n q.answers) d)) c m → m ≤ beyond
          own_join v = let row = own_within in let ends = v.ends in omega arith

        pub own_all :
            {o c x : List ℕ} {at m r : ℕ} →
            Wrote o at (row_nodes (row_with (take n q.answers) d)) c m →
            Wrote c m (behind 7 first) x r →
            Wrote o at (own_step first d rows (situation_at n w)) x r
        own_all v u = rw own_is (wrote_then v u)

-- a default of silent adds nothing
module _ (d : Answer) (n : ℕ) (rows : List Row) where
  pub added_none : d ≡ Silent → (old : List ℕ) (at : ℕ) → Wrote old at (rows_step (eqb at 0) (added_rows d n rows)) old at
  unfolding added_rows parts_rest lined rows_left followed
  added_none h old at = rw h (nothing (eqb at 0))
    where
      nothing : (b : Bool) → Wrote old at (cond {A = List ℕ} b [] []) old at
      nothing true = wrote_none old at
      nothing false = wrote_none old at

  -- any other the situations' own rows
  module _ (h : Loud d) where
    added_own : added_rows d n rows ≡ own_rows d rows (situations_of n)
    unfolding added_rows
    added_own = rw (is_silent-loud d h)

    pub own_start : (old : List ℕ) (at : ℕ) → WritingOwn d rows n old at old at 0
    own_start old at =
        let all : weight n - 0 ≡ weight n = omega arith in
        record { inside = omega arith; left = rw all (parts_start (row_parts (own_rows d rows (situations_of n))) old 0 at (omega arith)) }

    module _ {old new : List ℕ} {at next : ℕ} (w : ℕ) (v : WritingOwn d rows n old at new next w) where
      abbrev Left : List ℕ → ℕ → List Row → Type 0
      Left b q left = WritingParts 7 [] (rows_step (eqb at 0) (own_rows d rows (situations_of n))) old 0 at b q (map row_nodes left)

      module _ {all : ℕ} (count : all ≡ weight n) where
        pub own_done : all ≤ w → Wrote old at (rows_step (eqb at 0) (added_rows d n rows)) new next
        unfolding situations_from own_rows rows_left
        own_done l =
            let none : weight n - w ≡ 0 = omega arith in
            rw added_own (parts_ended (rw none at v.left))

        module _ (l : w < all) where
          s : List Answer
          s = situation_at n w

          rest : List Row
          rest = rows_left (own_rows d rows (situations_from n (suc w) (weight n - suc w)))

          pub own_number : w < weight n
          own_number = rw count at l

          one_own : Left new next (cond (matched rows s) rest (own_row d s ∷ rest))
          unfolding situations_from own_rows rows_left rest s
          one_own =
              let left : weight n - w ≡ suc (weight n - suc w) = omega arith in
              go (matched rows (situation_at n w)) (rw left at v.left)
            where
              more : List Row
              more = own_rows d rows (situations_from n (suc w) (weight n - suc w))

              go :
                  (b : Bool) →
                  Left new next (rows_left (cond b more (own_row d (situation_at n w) ∷ more))) →
                  Left new next (cond b (rows_left more) (own_row d (situation_at n w) ∷ rows_left more))
              go true u = u
              go false u = rw (is_silent-loud d h) at u

          pub own_room :
              at + length (rows_step (eqb at 0) (added_rows d n rows)) ≤ limit →
              next + length (own_step (eqb next 0) d rows (situation_at n w)) ≤ limit
          unfolding s
          own_room room = row_fits (matched rows s) (own_row d s) rest one_own (rw added_own at room)

          pub own_more :
              {c : List ℕ} {q : ℕ} →
              Wrote new next (own_step (eqb next 0) d rows (situation_at n w)) c q →
              WritingOwn d rows n old at c q (w + 1)
          unfolding s rest
          own_more u =
              record {
                inside = omega arith;
                left = rw (add-one w) (row_written (matched rows s) (own_row d s) rest one_own (λ e. h) u);
              }
