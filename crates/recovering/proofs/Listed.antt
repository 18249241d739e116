-- The table that lists what f answers: which rows it has and how many, that it says what f answers, and that nothing else of f plays a
-- part in it.
use Prim.Native.Nat.{ℕ, suc, ◌+◌, ◌*◌, ◌^◌, ◌≤◌, ◌<◌}
use mathlib.Core.Path.{◌≡◌, refl, ap, sym, ◌∙◌}
use mathlib.Core.Logic.{⊎_elim}
use mathlib.Core.Bool.{Bool, true, false, cond, not}
use mathlib.Core.List.{List, [], ◌∷◌}
use lib.Dec.{T}
use lib.ListN.{length}
use borrow.Author.Tests.{ne_eqb, eqb-true, eqb-false}
use native.Mathlib.Nat.{pow-le-pow_right, zero-lt-suc}
use native.Mathlib.Omega.{arith}
use Rattle.answers.specs.Meaning.{number}
use Rattle.answers.specs.declared.Answer.{Answer}
use Rattle.answers.specs.declared.Answer.TheVariants.{Silent}
use Rattle.situations.specs.Meaning.{weight, situation_at}
use Rattle.situations.proofs.Numbers.{situation_at-length}
use Rattle.situations.proofs.Weights.{weight_power}
use Rattle.base4.specs.Meaning.{situations_of}
use Rattle.base4.proofs.Listing.{situations_from-length}
use Rattle.rows.specs.Meaning.{Row, row, matches}
use Rattle.defaults.specs.Meaning.{unwritten}
use Rattle.tables.specs.Meaning.{Table, WellFormed, Consistent, says, table_bytes}
use Rattle.accepting.proofs.RowsEncoding.{Wide}
use Rattle.accepting.proofs.Saying.{says_none, says_either}
use Rattle.formula.specs.Meaning.{is_silent, own_row}
use Rattle.selection.proofs.OwnRows.{own_matches, own_only, own_rows_but, own_rows-is, own_rows_rise, own_rows-once}
use Rattle.selection.proofs.Answering.{silent_is}
use Rattle.counts.specs.Meaning.{count}
use Rattle.counts.proofs.Raising.{count_most}
use Rattle.listing.specs.Meaning.{listed_rows, listed}
use Rattle.listing.proofs.Rows.{rows-wide, listed_same}
use Rattle.listing.proofs.Returns.{bytes-long}
use Rattle.recovering.specs.Meaning.{Lists, answered}

module _ (f : List Answer → Answer) where
  -- the silent situations are left out
  listed_but : (situations : List (List Answer)) → own_rows_but (λ s. is_silent (f s)) f situations ≡ listed_rows f situations
  unfolding own_rows_but listed_rows
  listed_but [] = refl
  listed_but (s ∷ situations) = ap (λ rows. cond (is_silent (f s)) rows (own_row (f s) s ∷ rows)) (listed_but situations)

  listed-count : (situations : List (List Answer)) → length (listed_rows f situations) ≡ count (λ s. not (is_silent (f s))) situations
  unfolding listed_rows count
  listed-count [] = refl
  listed-count (s ∷ situations) = go (is_silent (f s)) (listed_rows f situations) (listed-count situations)
    where
      go :
          (b : Bool) (rows : List Row) {k : ℕ} →
          length rows ≡ k →
          length (cond b rows (own_row (f s) s ∷ rows)) ≡ cond (not b) (suc k) k
      go true rows e = e
      go false rows e = ap suc e

  -- how many rows
  pub listed-rows : (n : ℕ) → length (listed f n).rows ≡ answered f n
  unfolding answered
  listed-rows n = listed-count (situations_of n)

  pub answered-most : (n : ℕ) → n ≤ 6 → answered f n ≤ 4 ^ n
  unfolding answered
  answered-most n few =
      let most = count_most (λ s. not (is_silent (f s))) (situations_of n) in
      let all = situations_from-length n 0 (weight n) ∙ weight_power n few in
      omega (arith, most, all)

  pub answered-few : (n : ℕ) → n ≤ 3 → answered f n ≤ 64
  answered-few n three =
      let most = answered-most n (omega arith) in
      omega (arith, most, pow-le-pow_right {n = 4} (zero-lt-suc 3) {i = n} {j = 3} three)

  module _ (n : ℕ) (few : n ≤ 6) where
    abbrev rows : List Row
    rows = (listed f n).rows

    -- the rows of the situations with an answer other than silent
    pub listed_lists : Lists f n rows
    listed_lists = rw (← listed_but (situations_of n)) but_lists
      where
        but_lists : Lists f n (own_rows_but (λ s. is_silent (f s)) f (situations_of n))
        but_lists =
            record {
              each = λ i l.
                  let own = own_rows-is (λ s. is_silent (f s)) f n few i l in
                  let s = situation_at n own.at in
                  (s, situation_at-length n own.at, λ e. eqb-false (number (f s)) 0 own.free (ap number e), own.same);
              once = λ s long loud.
                  own_rows-once (λ s. is_silent (f s)) f n few s long (ne_eqb (number (f s)) 0 (λ e. loud (silent_is (f s) e)));
              order = own_rows_rise (λ s. is_silent (f s)) f n few;
            }

    pub listed-bytes : length (table_bytes (listed f n)) ≡ 4 + answered f n * (n + 4)
    listed-bytes = bytes-long f n ∙ ap (λ rows. 4 + rows * (n + 4)) (listed-rows n)

    pub listed_formed : 1 ≤ n → answered f n ≤ 64 → WellFormed (listed f n)
    unfolding Wide
    listed_formed some most =
        record { some-column = some; few-columns = few; few-rows = rw (listed-rows n) most; wide = rows-wide f n (weight n) 0 }

    -- a row that matches gives what f answers
    listed_gives :
        (s : List Answer) → length s ≡ n → (i : ℕ) → i < length rows → T (matches (row rows i).cells s) → (row rows i).outcome ≡ f s
    listed_gives s long i l h =
        let r = listed_lists.each i l in
        ap (λ (r : Row). r.outcome) r.3 ∙ ap f (own_only r.0 s (r.1 ∙ sym long) (rw r.3 at h))

    pub listed_consistent : Consistent (listed f n)
    listed_consistent =
        record { agree = λ i j k l s long p q. listed_gives s long i k p ∙ sym (listed_gives s long j l q) }

    pub listed-says : (s : List Answer) → length s ≡ n → says (listed f n) s ≡ f s
    listed-says s long =
        ⊎_elim (λ none. says_none Silent rows s none ∙ sym (quiet none (is_silent (f s)) refl))
        (λ r. r.1.gives ∙ listed_gives s long r.0 r.1.inside r.1.matched)
        (says_either Silent rows s)
      where
        quiet : ((i : ℕ) → i < length rows → T (matches (row rows i).cells s) → ⊥) → (b : Bool) → is_silent (f s) ≡ b → f s ≡ Silent
        quiet none true e = silent_is (f s) (eqb-true (number (f s)) 0 e)
        quiet none false e =
            let own = listed_lists.once s long (λ z. eqb-false (number (f s)) 0 e (ap number z)) in
            absurd (none own.0 own.1 (rw own.2 (own_matches s)))

-- it is made of the answers at situations of n columns, and of nothing else
pub table_same :
    (f g : List Answer → Answer) (n : ℕ) →
    ((s : List Answer) → length s ≡ n → f s ≡ g s) →
    listed f n ≡ listed g n
table_same f g n e = ap (λ (rows : List Row). record { columns = n; default = unwritten; rows = rows }) (listed_same f g n e)

pub answered-same :
    (f g : List Answer → Answer) (n : ℕ) →
    ((s : List Answer) → length s ≡ n → f s ≡ g s) →
    answered f n ≡ answered g n
answered-same f g n e = sym (listed-rows f n) ∙ ap (λ (t : Table). length t.rows) (table_same f g n e) ∙ listed-rows g n
