-- Rows of their own for all situations but some that are left out, in base-4 order: each stands for a situation that is not left out,
-- and every such situation has exactly one.
use Prim.Native.Nat.{ℕ, zero, suc, ◌+◌, ◌^◌, ◌≤◌, ◌<◌}
use mathlib.Core.Path.{◌≡◌, refl, ap, ap₂, subst, sym, ◌∙◌}
use mathlib.Core.Bool.{Bool, true, false, cond, ◌&&◌}
use mathlib.Core.List.{List, [], ◌∷◌, map}
use lib.Dec.{T, eqb}
use lib.ListN.{length, length-map}
use borrow.Author.Tests.{eq-eqb, eqb-true, eqb-false}
use native.Mathlib.Omega.{arith}
use Rattle.answers.specs.Meaning.{number}
use Rattle.answers.specs.declared.Answer.{Answer}
use Rattle.situations.specs.Meaning.{index, situation_at}
use Rattle.situations.proofs.Numbers.{situation_at-index, index-situation_at, index-small}
use Rattle.situations.proofs.Weights.{weight_power}
use Rattle.base4.specs.Meaning.{situations_from, situations_of}
use Rattle.rows.specs.Meaning.{is, Row, row, matches}
use Rattle.accepting.proofs.SharedSituations.{number_same}
use Rattle.formula.specs.Meaning.{own_row}

-- a row of a situation's answers matches that situation, and no other one of as many columns
pub own_matches : (s : List Answer) → T (matches (map is s) s)
unfolding matches
own_matches [] = tt
own_matches (a ∷ s) = rw (eq-eqb (number a) (number a) refl) (own_matches s)

pub own_only : (s u : List Answer) → length s ≡ length u → T (matches (map is s) u) → s ≡ u
unfolding matches
own_only [] [] l h = refl
own_only [] (b ∷ u) l h = absurd (omega arith)
own_only (a ∷ s) [] l h = absurd h
own_only (a ∷ s) (b ∷ u) l h = go (eqb (number a) (number b)) refl (own_only s u (omega arith)) h
  where
    go :
        (t : Bool) →
        eqb (number a) (number b) ≡ t →
        (T (matches (map is s) u) → s ≡ u) →
        T (t && matches (map is s) u) →
        a ∷ s ≡ b ∷ u
    go true e again h = ap₂ ◌∷◌ (number_same a b (eqb-true (number a) (number b) e)) (again h)
    go false e again h = absurd h

-- so it is no other situation's row
pub own_same : (a b : Answer) (s u : List Answer) → own_row a s ≡ own_row b u → s ≡ u
own_same a b s u e =
    let cells = ap (λ (r : Row). r.cells) e in
    own_only s u (sym (length-map s is) ∙ ap length cells ∙ length-map u is) (rw cells (own_matches u))

-- the rows of the situations that are not left out, each with its outcome
unfoldable pub own_rows_but : (List Answer → Bool) → (List Answer → Answer) → List (List Answer) → List Row
own_rows_but skip out [] = []
own_rows_but skip out (s ∷ situations) = cond (skip s) (own_rows_but skip out situations) (own_row (out s) s ∷ own_rows_but skip out situations)

module _ (skip : List Answer → Bool) (out : List Answer → Answer) (n : ℕ) where
  abbrev rows_from : ℕ → ℕ → List Row
  rows_from w m = own_rows_but skip out (situations_from n w m)

  abbrev own : List Answer → Row
  own s = own_row (out s) s

  -- the row of a situation with a number from w on, below w + m, that is not left out
  pub record Own (w m : ℕ) (r : Row) : Type 0 where
    pub at : ℕ
    pub least : w ≤ at
    pub below : at < w + m
    pub free : skip (situation_at n at) ≡ false
    pub same : r ≡ own_row (out (situation_at n at)) (situation_at n at)

  own_later : (w m : ℕ) (r : Row) → Own (suc w) m r → Own w (suc m) r
  own_later w m r o =
      let l = o.least in
      let b = o.below in
      record { at = o.at; least = omega arith; below = omega arith; free = o.free; same = o.same }

  rows_from-is : (m w i : ℕ) → i < length (rows_from w m) → Own w m (row (rows_from w m) i)
  unfolding own_rows_but situations_from
  rows_from-is zero w = λ i l. absurd (omega (arith, l))
  rows_from-is (suc m) w = go (skip (situation_at n w)) refl (rows_from (suc w) m) (rows_from-is m (suc w))
    where
      go :
          (b : Bool) →
          skip (situation_at n w) ≡ b →
          (rest : List Row) →
          ((i : ℕ) → i < length rest → Own (suc w) m (row rest i)) →
          (i : ℕ) →
          i < length (cond b rest (own (situation_at n w) ∷ rest)) →
          Own w (suc m) (row (cond b rest (own (situation_at n w) ∷ rest)) i)
      go true e rest again i l = own_later w m (row rest i) (again i l)
      go false e rest again zero l = record { at = w; least = omega arith; below = omega arith; free = e; same = refl }
      go false e rest again (suc i) l = own_later w m (row rest i) (again i (omega arith))

  module _ (s : List Answer) (long : length s ≡ n) where
    own_at : (w : ℕ) → index s ≡ w → situation_at n w ≡ s
    own_at w e = rw (← long, ← e) (situation_at-index s)

    rows_from-has :
        (m w : ℕ) →
        w ≤ index s →
        index s < w + m →
        skip s ≡ false →
        (i : ℕ) × (i < length (rows_from w m)) × (row (rows_from w m) i ≡ own s)
    unfolding own_rows_but situations_from
    rows_from-has zero w k l f = absurd (omega arith)
    rows_from-has (suc m) w k l f =
        go (eqb (index s) w) refl (skip (situation_at n w)) refl (rows_from (suc w) m) (λ j. rows_from-has m (suc w) j (omega arith) f)
      where
        go :
            (here : Bool) →
            eqb (index s) w ≡ here →
            (b : Bool) →
            skip (situation_at n w) ≡ b →
            (rest : List Row) →
            (suc w ≤ index s → (i : ℕ) × (i < length rest) × (row rest i ≡ own s)) →
            (i : ℕ)
            × (i < length (cond b rest (own (situation_at n w) ∷ rest)))
            × (row (cond b rest (own (situation_at n w) ∷ rest)) i ≡ own s)
        go true e false g rest again = (0, omega arith, ap own (own_at w (eqb-true (index s) w e)))
        go true e true g rest again = absurd (subst T (sym g ∙ ap skip (own_at w (eqb-true (index s) w e)) ∙ f) tt)
        go false e true g rest again = again (let other = eqb-false (index s) w e in omega arith)
        go false e false g rest again =
            let a = again (let other = eqb-false (index s) w e in omega arith) in
            (suc a.0, let inside = a.1 in omega arith, a.2)

  -- their numbers rise
  rows_from_rise :
      (m w i j : ℕ) →
      w + m ≤ 4 ^ n →
      i < j →
      j < length (rows_from w m) →
      (s u : List Answer) →
      row (rows_from w m) i ≡ own s →
      row (rows_from w m) j ≡ own u →
      index s < index u
  unfolding own_rows_but situations_from
  rows_from_rise zero w i j few order l s u = absurd (omega arith)
  rows_from_rise (suc m) w i j few order l s u =
      go (skip (situation_at n w)) (rows_from (suc w) m) (rows_from-is m (suc w))
      (λ i j order l. rows_from_rise m (suc w) i j (omega arith) order l s u) i j order l
    where
      number_is : (v : ℕ) (s : List Answer) → v < 4 ^ n → own (situation_at n v) ≡ own s → index s ≡ v
      number_is v s few e =
          ap index (sym (own_same (out (situation_at n v)) (out s) (situation_at n v) s e)) ∙ index-situation_at n v few

      go :
          (b : Bool) (rest : List Row) →
          ((i : ℕ) → i < length rest → Own (suc w) m (row rest i)) →
          ((i j : ℕ) → i < j → j < length rest → row rest i ≡ own s → row rest j ≡ own u → index s < index u) →
          (i j : ℕ) →
          i < j →
          j < length (cond b rest (own (situation_at n w) ∷ rest)) →
          row (cond b rest (own (situation_at n w) ∷ rest)) i ≡ own s →
          row (cond b rest (own (situation_at n w) ∷ rest)) j ≡ own u →
          index s < index u
      go true rest each again i j order l e f = again i j order l e f
      go false rest each again i zero order l e f = absurd (omega arith)
      go false rest each again (suc i) (suc j) order l e f = again i j (omega arith) (omega arith) e f
      go false rest each again zero (suc j) order l e f =
          let o = each j (omega arith) in
          let above : suc w ≤ o.at = o.least in
          let most : o.at < suc w + m = o.below in
          let one = number_is w s (omega arith) e in
          let other = number_is o.at u (omega arith) (sym o.same ∙ f) in
          omega arith

  -- all of them
  module _ (few : n ≤ 6) where
    abbrev rows : List Row
    rows = own_rows_but skip out (situations_of n)

    pub own_rows-is : (i : ℕ) → i < length rows → Own 0 (4 ^ n) (row rows i)
    own_rows-is = rw (weight_power n few) (rows_from-is (4 ^ n) 0)

    pub own_rows_rise :
        (i j : ℕ) → i < j → j < length rows → (s u : List Answer) → row rows i ≡ own s → row rows j ≡ own u → index s < index u
    own_rows_rise = rw (weight_power n few) (λ i j. rows_from_rise (4 ^ n) 0 i j (omega arith))

    pub own_rows-once :
        (s : List Answer) →
        length s ≡ n →
        skip s ≡ false →
        (i : ℕ) × (i < length rows) × (row rows i ≡ own s) × ((j : ℕ) → j < length rows → row rows j ≡ own s → j ≡ i)
    own_rows-once s long f =
        let a = has in (
          a.0,
          a.1,
          a.2,
          λ j l e.
              let before : j < a.0 → ⊥ = λ m. let k = own_rows_rise j a.0 m a.1 s s e a.2 in omega arith in
              let behind : a.0 < j → ⊥ = λ m. let k = own_rows_rise a.0 j m l s s a.2 e in omega arith in
              omega arith,
        )
      where
        has : (i : ℕ) × (i < length rows) × (row rows i ≡ own s)
        has = rw (weight_power n few) (rows_from-has s long (4 ^ n) 0 (omega arith) (rw (← long) (omega (arith, index-small s))) f)
