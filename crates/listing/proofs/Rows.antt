-- The rows of situations one after another, and their bytes.
use Prim.Native.Nat.{ℕ, zero, suc, ◌+◌, ◌-◌, ◌*◌, ◌≤◌, ◌<◌}
use mathlib.Core.Path.{◌≡◌, refl, ap, ap₂, sym, ◌∙◌}
use mathlib.Core.Bool.{Bool, true, false, cond}
use mathlib.Core.List.{List, [], ◌∷◌, ◌++◌}
use lib.ListN.{length, length-map}
use native.Mathlib.Nat.{mul-le-mul, add-zero}
use native.Mathlib.Omega.{arith}
use Rattle.answers.specs.declared.Answer.{Answer}
use Rattle.answers.specs.declared.Answer.TheVariants.{Silent}
use Rattle.situations.specs.Meaning.{weight, situation_at}
use Rattle.situations.proofs.Numbers.{situation_at-length}
use Rattle.base4.specs.Meaning.{situations_from, situations_of}
use Rattle.rows.specs.Meaning.{is, Row, row_field, row_fields, row_width}
use Rattle.accepting.proofs.RowsEncoding.{Wide, row_fields-length}
use Rattle.formula.specs.Meaning.{is_silent, own_row}
use Rattle.listing.specs.Meaning.{listed_rows}
use Rattle.listing.specs.Inside.{answer_bytes, listed_from}

module _ (f : List Answer → Answer) (n : ℕ) where
  -- the first situation, then the others
  pub from_next :
      (w m : ℕ) →
      listed_from f n w (suc m) ≡ answer_bytes (f (situation_at n w)) (situation_at n w) ++ listed_from f n (suc w) m
  unfolding listed_from listed_rows row_fields situations_from
  from_next w m = go (is_silent (f (situation_at n w)))
    where
      s : List Answer
      s = situation_at n w

      rest : List Row
      rest = listed_rows f (situations_from n (suc w) m)

      go :
          (b : Bool) →
          row_fields (cond b rest (own_row (f s) s ∷ rest)) ≡ cond b [] (row_field (own_row (f s) s)) ++ row_fields rest
      go true = refl
      go false = refl

  pub from_none : (w : ℕ) → listed_from f n w 0 ≡ []
  unfolding listed_from listed_rows row_fields situations_from
  from_none w = refl

  -- silent situations add nothing
  pub from_silent :
      (k w m : ℕ) →
      ((j : ℕ) → w ≤ j → j < w + k → j < w + m → f (situation_at n j) ≡ Silent) →
      listed_from f n w m ≡ listed_from f n (w + k) (m - k)
  from_silent zero w m h = ap₂ (listed_from f n) (sym (add-zero w)) (omega arith)
  from_silent (suc k) w zero h = from_none w ∙ sym (from_none (w + suc k)) ∙ ap (listed_from f n (w + suc k)) (omega arith)
  from_silent (suc k) w (suc m) h =
      from_next w m
      ∙ (rw (h w (omega arith) (omega arith) (omega arith))
      (from_silent k (suc w) m (λ j a b c. h j (omega arith) (omega arith) (omega arith))))
      ∙ ap₂ (listed_from f n) {x = suc w + k} {u = m - k} (omega arith) (omega arith)

  -- each row has n cells, and there are no more rows than situations
  pub rows-wide : (m w : ℕ) → Wide n (listed_rows f (situations_from n w m))
  unfolding listed_rows situations_from Wide
  rows-wide zero w = λ i l. absurd (omega (arith, l))
  rows-wide (suc m) w = go (is_silent (f (situation_at n w))) (listed_rows f (situations_from n (suc w) m)) (rows-wide m (suc w))
    where
      go :
          (b : Bool) (rest : List Row) →
          Wide n rest →
          Wide n (cond b rest (own_row (f (situation_at n w)) (situation_at n w) ∷ rest))
      go true rest again i l = again i l
      go false rest again zero l = length-map (situation_at n w) is ∙ situation_at-length n w
      go false rest again (suc i) l = again i (omega arith)

  rows_few : (m w : ℕ) → length (listed_rows f (situations_from n w m)) ≤ m
  unfolding listed_rows situations_from
  rows_few zero w = omega arith
  rows_few (suc m) w = go (is_silent (f (situation_at n w))) (listed_rows f (situations_from n (suc w) m)) (rows_few m (suc w))
    where
      go :
          (b : Bool) (rest : List Row) →
          length rest ≤ m →
          length (cond b rest (own_row (f (situation_at n w)) (situation_at n w) ∷ rest)) ≤ suc m
      go true rest again = omega arith
      go false rest again = omega arith

  -- how long they are
  pub from_length : (w m : ℕ) → length (listed_from f n w m) ≡ length (listed_rows f (situations_from n w m)) * row_width n
  unfolding listed_from
  from_length w m = row_fields-length n (listed_rows f (situations_from n w m)) (rows-wide m w)

  pub rows_short : (w m : ℕ) → n ≤ 6 → m ≤ 4096 → length (listed_rows f (situations_from n w m)) * row_width n ≤ 40960
  rows_short w m few most =
      let rows = rows_few m w in
      mul-le-mul {n₁ = length (listed_rows f (situations_from n w m))} {m₁ = row_width n} {n₂ = 4096} {m₂ = 10} (omega arith) (omega arith)

-- answers that agree on the situations of n columns have the same rows
module _ (f g : List Answer → Answer) (n : ℕ) (agree : (s : List Answer) → length s ≡ n → f s ≡ g s) where
  rows_same : (m w : ℕ) → listed_rows f (situations_from n w m) ≡ listed_rows g (situations_from n w m)
  unfolding listed_rows situations_from
  rows_same zero w = refl
  rows_same (suc m) w =
      ap₂ (λ a rest. cond (is_silent a) rest (own_row a (situation_at n w) ∷ rest)) (agree (situation_at n w) (situation_at-length n w))
      (rows_same m (suc w))

  pub listed_same : listed_rows f (situations_of n) ≡ listed_rows g (situations_of n)
  listed_same = rows_same (weight n) 0
