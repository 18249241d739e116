-- No other rows list what f answers at situations of n columns.
use Prim.Native.Nat.{ℕ, zero, suc, ◌+◌, ◌^◌, ◌≤◌, ◌<◌}
use mathlib.Core.Path.{◌≡◌, refl, ap, ap₂, subst, sym, ◌∙◌}
use mathlib.Core.Logic.{⊎_elim}
use mathlib.Core.Bool.{Bool, true, false, cond}
use mathlib.Core.List.{List, [], ◌∷◌}
use lib.Dec.{T}
use lib.ListN.{length}
use borrow.Author.Tests.{ne_eqb, eqb-false}
use native.Mathlib.Nat.{eq-or-lt_of_le}
use native.Mathlib.Omega.{arith}
use Rattle.answers.specs.Meaning.{number}
use Rattle.answers.specs.declared.Answer.{Answer}
use Rattle.situations.specs.Meaning.{index, situation_at}
use Rattle.situations.proofs.Numbers.{situation_at-length, situation_at-index, index-situation_at, index-small}
use Rattle.situations.proofs.Weights.{weight_power}
use Rattle.base4.specs.Meaning.{situations_from, situations_of}
use Rattle.rows.specs.Meaning.{Row, row}
use Rattle.formula.specs.Meaning.{is_silent, own_row}
use Rattle.selection.proofs.OwnRows.{own_same}
use Rattle.selection.proofs.Answering.{silent_is}
use Rattle.listing.specs.Meaning.{listed_rows}
use Rattle.recovering.specs.Meaning.{Lists}

module _ (f : List Answer → Answer) (n : ℕ) where
  abbrev own : ℕ → Row
  own v = own_row (f (situation_at n v)) (situation_at n v)

  abbrev silent : ℕ → Bool
  silent v = is_silent (f (situation_at n v))

  -- rows that list what f answers at the m situations from number w on
  record Between (w m : ℕ) (rows : List Row) : Type 0 where
    each : (i : ℕ) → i < length rows → (v : ℕ) × (w ≤ v) × (v < w + m) × (silent v ≡ false) × (row rows i ≡ own v)
    has : (v : ℕ) → w ≤ v → v < w + m → silent v ≡ false → (i : ℕ) × (i < length rows) × (row rows i ≡ own v)
    order :
        (i j : ℕ) → i < j → j < length rows → (v u : ℕ) → v < 4 ^ n → u < 4 ^ n → row rows i ≡ own v → row rows j ≡ own u → v < u

  own_number : (v u : ℕ) → v < 4 ^ n → u < 4 ^ n → own v ≡ own u → v ≡ u
  own_number v u l k e =
      sym (index-situation_at n v l)
      ∙ ap index (own_same (f (situation_at n v)) (f (situation_at n u)) (situation_at n v) (situation_at n u) e)
      ∙ index-situation_at n u k

  -- a silent situation in front has no row
  skipped : (w m : ℕ) (rows : List Row) → silent w ≡ true → Between w (suc m) rows → Between (suc w) m rows
  skipped w m rows e b =
      record {
        each = λ i l.
            let r = b.each i l in
            let below = r.2 in
            ⊎_elim (λ q. absurd (subst T (sym e ∙ ap silent q ∙ r.3) tt)) (λ q. (r.0, q, omega (arith, below), r.3, r.4))
            (eq-or-lt_of_le {n = w} {m = r.0} r.1);
        has = λ v k l. b.has v (omega (arith, k)) (omega (arith, l));
        order = b.order;
      }

  module _ (w m : ℕ) (r : Row) (rest : List Row) (few : w + suc m ≤ 4 ^ n) (b : Between w (suc m) (r ∷ rest)) where
    -- any other has the first one
    first : silent w ≡ false → r ≡ own w
    first e = go (b.has w (omega arith) (omega arith) e)
      where
        go : (i : ℕ) × (i < length (r ∷ rest)) × (row (r ∷ rest) i ≡ own w) → r ≡ own w
        go (zero, l, q) = q
        go (suc i, l, q) =
            let o = b.each 0 (omega arith) in
            let least = o.1 in
            let below = o.2 in
            let less = b.order 0 (suc i) (omega arith) l o.0 w (omega arith) (omega arith) o.4 q in
            absurd (omega arith)

    later : r ≡ own w → Between (suc w) m rest
    later e =
        record {
          each = λ i l.
              let o = b.each (suc i) (omega (arith, l)) in
              let below = o.2 in
              let more = b.order 0 (suc i) (omega arith) (omega (arith, l)) w o.0 (omega arith) (omega arith) e o.4 in
              (o.0, omega arith, omega arith, o.3, o.4);
          has = λ v k l h. behind v k l (b.has v (omega (arith, k)) (omega (arith, l)) h);
          order = λ i j less l. b.order (suc i) (suc j) (omega (arith, less)) (omega (arith, l));
        }
      where
        behind :
            (v : ℕ) →
            suc w ≤ v →
            v < suc w + m →
            (i : ℕ) × (i < length (r ∷ rest)) × (row (r ∷ rest) i ≡ own v) →
            (i : ℕ) × (i < length rest) × (row rest i ≡ own v)
        behind v k l (zero, inside, q) =
            absurd (let same = own_number w v (omega arith) (omega arith) (sym e ∙ q) in omega arith)
        behind v k l (suc i, inside, q) = (i, omega arith, q)

  between_only : (m w : ℕ) (rows : List Row) → w + m ≤ 4 ^ n → Between w m rows → rows ≡ listed_rows f (situations_from n w m)
  unfolding listed_rows situations_from
  between_only zero w [] few b = refl
  between_only zero w (r ∷ rows) few b =
      let o = b.each 0 (omega arith) in
      let least = o.1 in
      let below = o.2 in
      absurd (omega arith)
  between_only (suc m) w rows few b = go (λ rows. between_only m (suc w) rows (omega arith)) (silent w) refl rows b
    where
      go :
          ((rows : List Row) → Between (suc w) m rows → rows ≡ listed_rows f (situations_from n (suc w) m)) →
          (t : Bool) →
          silent w ≡ t →
          (rows : List Row) →
          Between w (suc m) rows →
          rows ≡ cond t (listed_rows f (situations_from n (suc w) m)) (own w ∷ listed_rows f (situations_from n (suc w) m))
      go again true e rows b = again rows (skipped w m rows e b)
      go again false e [] b = absurd (let h = b.has w (omega arith) (omega arith) e in let l = h.1 in omega arith)
      go again false e (r ∷ rest) b =
          let q = first w m r rest few b e in
          ap₂ ◌∷◌ q (again rest (later w m r rest few b q))

  pub lists_only : n ≤ 6 → (rows : List Row) → Lists f n rows → rows ≡ listed_rows f (situations_of n)
  lists_only few rows lists = rw (weight_power n few) (between_only (4 ^ n) 0 rows (omega arith) between)
    where
      numbered : (v : ℕ) → v < 4 ^ n → index (situation_at n v) ≡ v
      numbered v = index-situation_at n v

      between : Between 0 (4 ^ n) rows
      between =
          record {
            each = λ i l.
                let o = lists.each i l in
                let s = o.0 in
                let here : situation_at n (index s) ≡ s = rw (← o.1) (situation_at-index s) in
                let small : index s < 4 ^ n = rw (← o.1) (index-small s) in (
                  index s,
                  omega arith,
                  omega arith,
                  rw here (ne_eqb (number (f s)) 0 (λ e. o.2 (silent_is (f s) e))),
                  rw here o.3,
                );
            has = λ v k l h.
                let o =
                lists.once (situation_at n v) (situation_at-length n v)
                (λ e. eqb-false (number (f (situation_at n v))) 0 h (ap number e)) in
                (o.0, o.1, o.2);
            order = λ i j less l v u k h p q.
                rw (numbered v k, numbered u h) at (lists.order i j less l (situation_at n v) (situation_at n u) p q);
          }
