-- The search of pairs finds none exactly if the rows are consistent, and else the first pair that disagrees.
use Prim.Native.Nat.{ℕ, ◌<◌}
use mathlib.Core.Path.{◌≡◌, refl, ap, sym, ◌∙◌}
use mathlib.Core.Bool.{Bool, true, false, cond}
use mathlib.Core.List.{List}
use lib.Dec.{T, eqb}
use lib.ListN.{length}
use borrow.Author.Tests.{eqb-true, eqb-false}
use native.Mathlib.Omega.{arith}
use Rattle.refusals.specs.Meaning.{Numbers, none, first_refusal, OVERLAP}
use Rattle.refusals.proofs.First.{first-none, first-all, first_found}
use Rattle.answers.specs.Meaning.{number}
use Rattle.answers.specs.declared.Answer.{Answer}
use Rattle.rows.specs.Meaning.{row, matches, Disagree, row_count, rows_in, pair_fault, overlap_of, overlap_in, disagree_at, first_overlap}
use Rattle.faults.specs.Meaning.{columns_of}
use Rattle.tables.specs.Meaning.{Table, Consistent, FirstDisagreement, rows_part, table_of}
use Rattle.accepting.proofs.SharedSituations.{number_same, disagree-shared, shared-disagree}
use Rattle.accepting.proofs.RowsIn.{rows_in-length, rows_in-row}

-- a pair of rows is a fault exactly if it is bad
module _ (bad : ℕ → ℕ → Bool) (later earlier : ℕ) where
  pair-none : (pair_fault bad later earlier).number ≡ 0 → T (bad later earlier) → ⊥
  pair-none h b = go (bad later earlier) h b
    where
      go : (t : Bool) → (cond t (record { number = OVERLAP; place = later; second = earlier }) none).number ≡ 0 → T t → ⊥
      go true h b = omega (arith, h)
      go false h b = b

  none-pair : (T (bad later earlier) → ⊥) → (pair_fault bad later earlier).number ≡ 0
  none-pair h = go (bad later earlier) h
    where
      go : (t : Bool) → (T t → ⊥) → (cond t (record { number = OVERLAP; place = later; second = earlier }) none).number ≡ 0
      go true h = absurd (h tt)
      go false h = refl

  pair_bad :
      ((pair_fault bad later earlier).number ≡ 0 → ⊥) →
      T (bad later earlier) × (pair_fault bad later earlier ≡ record { number = OVERLAP; place = later; second = earlier })
  pair_bad h = go (bad later earlier) h
    where
      go :
          (t : Bool) →
          ((cond t (record { number = OVERLAP; place = later; second = earlier }) none).number ≡ 0 → ⊥) →
          T t
          × (cond t (record { number = OVERLAP; place = later; second = earlier }) none
          ≡ record { number = OVERLAP; place = later; second = earlier })
      go true h = (tt, refl)
      go false h = absurd (h refl)

-- the search of pairs
module _ (bad : ℕ → ℕ → Bool) (rows : ℕ) where
  overlap_in-none :
      (overlap_in bad rows).number ≡ 0 →
      (later earlier : ℕ) →
      later < rows →
      earlier < later →
      T (bad later earlier) →
      ⊥
  unfolding overlap_in overlap_of
  overlap_in-none h later earlier l k =
      pair-none bad later earlier (first-none (pair_fault bad later) later (first-none (overlap_of bad) rows h later l) earlier k)

  none-overlap_in :
      ((later earlier : ℕ) → later < rows → earlier < later → T (bad later earlier) → ⊥) →
      (overlap_in bad rows).number ≡ 0
  unfolding overlap_in overlap_of
  none-overlap_in h =
      first-all (overlap_of bad) rows
      (λ later l. first-all (pair_fault bad later) later (λ earlier k. none-pair bad later earlier (h later earlier l k)))

  -- the first pair that is bad
  record FirstPair (later earlier : ℕ) : Type 0 where
    same : overlap_in bad rows ≡ record { number = OVERLAP; place = later; second = earlier }
    inside : later < rows
    order : earlier < later
    here : T (bad later earlier)
    later_smallest : (l e : ℕ) → l < later → e < l → T (bad l e) → ⊥
    earlier_smallest : (e : ℕ) → e < earlier → T (bad later e) → ⊥

  overlap_in-first : ((overlap_in bad rows).number ≡ 0 → ⊥) → (later : ℕ) × (earlier : ℕ) × FirstPair later earlier
  unfolding overlap_in overlap_of
  overlap_in-first h =
      let w = first_found (overlap_of bad) rows h in
      let later = w.0 in
      let f : (first_refusal (pair_fault bad later) later).number ≡ 0 → ⊥ =
      λ e. h (ap (λ (x : Numbers). x.number) w.1.same ∙ e) in
      let v = first_found (pair_fault bad later) later f in
      let earlier = v.0 in
      let u = pair_bad bad later earlier (λ e. f (ap (λ (x : Numbers). x.number) v.1.same ∙ e)) in (
        later,
        earlier,
        record {
          same = w.1.same ∙ v.1.same ∙ u.1;
          inside = w.1.inside;
          order = v.1.inside;
          here = u.0;
          later_smallest = λ l e k j. pair-none bad l e (first-none (pair_fault bad l) l (w.1.before l k) e j);
          earlier_smallest = λ e k. pair-none bad later e (v.1.before e k);
        },
      )

same_outcome : (p q : Answer) → ((p ≡ q → ⊥) → ⊥) → p ≡ q
same_outcome p q h = go (eqb (number p) (number q)) refl
  where
    go : (b : Bool) → eqb (number p) (number q) ≡ b → p ≡ q
    go true e = number_same p q (eqb-true (number p) (number q) e)
    go false e = absurd (h (λ o. eqb-false (number p) (number q) e (ap number o)))

-- the rows of bytes that are a table, each as wide as it is
module _ (t : List ℕ) (wide : (i : ℕ) → i < length (table_of t).rows → length (row (table_of t).rows i).cells ≡ columns_of t) where
  abbrev n : ℕ
  n = columns_of t

  abbrev part : List ℕ
  part = rows_part t

  row-wide : (i : ℕ) → i < row_count n part → length (row (rows_in n part) i).cells ≡ n
  row-wide i l = wide i (rw (rows_in-length n part) l)

  bad_disagree :
      (i j : ℕ) →
      i < row_count n part →
      j < row_count n part →
      T (disagree_at n part i j) →
      Disagree n (row (rows_in n part) i) (row (rows_in n part) j)
  unfolding disagree_at
  bad_disagree i j l k h =
      disagree-shared n (row (rows_in n part) i) (row (rows_in n part) j) (row-wide i l) (row-wide j k)
      (rw (rows_in-row n part i l, rows_in-row n part j k) h)

  disagree_bad :
      (i j : ℕ) →
      i < row_count n part →
      j < row_count n part →
      Disagree n (row (rows_in n part) i) (row (rows_in n part) j) →
      T (disagree_at n part i j)
  unfolding disagree_at
  disagree_bad i j l k w =
      rw (rows_in-row n part i l, rows_in-row n part j k) at (shared-disagree n (row (rows_in n part) i) (row (rows_in n part) j) w)

  -- no pair is found exactly if the table is consistent
  pub consistent_clear : Consistent (table_of t) → (first_overlap n part).number ≡ 0
  consistent_clear c =
      none-overlap_in (disagree_at n part) (row_count n part)
      (λ later earlier l k h.
      let w = bad_disagree later earlier l (omega (arith, l, k)) h in
      let s = w.shared in
      w.differ
      (c.agree later earlier (rw (rows_in-length n part) l) (rw (rows_in-length n part) (omega (arith, l, k))) s.situation s.wide
      s.one s.other))

  pub clear_consistent : (first_overlap n part).number ≡ 0 → Consistent (table_of t)
  clear_consistent h = record { agree = agree }
    where
      later :
          (i j : ℕ) →
          i < row_count n part →
          j < i →
          (s : List Answer) →
          length s ≡ n →
          T (matches (row (rows_in n part) i).cells s) →
          T (matches (row (rows_in n part) j).cells s) →
          ((row (rows_in n part) i).outcome ≡ (row (rows_in n part) j).outcome → ⊥) →
          ⊥
      later i j l k s w p q differ =
          overlap_in-none (disagree_at n part) (row_count n part) h i j l k
          (disagree_bad i j l (omega arith) (record { shared = record { situation = s; wide = w; one = p; other = q }; differ = differ }))

      agree :
          (i j : ℕ) →
          i < length (rows_in n part) →
          j < length (rows_in n part) →
          (s : List Answer) →
          length s ≡ n →
          T (matches (row (rows_in n part) i).cells s) →
          T (matches (row (rows_in n part) j).cells s) →
          (row (rows_in n part) i).outcome ≡ (row (rows_in n part) j).outcome
      agree i j l k s w p q =
          same_outcome (row (rows_in n part) i).outcome (row (rows_in n part) j).outcome
          (λ differ.
          let f : j < i → ⊥ = λ m. later i j (rw (rows_in-length n part) at l) m s w p q differ in
          let g : i < j → ⊥ = λ m. later j i (rw (rows_in-length n part) at k) m s w q p (λ e. differ (sym e)) in
          let same : i ≡ j = omega arith in
          differ (ap (λ x. (row (rows_in n part) x).outcome) same))

  -- else the first pair that disagrees is named
  first-pair :
      (later earlier : ℕ) →
      FirstPair (disagree_at n part) (row_count n part) later earlier →
      FirstDisagreement (table_of t) later earlier
  first-pair later earlier w =
      let inside : later < row_count n part = w.inside in
      let order : earlier < later = w.order in
      record {
        inside = rw (rows_in-length n part) inside;
        order = order;
        here = bad_disagree later earlier inside (omega arith) w.here;
        later_smallest = λ l e k j b. w.later_smallest l e k j (disagree_bad l e (omega (arith, k)) (omega (arith, k, j)) b);
        earlier_smallest = λ e k b. w.earlier_smallest e k (disagree_bad later e inside (omega (arith, k)) b);
      }

  pub overlap-first :
      ((first_overlap n part).number ≡ 0 → ⊥) →
      (later : ℕ)
      × (earlier : ℕ)
      × (first_overlap n part ≡ record { number = OVERLAP; place = later; second = earlier })
      × FirstDisagreement (table_of t) later earlier
  overlap-first h =
      let v = overlap_in-first (disagree_at n part) (row_count n part) h in
      (v.0, v.1, v.2.same, first-pair v.0 v.1 v.2)

-- a first pair that disagrees leaves the table not consistent
pub first_inconsistent : (t : Table) (later earlier : ℕ) → FirstDisagreement t later earlier → Consistent t → ⊥
first_inconsistent t later earlier w c =
    let l : later < length t.rows = w.inside in
    let k : earlier < later = w.order in
    let s = w.here.shared in
    w.here.differ (c.agree later earlier l (omega arith) s.situation s.wide s.one s.other)
