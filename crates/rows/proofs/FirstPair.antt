-- The search for two rows that disagree: later rows from the first on, and for each the earlier ones from the first on.
use Prim.Native.Nat.{ℕ, suc, ◌+◌, ◌≤◌, ◌<◌}
use mathlib.Core.Path.{◌≡◌, refl, sym, ◌∙◌}
use mathlib.Core.Bool.{Bool, true, false}
use mathlib.Core.List.{List}
use native.Mathlib.Numerals.{add-one}
use native.Mathlib.Omega.{arith}
use Rattle.refusals.specs.Meaning.{Numbers, none, first_refusal, OVERLAP}
use Rattle.refusals.proofs.First.{first_next, first_stays}
use Rattle.rows.specs.Meaning.{row_bytes, row_of, disagree, pair_fault, overlap_of, overlap_in, disagree_at}
use Rattle.rows.specs.Inside.{Below, Pairs}

pub disagree_at-is :
    (n : ℕ) (rows : List ℕ) (later earlier : ℕ) (p q : List ℕ) →
    p ≡ row_bytes n rows later →
    q ≡ row_bytes n rows earlier →
    {b : Bool} →
    b ≡ disagree (row_of p) (row_of q) →
    b ≡ disagree_at n rows later earlier
unfolding disagree_at
disagree_at-is n rows later earlier p q e f g = rw (← e, ← f) g

pub pairs_start : (bad : ℕ → ℕ → Bool) (rows : ℕ) {found : Numbers} → found ≡ none → Pairs bad rows found 0
unfolding overlap_in first_refusal
pairs_start bad rows e = record { inside = omega arith; clear = refl; not_found = e }

module _ (bad : ℕ → ℕ → Bool) (rows later : ℕ) {found : Numbers} where
  pub below-start : Pairs bad rows found later → Below bad later found 0
  unfolding first_refusal
  below-start w = record { inside = omega arith; clear = refl; not_found = w.not_found }

  module _ (earlier : ℕ) (v : Below bad later found earlier) {b : Bool} (e : b ≡ bad later earlier) where
    pub below_more : earlier < later → b ≡ false → Below bad later found (earlier + 1)
    below_more l f =
        record {
          inside = omega arith;
          clear = rw add-one (first_next (pair_fault bad later) earlier v.clear ∙ (rw (← e, f)));
          not_found = v.not_found;
        }

    pub pairs_hit :
        Pairs bad rows found later →
        later < rows →
        earlier < later →
        b ≡ true →
        {count : ℕ} →
        rows ≡ count →
        record { number = OVERLAP; place = later; second = earlier } ≡ overlap_in bad count
    unfolding overlap_in overlap_of
    pairs_hit w k l f same =
        let pair : Numbers = record { number = OVERLAP; place = later; second = earlier } in
        let here : first_refusal (pair_fault bad later) (suc earlier) ≡ pair =
        first_next (pair_fault bad later) earlier v.clear ∙ (rw (← e, f)) in
        let row : overlap_of bad later ≡ pair =
        first_stays (pair_fault bad later) (suc earlier) later (λ z. absurd (let q = rw here at z in omega arith)) l ∙ here in
        let all : first_refusal (overlap_of bad) (suc later) ≡ pair = first_next (overlap_of bad) later w.clear ∙ row in
        rw (← same) (sym (first_stays (overlap_of bad) (suc later) rows (λ z. absurd (let q = rw all at z in omega arith)) k ∙ all))

  pub pairs-more :
      (earlier : ℕ) →
      Pairs bad rows found later →
      later < rows →
      Below bad later found earlier →
      later ≤ earlier →
      Pairs bad rows found (later + 1)
  unfolding overlap_in overlap_of
  pairs-more earlier w k v l =
      let same : earlier ≡ later = let i = v.inside in omega arith in
      record {
        inside = omega arith;
        clear = rw add-one (first_next (overlap_of bad) later w.clear ∙ (rw same at v.clear));
        not_found = w.not_found;
      }
