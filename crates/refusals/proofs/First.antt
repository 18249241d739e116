-- The first refusal among several checks.
use Prim.Native.Nat.{ℕ, zero, suc, ◌≤◌, ◌<◌}
use mathlib.Core.Path.{◌≡◌, refl}
use mathlib.Core.Logic.{⊎_elim}
use mathlib.Core.Bool.{Bool, true, false}
use lib.Dec.{eqb}
use borrow.Author.Tests.{eq-eqb, ne_eqb, eqb-true, eqb-false}
use native.Mathlib.Nat.{eq-or-lt_of_le}
use native.Mathlib.Omega.{arith}
use Rattle.refusals.specs.Meaning.{Numbers, none, after, first_refusal}

-- after checks that refuse nothing the next one decides
pub first_next : (f : ℕ → Numbers) (n : ℕ) → first_refusal f n ≡ none → first_refusal f (suc n) ≡ f n
unfolding first_refusal
first_next f n e = rw e

-- a refusal stays the first one, whatever is checked later
pub first_stays :
    (f : ℕ → Numbers) (k n : ℕ) →
    ((first_refusal f k).number ≡ 0 → ⊥) →
    k ≤ n →
    first_refusal f n ≡ first_refusal f k
unfolding first_refusal
first_stays f zero zero h l = refl
first_stays f (suc k) zero h l = absurd (omega arith)
first_stays f k (suc n) h l =
    ⊎_elim (λ e. rw e) (λ m. later (first_stays f k n h (omega arith))) (eq-or-lt_of_le l)
  where
    later : first_refusal f n ≡ first_refusal f k → first_refusal f (suc n) ≡ first_refusal f k
    later e = rw (e, ne_eqb (first_refusal f k).number 0 h)

-- nothing is refused exactly if no check refuses
after_none : (a b : Numbers) → (after a (λ r. r) b).number ≡ 0 → (a.number ≡ 0) × (b.number ≡ 0)
after_none a b h = go (eqb a.number 0) refl
  where
    go : (t : Bool) → eqb a.number 0 ≡ t → (a.number ≡ 0) × (b.number ≡ 0)
    go true e = (eqb-true a.number 0 e, rw e at h)
    go false e = absurd (eqb-false a.number 0 e (rw e at h))

pub first-none : (f : ℕ → Numbers) (n : ℕ) → (first_refusal f n).number ≡ 0 → (k : ℕ) → k < n → (f k).number ≡ 0
unfolding first_refusal
first-none f zero h k l = absurd (omega arith)
first-none f (suc n) h k l =
    let w = after_none (first_refusal f n) (f n) h in
    ⊎_elim (λ e. go (omega arith) w.1) (λ m. first-none f n w.0 k (omega arith)) (eq-or-lt_of_le l)
  where
    go : k ≡ n → (f n).number ≡ 0 → (f k).number ≡ 0
    go e q = rw e q

pub first-all : (f : ℕ → Numbers) (n : ℕ) → ((k : ℕ) → k < n → (f k).number ≡ 0) → (first_refusal f n).number ≡ 0
unfolding first_refusal
first-all f zero h = refl
first-all f (suc n) h =
    rw (eq-eqb (first_refusal f n).number 0 (first-all f n (λ k l. h k (omega arith)))) (h n (omega arith))

-- what is refused is the refusal of one check, and none before it refuses
pub record Found (f : ℕ → Numbers) (n k : ℕ) : Type 0 where
  pub inside : k < n
  pub same : first_refusal f n ≡ f k
  pub before : (j : ℕ) → j < k → (f j).number ≡ 0

found_here : (f : ℕ → Numbers) (n : ℕ) → (first_refusal f n).number ≡ 0 → Found f (suc n) n
unfolding first_refusal
found_here f n e =
    record { inside = omega arith; same = rw (eq-eqb (first_refusal f n).number 0 e); before = first-none f n e }

found_before : (f : ℕ → Numbers) (n k : ℕ) → ((first_refusal f n).number ≡ 0 → ⊥) → Found f n k → Found f (suc n) k
unfolding first_refusal
found_before f n k e w =
    record {
      inside = let l = w.inside in omega arith;
      same = rw (ne_eqb (first_refusal f n).number 0 e) w.same;
      before = w.before;
    }

pub first_found : (f : ℕ → Numbers) (n : ℕ) → ((first_refusal f n).number ≡ 0 → ⊥) → (k : ℕ) × Found f n k
unfolding first_refusal
first_found f zero h = absurd (h refl)
first_found f (suc n) h = go (eqb (first_refusal f n).number 0) refl (first_found f n)
  where
    go :
        (t : Bool) →
        eqb (first_refusal f n).number 0 ≡ t →
        (((first_refusal f n).number ≡ 0 → ⊥) → (k : ℕ) × Found f n k) →
        (k : ℕ) × Found f (suc n) k
    go true e again = (n, found_here f n (eqb-true (first_refusal f n).number 0 e))
    go false e again =
        let q : (first_refusal f n).number ≡ 0 → ⊥ = eqb-false (first_refusal f n).number 0 e in
        let w = again q in
        (w.0, found_before f n w.0 q w.1)
