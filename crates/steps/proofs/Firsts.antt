-- The first number that passes a test: it does pass, equal tests find the same, and numbers that do not pass are passed over.
use Prim.Native.Nat.{ℕ, zero, suc, ◌+◌, ◌≤◌, ◌<◌}
use mathlib.Core.Path.{◌≡◌, refl}
use mathlib.Core.Bool.{Bool, true, false, cond}
use native.Mathlib.Nat.{add-zero, zero-add}
use native.Mathlib.Omega.{arith}
use Rattle.steps.specs.Meaning.{first_from}

passes_now :
    (test : ℕ → Bool) (k count next : ℕ) (t : Bool) →
    test k ≡ t →
    (next < suc k + count → test next ≡ true) →
    cond t k next < k + suc count →
    test (cond t k next) ≡ true
passes_now test k count next true e h l = e
passes_now test k count next false e h l = h (omega arith)

pub first_passes : (test : ℕ → Bool) (count k : ℕ) → first_from test count k < k + count → test (first_from test count k) ≡ true
unfolding first_from
first_passes test zero k l = absurd (omega arith)
first_passes test (suc count) k l = passes_now test k count (first_from test count (suc k)) (test k) refl (first_passes test count (suc k)) l

pub first-same : (p q : ℕ → Bool) → ((k : ℕ) → p k ≡ q k) → (count k : ℕ) → first_from p count k ≡ first_from q count k
unfolding first_from
first-same p q h zero k = refl
first-same p q h (suc count) k = rw (h k, first-same p q h count (suc k))

pub first_skip :
    (test : ℕ → Bool) (a count k : ℕ) →
    ((j : ℕ) → k ≤ j → j < k + a → test j ≡ false) →
    first_from test (a + count) k ≡ first_from test count (k + a)
unfolding first_from
first_skip test zero count k h = rw (zero-add count, add-zero k)
first_skip test (suc a) count k h =
    let e : suc a + count ≡ suc (a + count) = omega arith in
    let f : k + suc a ≡ suc k + a = omega arith in
    rw (e, f, h k (omega arith) (omega arith)) (first_skip test a count (suc k) (λ j l m. h j (omega (arith, l)) (omega (arith, m))))

pub first-none :
    (test : ℕ → Bool) (count : ℕ) → ((j : ℕ) → j < count → test j ≡ false) → first_from test count 0 ≡ count
unfolding first_from
first-none test count h =
    rw (add-zero, zero-add) at (first_skip test count 0 0 (λ j l m. h j (rw zero-add at m)))
