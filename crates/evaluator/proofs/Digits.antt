-- The stack as a number in base 4: putting an answer, and reading the upper one and two.
use Prim.Native.Nat.{ℕ, zero, suc, ◌+◌, ◌-◌, ◌*◌, ◌/◌, ◌%◌, ◌^◌, ◌≤◌, ◌<◌}
use mathlib.Core.Path.{◌≡◌, refl, ap}
use mathlib.Core.List.{◌∷◌}
use lib.ListN.{length}
use native.Mathlib.Nat.{pow-suc, pow-le-pow_right, zero-lt-suc}
use native.Mathlib.Omega.{arith}
use Rattle.answers.specs.Meaning.{number, from_number}
use Rattle.answers.specs.declared.Answer.{Answer}
use Rattle.answers.proofs.Claims.{number_from, number_small}
use Rattle.evaluator.specs.Inside.{view, Ready}

-- what fits into a height
pub fits_more : (s h k : ℕ) → s < 4 ^ h → k ≤ 3 → s * 4 + k < 4 ^ suc h
fits_more s h k f l = omega (arith, pow-suc 4 h)

pub fits_less : (s h : ℕ) → 0 < h → s < 4 ^ h → s / 4 < 4 ^ (h - 1)
fits_less s zero p f = absurd (omega arith)
fits_less s (suc h) p f = let e : suc h - 1 ≡ h = omega arith in rw e (omega (arith, pow-suc 4 h))

pub fits_less_two : (s h : ℕ) → 1 < h → s < 4 ^ h → s / 16 < 4 ^ (h - 2)
fits_less_two s zero p f = absurd (omega arith)
fits_less_two s (suc zero) p f = absurd (omega arith)
fits_less_two s (suc (suc h)) p f =
    let e : suc (suc h) - 2 ≡ h = omega arith in rw e (omega (arith, pow-suc 4 h, pow-suc 4 (suc h)))

-- what a stack number shows
pub view-put : (h s : ℕ) (a : Answer) → view (suc h) (s * 4 + number a) ≡ a ∷ view h s
unfolding view
view-put h s a =
    let d : (s * 4 + number a) % 4 ≡ number a = omega (arith, number_small a) in
    let e : (s * 4 + number a) / 4 ≡ s = omega (arith, number_small a) in
    rw (d, e, number_from a)

pub view-top : (h s : ℕ) → 0 < h → view h s ≡ from_number (s % 4) ∷ view (h - 1) (s / 4)
unfolding view
view-top zero s p = absurd (omega arith)
view-top (suc h) s p = let e : suc h - 1 ≡ h = omega arith in rw e

pub view-two : (h s : ℕ) → 1 < h → view h s ≡ from_number (s % 4) ∷ from_number (s / 4 % 4) ∷ view (h - 2) (s / 16)
unfolding view
view-two zero s p = absurd (omega arith)
view-two (suc zero) s p = absurd (omega arith)
view-two (suc (suc h)) s p =
    let e : s / 4 / 4 ≡ s / 16 = omega arith in let d : suc (suc h) - 2 ≡ h = omega arith in rw (e, d)

pub length-view : (h s : ℕ) → length (view h s) ≡ h
unfolding view
length-view zero s = refl
length-view (suc h) s = ap suc (length-view h (s / 4))

-- sixteen digits leave room for more
pub ready-small : (stack height : ℕ) → Ready stack height → stack < 4294967296
ready-small stack height r = omega (arith, r.below, pow-le-pow_right {n = 4} (zero-lt-suc 3) {i = height} {j = 16} r.room)
