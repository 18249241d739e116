-- The bits of a word: what and, or and xor do to them, and facts about bits by finite cases.
use Prim.Native.Nat.{ℕ, zero, suc, ◌*◌, ◌/◌, ◌%◌, ◌^◌, ◌<◌, max}
use mathlib.Core.Path.{◌≡◌, refl, sym, ap, ◌∙◌}
use mathlib.Core.Logic.{⊎_elim}
use mathlib.Core.Bool.{Bool, true, false, ◌&&◌}
use lib.Dec.{eqb}
use lib.Arith.{bin_ind}
use lib.Bits.{bit_and, bit_or, bit_xor, or_step, and_shr, or_shr, xor_shr, and_mod, or_mod, xor_mod}
use borrow.Author.Tests.{eqb-true}
use native.Mathlib.Nat.{mod-lt, zero-lt-suc, eq-or-lt_of_le}
use native.Mathlib.Omega.{arith}
use Rattle.words.specs.Meaning.{bit, ones}

pub bit-and : (x a b : ℕ) → bit x (bit_and a b) ≡ bit_and (bit x a) (bit x b)
bit-and x a b = ap (λ w. w % 2) (and_shr a b x) ∙ and_mod (a / 2 ^ x) (b / 2 ^ x) 1

pub bit-or : (x a b : ℕ) → bit x (bit_or a b) ≡ bit_or (bit x a) (bit x b)
bit-or x a b = ap (λ w. w % 2) (or_shr a b x) ∙ or_mod (a / 2 ^ x) (b / 2 ^ x) 1

pub bit-xor : (x a b : ℕ) → bit x (bit_xor a b) ≡ bit_xor (bit x a) (bit x b)
bit-xor x a b = ap (λ w. w % 2) (xor_shr a b x) ∙ xor_mod (a / 2 ^ x) (b / 2 ^ x) 1

pub bit-small : (x w : ℕ) → bit x w < 2
bit-small x w = mod-lt (w / 2 ^ x) (zero-lt-suc 1)

-- a fact about bits is one about 0 and 1
abbrev pub Both : (ℕ → Type 0) → Type 0
Both P = P 0 × P 1

pub either : (P : ℕ → Type 0) → Both P → (b : ℕ) → b < 2 → P b
either P h zero l = h.0
either P h (suc zero) l = h.1
either P h (suc (suc b)) l = absurd (omega arith)

pub each-bit : (P : ℕ → Type 0) → Both P → (x w : ℕ) → P (bit x w)
each-bit P h x w = either P h (bit x w) (bit-small x w)

pub each_two : (P : ℕ → ℕ → Type 0) → Both (λ a. Both (P a)) → (x v w : ℕ) → P (bit x v) (bit x w)
each_two P h x v w = each-bit (P (bit x v)) (each-bit (λ a. Both (P a)) h x v) x w

pub each-four :
    (P : ℕ → ℕ → ℕ → ℕ → Type 0) →
    Both (λ a. Both (λ b. Both (λ c. Both (P a b c)))) →
    (x s t v w : ℕ) →
    P (bit x s) (bit x t) (bit x v) (bit x w)
each-four P h x s t v w = each_two (P (bit x s) (bit x t)) (each_two (λ a b. Both (λ c. Both (P a b c))) h x s t) x v w

-- or, in any grouping
or_bits : (x y z : ℕ) → x < 2 → y < 2 → z < 2 → max (bit_or x y) z ≡ max x (bit_or y z)
or_bits x y z i j k = either (P x y) (either (λ y. Both (P x y)) (either (λ x. Both (λ y. Both (P x y))) (search refl) x i) y j) z k
  where
    P : ℕ → ℕ → ℕ → Type 0
    P x y z = max (bit_or x y) z ≡ max x (bit_or y z)

pub or_assoc : (a b c : ℕ) → bit_or (bit_or a b) c ≡ bit_or a (bit_or b c)
or_assoc =
    bin_ind (λ a. (b c : ℕ) → bit_or (bit_or a b) c ≡ bit_or a (bit_or b c)) (λ b c. refl)
    (λ a below b c.
    or_step (bit_or a b) c
    ∙ rw (or_shr a b 1, or_mod a b 1, below (b / 2) (c / 2), or_bits (a % 2) (b % 2) (c % 2) (small a) (small b) (small c))
    (sym (or_step a (bit_or b c) ∙ rw (or_shr b c 1, or_mod b c 1))))
  where
    small : (w : ℕ) → w % 2 < 2
    small w = mod-lt w (zero-lt-suc 1)

-- a test of so many lanes
unfoldable pub all_below : ℕ → (ℕ → Bool) → Bool
all_below zero p = true
all_below (suc n) p = all_below n p && p n

and_left : (a b : Bool) → a && b ≡ true → a ≡ true
and_left true b h = refl
and_left false b h = h

and_right : (a b : Bool) → a && b ≡ true → b ≡ true
and_right true b h = h
and_right false b h = absurd (let z : ◌≡◌ {A = ℕ} 0 1 = cc in omega arith)

pub tested : (p : ℕ → Bool) (n : ℕ) → all_below n p ≡ true → (i : ℕ) → i < n → p i ≡ true
unfolding all_below
tested p zero h i l = absurd (omega arith)
tested p (suc n) h i l =
    ⊎_elim
    (λ e. rw e (and_right (all_below n p) (p n) h))
    (λ k. tested p n (and_left (all_below n p) (p n) h) i k)
    (eq-or-lt_of_le {n = i} {m = n} (omega arith))

-- the words that are the same in all lanes
pub bit-ones : (x : ℕ) → x < 64 → bit x ones ≡ 1
unfolding all_below
bit-ones x l = eqb-true (bit x ones) 1 (tested (λ i. eqb (bit i ones) 1) 64 refl x l)

pub bit-none : (x : ℕ) → x < 64 → bit x 0 ≡ 0
unfolding all_below
bit-none x l = eqb-true (bit x 0) 0 (tested (λ i. eqb (bit i 0) 0) 64 refl x l)

pub bit-alike : (x b : ℕ) → x < 64 → b < 2 → bit x (b * ones) ≡ b
bit-alike x b l h = either (λ b. bit x (b * ones) ≡ b) (bit-none x l, bit-ones x l) b h
