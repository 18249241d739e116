-- What is made of a set's members one after another, and what a function gives of each of them.
use Prim.Native.Nat.{ℕ, ◌*◌, ◌%◌, ◌^◌, ◌<◌}
use mathlib.Core.Path.{◌≡◌, refl, sym, ap, ◌∙◌}
use mathlib.Core.List.{List, [], ◌∷◌, ◌++◌, map, append_assoc}
use native.Mathlib.Omega.{arith}
use lib.Bits.{bit_or, or_zero_r, or_zero_l}
use Rattle.std.proofs.Common.{fold}
use Rattle.std.specs.List.{flat_map}
use Rattle.std.proofs.lemmas.Nat.{pow_below}
use Rattle.words.proofs.Bits.{or_assoc}
use Rattle.sets.specs.Meaning.{set_of, pairs}
use Rattle.sets.proofs.Numbers.{set-append}

-- The set of one member.
pub only-bit : (n : ℕ) {k : ℕ} → k ≡ n → k < 8 → 1 * 2 ^ k % 256 ≡ bit_or (2 ^ n) 0
only-bit n {k} e h = let p = pow_below k 8 h in rw (← e, or_zero_r (2 ^ k)) (omega (arith, p))

pub ruleset only_laws = (only-bit)

-- What is gathered into one set, member by member.
module _ {A B : Type 0} (number : B → ℕ) where
  pub gather : (f : A → List B) (n : ℕ) (xs : List A) →
      fold (λ (image : ℕ) x. bit_or image (set_of number (f x))) n xs ≡ bit_or n (set_of number (flat_map f xs))
  unfolding set_of
  gather f n [] = sym (or_zero_r n)
  gather f n (x ∷ xs) =
      gather f (bit_or n (set_of number (f x))) xs
      ∙ or_assoc n (set_of number (f x)) (set_of number (flat_map f xs))
      ∙ ap (bit_or n) (sym (set-append number (f x) (flat_map f xs)))

  -- into the empty one
  pub gathered : (f : A → List B) {n : ℕ} (xs : List A) → n ≡ 0 →
      fold (λ (image : ℕ) x. bit_or image (set_of number (f x))) n xs ≡ set_of number (flat_map f xs)
  gathered f {n} xs e = gather f n xs ∙ rw e (or_zero_l (set_of number (flat_map f xs)))

pub map-flat : {A B : Type 0} (f : A → B) (xs : List A) → flat_map (λ x. f x ∷ []) xs ≡ map f xs
map-flat f [] = refl
map-flat f (x ∷ xs) = ap (λ s. f x ∷ s) (map-flat f xs)

pub pairs-flat : {A B C : Type 0} (f : A → B → C) (xs : List A) (ys : List B) → flat_map (λ x. map (f x) ys) xs ≡ pairs f xs ys
pairs-flat f [] ys = refl
pairs-flat f (x ∷ xs) ys = ap (λ s. map (f x) ys ++ s) (pairs-flat f xs ys)

-- the pairs of an appended list, one part behind the other
pub pairs-append : {A B C : Type 0} (f : A → B → C) (s t : List A) (u : List B) → pairs f (s ++ t) u ≡ pairs f s u ++ pairs f t u
pairs-append f [] t u = refl
pairs-append f (a ∷ s) t u =
    ap (λ l. map (f a) u ++ l) (pairs-append f s t u) ∙ sym (append_assoc (map (f a) u) (pairs f s u) (pairs f t u))
