-- An answer's number shows its claims, bury 1 and keep 2: the operators by bits are the operators.
use Prim.Native.Nat.{ℕ, zero, suc, ◌+◌, ◌≤◌, ◌%◌}
use mathlib.Core.Path.{◌≡◌, refl}
use lib.Dec.{eqb}
use lib.Bits.{bit_and, bit_or}
use native.Mathlib.Omega.{arith}
use Rattle.answers.specs.declared.Answer.{Answer}
use Rattle.answers.specs.declared.Answer.TheVariants.{Clash}
use Rattle.answers.specs.Meaning.{number, from_number, contained, turn, meet, join, truth_meet, truth_join}
use Rattle.answers.proofs.Every.{each, all2}

pub number_from : (a : Answer) → from_number (number a) ≡ a
number_from = each _ (search refl)

pub from_number_lem : (n : ℕ) → n ≤ 3 → number (from_number n) ≡ n
from_number_lem zero h = refl
from_number_lem (suc zero) h = refl
from_number_lem (suc (suc zero)) h = refl
from_number_lem (suc (suc (suc zero))) h = refl
from_number_lem (suc (suc (suc (suc n)))) h = absurd (omega arith)

pub number_small : (a : Answer) → number a ≤ 3
number_small = each _ (search arith)

pub from_large : (n : ℕ) → (n ≡ 0 → ⊥) → (n ≡ 1 → ⊥) → (n ≡ 2 → ⊥) → Clash ≡ from_number n
from_large zero a b c = absurd (a refl)
from_large (suc zero) a b c = absurd (b refl)
from_large (suc (suc zero)) a b c = absurd (c refl)
from_large (suc (suc (suc n))) a b c = refl

pub turn-number : (p : Answer) {r : Answer} {x : ℕ} → x ≡ number p → r ≡ from_number ((x + 1) % 4) → r ≡ turn p
turn-number p e g = rw (g, e) (each (λ p. from_number ((number p + 1) % 4) ≡ turn p) (search refl) p)

-- x and y are the numbers of p and q
module _ (p q : Answer) {x y : ℕ} (e : x ≡ number p) (f : y ≡ number q) where
  pub contained_bits : {z : ℕ} → z ≡ number p → eqb (bit_and x y) z ≡ contained p q
  contained_bits g = rw (g, e, f) (all2 (λ p q. eqb (bit_and (number p) (number q)) (number p) ≡ contained p q) (search refl) p q)

  pub meet_bits : {r : Answer} → r ≡ from_number (bit_and x y) → r ≡ meet p q
  meet_bits g = rw (g, e, f) (all2 (λ p q. from_number (bit_and (number p) (number q)) ≡ meet p q) (search refl) p q)

  pub join_bits : {r : Answer} → r ≡ from_number (bit_or x y) → r ≡ join p q
  join_bits g = rw (g, e, f) (all2 (λ p q. from_number (bit_or (number p) (number q)) ≡ join p q) (search refl) p q)

  module _ {u v : ℕ} (i : u ≡ number p) (j : v ≡ number q) where
    pub truth_meet_bits : {r : Answer} → r ≡ from_number (bit_or (bit_and (bit_and x y) 2) (bit_and (bit_or u v) 1)) → r ≡ truth_meet p q
    truth_meet_bits g = rw (g, e, f, i, j) (all2 (λ p q. from_number (bit_or (bit_and (bit_and (number p) (number q)) 2) (bit_and (bit_or (number p) (number q)) 1)) ≡ truth_meet p q) (search refl) p q)

    pub truth_join_bits : {r : Answer} → r ≡ from_number (bit_or (bit_and (bit_or u v) 2) (bit_and (bit_and x y) 1)) → r ≡ truth_join p q
    truth_join_bits g = rw (g, e, f, i, j) (all2 (λ p q. from_number (bit_or (bit_and (bit_or (number p) (number q)) 2) (bit_and (bit_and (number p) (number q)) 1)) ≡ truth_join p q) (search refl) p q)
