-- Silent everywhere is a situation of 1 to 6 columns, the one with number 0; of any other number of columns it is refused.
use Prim.Native.Nat.{ℕ, zero, suc, ◌≤◌, ◌<◌}
use mathlib.Core.Path.{◌≡◌, refl, ap, sym, ◌∙◌}
use mathlib.Core.List.{List, [], ◌∷◌, ◌++◌}
use lib.ListN.{length, replicate, length-replicate}
use native.Mathlib.Omega.{arith}
use Rattle.refusals.specs.Meaning.{none, refused, SITUATION}
use Rattle.fields.specs.Meaning.{first_above}
use Rattle.answers.specs.declared.Answer.TheVariants.{Silent}
use Rattle.situations.specs.Meaning.{answers_of, fault, situation_at}
use Rattle.situations.proofs.Faults.{fault-short, fault-long, fault-none, fault-columns}

abbrev pub silent : ℕ → List ℕ
silent n = replicate n 0

silent_length : (n : ℕ) → length (silent n) ≡ n
silent_length n = length-replicate {A = ℕ} n 0

silent_above : (n : ℕ) → first_above 3 (silent n) ≡ n
unfolding first_above
silent_above zero = refl
silent_above (suc n) = ap suc (silent_above n)

pub silent_sound : (n : ℕ) → 1 ≤ n → n ≤ 6 → fault (silent n) ≡ none
silent_sound n k l =
    sym
    (fault-none (silent n) {i = n} (rw (silent_length n) k) (rw (silent_length n) l) (sym (silent_above n)) refl (rw (silent_length n) (omega arith)))

pub silent_short : (n : ℕ) → n < 1 → fault (silent n) ≡ refused SITUATION n
silent_short n l = sym (rw (silent_length n) at (fault-short (silent n) refl (rw (silent_length n) l)))

pub silent_long : (n : ℕ) → 6 < n → fault (silent n) ≡ refused SITUATION n
silent_long n l = sym (rw (silent_length n) at (fault-long (silent n) refl (rw (silent_length n) l)))

pub silent_columns : (n : ℕ) → (fault (silent n)).number ≡ 0 → (1 ≤ n) × (n ≤ 6)
silent_columns n h = rw (silent_length n) at (fault-columns (silent n) h)

-- its number
silent_snoc : (n : ℕ) → answers_of (silent n) ++ (Silent ∷ []) ≡ Silent ∷ answers_of (silent n)
silent_snoc zero = refl
silent_snoc (suc n) = ap (λ l. Silent ∷ l) (silent_snoc n)

pub silent_situation_at : (n : ℕ) → answers_of (silent n) ≡ situation_at n 0
unfolding situation_at
silent_situation_at zero = refl
silent_situation_at (suc n) = sym (silent_snoc n) ∙ ap (λ l. l ++ (Silent ∷ [])) (silent_situation_at n)
