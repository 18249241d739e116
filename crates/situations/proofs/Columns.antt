-- A column of the situation with a number is a digit of the number. The answers of a situation by value.
use Prim.Native.Nat.{ℕ, zero, suc, ◌-◌, ◌/◌, ◌%◌, ◌^◌, ◌≤◌, ◌<◌}
use mathlib.Core.Path.{◌≡◌, refl, ap, sym, ◌∙◌}
use mathlib.Core.Logic.{⊎_elim}
use mathlib.Core.List.{List, [], ◌∷◌, ◌++◌, map}
use lib.ListN.{length, take, get_or, replicate, length-map, get_or-append}
use lib.Seq.{get_or_at, take-take, take_at}
use native.Mathlib.Nat.{pow-suc, mul_comm, div-div-eq-div-mul, eq-or-lt_of_le}
use native.Mathlib.Omega.{arith}
use Rattle.answers.specs.Meaning.{number, from_number}
use Rattle.answers.specs.declared.Answer.{Answer}
use Rattle.answers.specs.declared.Answer.TheVariants.{Silent}
use Rattle.answers.proofs.Claims.{from_number_lem}
use Rattle.situations.specs.Meaning.{digit, situation_at, by_value}
use Rattle.situations.proofs.Numbers.{situation_at-length}

digit_up : (w m : ℕ) → w / 4 / 4 ^ m ≡ w / 4 ^ suc m
digit_up w m = div-div-eq-div-mul w 4 (4 ^ m) ∙ (rw (pow-suc 4 m, mul_comm (4 ^ m) 4))

pub situation_at-column : (n w k : ℕ) → k < n → get_or (situation_at n w) k Silent ≡ from_number (digit w (n - 1 - k))
unfolding situation_at
situation_at-column zero w k l = absurd (omega arith)
situation_at-column (suc n) w k l =
    ⊎_elim
    (λ e.
    let z : suc n - 1 - k ≡ 0 = omega (arith, e) in
    let o : w / 4 ^ 0 ≡ w = omega arith in
    get_or_at (situation_at n (w / 4)) (from_number (w % 4)) [] Silent k (situation_at-length n (w / 4) ∙ sym e) ∙ (rw (z, o)))
    (λ h.
    let z : suc n - 1 - k ≡ suc (n - 1 - k) = omega (arith, h) in
    get_or-append (situation_at n (w / 4)) (from_number (w % 4) ∷ []) Silent k (rw (situation_at-length n (w / 4)) h)
    ∙ situation_at-column n (w / 4) k h
    ∙ (rw (z, digit_up w (n - 1 - k))))
    (eq-or-lt_of_le {n = k} {m = n} (omega arith))

pub column-digit : (n w k : ℕ) {d : ℕ} → k < n → d ≡ digit w (n - 1 - k) → d ≡ number (get_or (situation_at n w) k Silent)
column-digit n w k l e = e ∙ sym (ap number (situation_at-column n w k l) ∙ from_number_lem (digit w (n - 1 - k)) (omega arith))

-- what stands behind the answers of a situation by value
abbrev pub zeros : ℕ → List ℕ
zeros k = replicate k 0

pub zeros_at : (j k : ℕ) → get_or (zeros j) k 0 ≡ 0
zeros_at zero k = refl
zeros_at (suc j) zero = refl
zeros_at (suc j) (suc k) = zeros_at j k

pub by_value-numbers : (s : List Answer) → length s ≤ 6 → take (length s) (by_value s).answers ≡ map number s
by_value-numbers s l =
    take-take (length s) 6 (map number s ++ zeros 6) l ∙ take_at (map number s) (zeros 6) (length s) (length-map s number)
