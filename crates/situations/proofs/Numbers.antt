-- Situations in base 4: from a number to its situation and back.
use Prim.Native.Nat.{ℕ, zero, suc, ◌+◌, ◌*◌, ◌/◌, ◌%◌, ◌^◌, ◌≤◌, ◌<◌}
use mathlib.Core.Path.{◌≡◌, refl, ap₂, sym, ◌∙◌}
use mathlib.Core.List.{List, [], ◌∷◌, ◌++◌, map, append_assoc, append-nil}
use lib.ListN.{length, length-append}
use native.Mathlib.Nat.{pow-suc, add-zero, zero-add, mul_comm, mul_assoc, one-mul, mul-le-mul_right, lt_of_lt_of_le}
use native.Mathlib.Omega.{arith}
use Rattle.answers.specs.Meaning.{number, from_number}
use Rattle.answers.specs.declared.Answer.{Answer}
use Rattle.answers.proofs.Claims.{number_from, from_number_lem, number_small}
use Rattle.situations.specs.Meaning.{answers_of, index_onto, index, situation_at}

pub answers_of-number : (l : List Answer) → answers_of (map number l) ≡ l
answers_of-number [] = refl
answers_of-number (x ∷ l) = ap₂ (λ a r. a ∷ r) (number_from x) (answers_of-number l)

pub situation_at-length : (n w : ℕ) → length (situation_at n w) ≡ n
unfolding situation_at
situation_at-length zero w = refl
situation_at-length (suc n) w =
    length-append (situation_at n (w / 4)) (from_number (w % 4) ∷ []) ∙ (rw (situation_at-length n (w / 4)) (omega arith))

-- one more column at the end is one more digit
pub index_snoc : (v : ℕ) (s : List Answer) (a : Answer) → index_onto v (s ++ (a ∷ [])) ≡ index_onto v s * 4 + number a
unfolding index_onto
index_snoc v [] a = refl
index_snoc v (b ∷ s) a = index_snoc (v * 4 + number b) s a

pub index-situation_at : (n w : ℕ) → w < 4 ^ n → index (situation_at n w) ≡ w
unfolding situation_at index_onto
index-situation_at zero w h = omega arith
index-situation_at (suc n) w h =
    index_snoc 0 (situation_at n (w / 4)) (from_number (w % 4))
    ∙ (rw (index-situation_at n (w / 4) (omega (arith, pow-suc 4 n)), from_number_lem (w % 4) (omega arith)) (omega arith))

-- the columns of s stand behind those of v
situation_at-onto :
    (m v : ℕ) (s : List Answer) →
    situation_at (m + length s) (index_onto v s) ≡ situation_at m v ++ s
unfolding situation_at index_onto
situation_at-onto m v [] = rw (add-zero) (sym (append-nil (situation_at m v)))
situation_at-onto m v (a ∷ s) =
    let small : number a ≤ 3 = number_small a in
    let longer : m + suc (length s) ≡ suc m + length s = omega arith in
    let high : (v * 4 + number a) / 4 ≡ v = omega arith in
    let low : (v * 4 + number a) % 4 ≡ number a = omega arith in
    rw (longer, situation_at-onto (suc m) (v * 4 + number a) s, high, low, number_from a) (append_assoc (situation_at m v) (a ∷ []) s)

pub situation_at-index : (s : List Answer) → situation_at (length s) (index s) ≡ s
unfolding situation_at
situation_at-index s = rw zero-add at (situation_at-onto 0 0 s)

-- below the first number that has more digits
onto-small : (v : ℕ) (s : List Answer) → index_onto v s < suc v * 4 ^ length s
unfolding index_onto
onto-small v [] = omega arith
onto-small v (a ∷ s) =
    let small : number a ≤ 3 = number_small a in
    let digits : suc (v * 4 + number a) ≤ suc v * 4 = omega arith in
    lt_of_lt_of_le (onto-small (v * 4 + number a) s) (rw (pow-suc, mul_comm (4 ^ length s) 4, ← mul_assoc) (mul-le-mul_right (4 ^ length s) digits))

pub index-small : (s : List Answer) → index s < 4 ^ length s
index-small s = rw one-mul at (onto-small 0 s)
