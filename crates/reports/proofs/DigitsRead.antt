-- A number's text says the number: its digits, read back.
use Prim.Native.Nat.{ℕ, zero, suc, ◌+◌, ◌-◌, ◌*◌, ◌/◌, ◌%◌, ◌^◌, ◌<◌}
use mathlib.Core.Path.{◌≡◌, refl, sym, ap, ◌∙◌}
use mathlib.Core.Bool.{Bool, true, false, cond}
use mathlib.Core.List.{List, [], ◌∷◌, ◌++◌, append_assoc}
use native.Mathlib.Nat.{pow-suc}
use native.Mathlib.Omega.{arith}
use lib.Dec.{ltb}
use borrow.Author.Tests.{lt-ltb, le-ltb}
use Rattle.text.specs.Meaning.{decimal_onto, decimal, number_text}

-- digits read back, up to a byte that is none
unfoldable read_number : ℕ → List ℕ → ℕ × List ℕ
read_number n [] = (n, [])
read_number n (d ∷ s) = cond (ltb d 48) (n, s) (read_number (n * 10 + (d - 48)) s)

digit_read : (n d : ℕ) (s : List ℕ) → read_number n ((48 + d) ∷ s) ≡ read_number (n * 10 + d) s
unfolding read_number
digit_read n d s =
    let e : 48 + d - 48 ≡ d = omega arith in
    rw (le-ltb (48 + d) 48 (omega arith), e)

onto-append : (k n : ℕ) (behind rest : List ℕ) → decimal_onto k n behind ++ rest ≡ decimal_onto k n (behind ++ rest)
unfolding decimal_onto
onto-append zero n behind rest = refl
onto-append (suc k) n behind rest = go (ltb n 10) (onto-append k (n / 10) ((48 + n % 10) ∷ behind) rest)
  where
    go : (b : Bool) → decimal_onto k (n / 10) ((48 + n % 10) ∷ behind) ++ rest ≡ decimal_onto k (n / 10) (((48 + n % 10) ∷ behind) ++ rest) →
        cond b ((48 + n) ∷ behind) (decimal_onto k (n / 10) ((48 + n % 10) ∷ behind)) ++ rest
        ≡ cond b ((48 + n) ∷ behind ++ rest) (decimal_onto k (n / 10) ((48 + n % 10) ∷ behind ++ rest))
    go true e = refl
    go false e = e

last_digit : (n : ℕ) (s : List ℕ) → read_number 0 ((48 + n) ∷ s) ≡ read_number n s
last_digit n s = digit_read 0 n s ∙ ap (λ (m : ℕ). read_number m s) (let e : 0 * 10 + n ≡ n = omega arith in e)

digits_read : (k n : ℕ) (behind : List ℕ) → n < 10 ^ suc k → read_number 0 (decimal_onto (suc k) n behind) ≡ read_number n behind
unfolding decimal_onto
digits_read zero n behind h = rw (lt-ltb n 10 h) (last_digit n behind)
digits_read (suc k) n behind h =
    go (ltb n 10)
    (digits_read k (n / 10) ((48 + n % 10) ∷ behind) (omega (arith, pow-suc 10 (suc k)))
    ∙ digit_read (n / 10) (n % 10) behind ∙ ap (λ (m : ℕ). read_number m behind) (let e : n / 10 * 10 + n % 10 ≡ n = omega arith in e))
  where
    go : (b : Bool) → read_number 0 (decimal_onto (suc k) (n / 10) ((48 + n % 10) ∷ behind)) ≡ read_number n behind →
        read_number 0 (cond b ((48 + n) ∷ behind) (decimal_onto (suc k) (n / 10) ((48 + n % 10) ∷ behind))) ≡ read_number n behind
    go true e = last_digit n behind
    go false e = e

number_read : (n end : ℕ) (rest : List ℕ) → n < 2 ^ 64 → end < 48 → read_number 0 (number_text n end ++ rest) ≡ (n, rest)
unfolding number_text decimal read_number
number_read n end rest h l =
    ap (read_number 0) (append_assoc (decimal n) (end ∷ []) rest ∙ onto-append 20 n [] (end ∷ rest))
    ∙ digits_read 19 n (end ∷ rest) (omega arith) ∙ rw (lt-ltb end 48 l)

-- so a number and what stands behind it are said
module _ (n m end : ℕ) (rest more : List ℕ) (h : n < 2 ^ 64) (i : m < 2 ^ 64) (l : end < 48)
    (e : number_text n end ++ rest ≡ number_text m end ++ more) where
  both_read : ◌≡◌ {A = ℕ × List ℕ} (n, rest) (m, more)
  both_read = sym (number_read n end rest h l) ∙ ap (read_number 0) e ∙ number_read m end more i l

  pub number_said : n ≡ m
  number_said = ap (λ r. r.0) both_read

  pub rest_said : rest ≡ more
  rest_said = ap (λ r. r.1) both_read
