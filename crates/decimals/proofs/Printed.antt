-- A number's digits, as they are printed, give that number.
use Prim.Native.Nat.{ℕ, zero, suc, ◌+◌, ◌-◌, ◌*◌, ◌/◌, ◌%◌, ◌^◌, ◌<◌}
use mathlib.Core.Path.{◌≡◌, refl, ◌∙◌}
use mathlib.Core.Bool.{Bool, true, false, cond}
use mathlib.Core.List.{List, [], ◌∷◌}
use lib.Dec.{ltb}
use borrow.Author.Tests.{lt-ltb, le-ltb, ltb-true}
use native.Mathlib.Nat.{pow-suc}
use native.Mathlib.Omega.{arith}
use Rattle.std.specs.Prelude.{Some}
use Rattle.text.specs.Meaning.{decimal_onto, decimal}
use Rattle.decimals.specs.Meaning.{read_onto, number_in}

digit_read : (n d m : ℕ) (s : List ℕ) → d < 10 → n * 10 + d ≡ m → m < 2 ^ 64 → read_onto n ((48 + d) ∷ s) ≡ read_onto m s
unfolding read_onto
digit_read n d m s h e l =
    let back : n * 10 + (48 + d - 48) ≡ m = omega arith in
    rw (le-ltb (48 + d) 48 (omega arith), le-ltb 57 (48 + d) (omega arith), back, lt-ltb m (2 ^ 64) l)

digits_read : (k n : ℕ) (behind : List ℕ) → n < 10 ^ suc k → n < 2 ^ 64 → number_in (decimal_onto (suc k) n behind) ≡ read_onto n behind
unfolding decimal_onto
digits_read zero n behind h l = rw (lt-ltb n 10 h) (digit_read 0 n n behind h (omega arith) l)
digits_read (suc k) n behind h l =
    go (ltb n 10) refl
    (digits_read k (n / 10) ((48 + n % 10) ∷ behind) (omega (arith, pow-suc 10 (suc k))) (omega arith)
    ∙ digit_read (n / 10) (n % 10) n behind (omega arith) (omega arith) l)
  where
    go : (b : Bool) → ltb n 10 ≡ b → number_in (decimal_onto (suc k) (n / 10) ((48 + n % 10) ∷ behind)) ≡ read_onto n behind →
        number_in (cond b ((48 + n) ∷ behind) (decimal_onto (suc k) (n / 10) ((48 + n % 10) ∷ behind))) ≡ read_onto n behind
    go true e rest = digit_read 0 n n behind (ltb-true n 10 e) (omega arith) l
    go false e rest = rest

pub number-decimal : (n : ℕ) → n < 2 ^ 64 → number_in (decimal n) ≡ Some n
unfolding decimal read_onto
number-decimal n h = digits_read 19 n [] (omega arith) h
