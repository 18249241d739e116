-- Two words that hold a digit in every lane: of the lane's number, turned, or of any number.
use Prim.Native.Nat.{ℕ, ◌+◌, ◌*◌, ◌/◌, ◌%◌, ◌^◌, ◌<◌}
use mathlib.Core.Path.{◌≡◌, refl, ◌∙◌}
use mathlib.Core.Bool.{Bool}
use mathlib.Core.List.{[]}
use lib.Dec.{eqb}
use lib.ListN.{get_or}
use borrow.Author.Tests.{eqb-true}
use native.Mathlib.Omega.{arith}
use Rattle.words.specs.Meaning.{bit, ones}
use Rattle.words.proofs.Bits.{all_below, tested, bit-alike}
use Rattle.situations.specs.Meaning.{digit}
use Rattle.running.proofs.Turning.{turned_by-number}
use Rattle.pushes.specs.declared.TheConstants.{LOW}
use Rattle.pushes.specs.Inside.{Low, Digit}

-- the words of the three lowest digits: by a test of each digit, each number of turns and each lane
low_at : ℕ → ℕ → ℕ × ℕ
low_at e t = get_or (get_or LOW e []) t (0, 0)

low-lane : (e t x : ℕ) → e < 3 → t < 4 → x < 64 → bit x (low_at e t).0 + 2 * bit x (low_at e t).1 ≡ (x / 4 ^ e % 4 + t) % 4
unfolding all_below low_at
low-lane e t x l m n =
    eqb-true (bit x (low_at e t).0 + 2 * bit x (low_at e t).1) ((x / 4 ^ e % 4 + t) % 4)
    (tested (λ x. lane e t x) 64
    (tested (λ t. all_below 64 (λ x. lane e t x)) 4
    (tested (λ e. all_below 4 (λ t. all_below 64 (λ x. lane e t x))) 3 refl e l) t m) x n)
  where
    lane : ℕ → ℕ → ℕ → Bool
    lane e t x = eqb (bit x (low_at e t).0 + 2 * bit x (low_at e t).1) ((x / 4 ^ e % 4 + t) % 4)

pub low_digit_is : (e turns : ℕ) → e < 3 → Low e turns (get_or (get_or LOW e []) (turns % 4) (0, 0))
unfolding low_at
low_digit_is e turns l =
    record {
      holds = λ x m.
          let s : (x / 4 ^ e % 4 + turns % 4) % 4 ≡ (x / 4 ^ e % 4 + turns) % 4 = omega arith in
          (rw (low-lane e (turns % 4) x l (omega arith) m, s)) ∙ turned_by-number turns (digit x e) (omega arith);
    }

-- the lowest digit of a number
pub digit_is : (d : ℕ) → Digit d (d % 2 * ones, d / 2 % 2 * ones)
digit_is d =
    record {
      holds = λ x l.
          let e : d % 2 + 2 * (d / 2 % 2) ≡ d % 4 = omega arith in
          rw (bit-alike x (d % 2) l (omega arith), bit-alike x (d / 2 % 2) l (omega arith), e);
    }
