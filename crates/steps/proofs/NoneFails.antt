-- No step from a situation fails where no bit of its number, set, loses a part of the answer.
use Prim.Native.Nat.{ℕ, suc, ◌-◌, ◌*◌, ◌^◌, ◌<◌}
use mathlib.Core.Path.{◌≡◌, refl}
use mathlib.Core.Bool.{true, false}
use mathlib.Core.List.{List}
use lib.Bits.{bit_or}
use borrow.Author.Tests.{le-ltb}
use native.Mathlib.Omega.{arith}
use Rattle.situations.specs.Meaning.{situation_at}
use Rattle.situations.proofs.Numbers.{situation_at-length}
use Rattle.situations.proofs.Weights.{power_shift}
use Rattle.steps.specs.Meaning.{in_words, first_answer, column_fails, first_column, situation_fails}
use Rattle.steps.specs.Inside.{grown, Numbered}
use Rattle.steps.proofs.Firsts.{first-none}
use Rattle.steps.proofs.FirstAnswer.{power_odd, none-fails}

module _
    (bury keep : List ℕ) (n w : ℕ) (i : Numbered n w)
    (kept : (j : ℕ) → j < 2 * n → grown bury keep w (bit_or w (2 ^ j)) ≡ true)
  where
    column-passed : (c : ℕ) → c < n → column_fails (in_words bury keep) (situation_at n w) c ≡ false
    unfolding column_fails
    column-passed c h =
        let z : 4 ≡ first_answer (in_words bury keep) (situation_at n w) c =
        none-fails bury keep n w c (record { here = i; has = h }) refl
        (rw (power_shift (n - 1 - c)) at (kept (2 * (n - 1 - c)) (omega arith)))
        refl
        (rw (power_odd (n - 1 - c)) at (kept (suc (2 * (n - 1 - c))) (omega arith))) in
        rw (← z)

    pub situation-passed : situation_fails (in_words bury keep) n w ≡ false
    unfolding situation_fails first_column
    situation-passed =
        rw (situation_at-length n w, first-none (column_fails (in_words bury keep) (situation_at n w)) n column-passed)
        (le-ltb n n (omega arith))
