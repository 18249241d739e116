-- The bits of a word from one on: the lowest are the answer there, and where nothing is behind them, all further answers are silent.
use Prim.Native.Nat.{ℕ, ◌+◌, ◌-◌, ◌/◌, ◌%◌, ◌^◌, ◌≤◌, ◌<◌}
use mathlib.Core.Path.{◌≡◌, refl}
use mathlib.Core.Bool.{Bool, true, false, cond}
use mathlib.Core.List.{List}
use lib.Dec.{ltb}
use lib.ListN.{get_or}
use lib.Pow.{pow-add}
use borrow.Author.Tests.{lt-ltb, le-ltb, ltb-false}
use native.Mathlib.Nat.{div-div-eq-div-mul, div-eq_of_lt, pow-le-pow_right, zero-lt-suc}
use native.Mathlib.Omega.{arith}
use Rattle.words.specs.Meaning.{bit}
use Rattle.answers.specs.declared.Answer.TheVariants.{Silent}
use Rattle.planes.specs.Meaning.{lane}
use Rattle.listing.specs.Inside.{behind, ahead_of}

-- how far it is
module _ (low high w : ℕ) where
  pub ahead-low : 1 < low → 1 ≡ ahead_of low high w
  ahead-low l = rw (lt-ltb 1 low l)

  module _ (none : low ≤ 1) where
    pub ahead-high : 1 < high → 1 ≡ ahead_of low high w
    ahead-high l = rw (le-ltb 1 low none, lt-ltb 1 high l)

    pub ahead-end : high ≤ 1 → 64 - w % 64 ≡ ahead_of low high w
    ahead-end l = rw (le-ltb 1 low none, le-ltb 1 high l)

-- a bit behind one that has nothing behind it is 0
nothing_behind : (word x y : ℕ) → word / 2 ^ x ≤ 1 → 1 ≤ y → bit (x + y) word ≡ 0
nothing_behind word x y l some =
    let two : 2 ^ 1 ≤ 2 ^ y = pow-le-pow_right {n = 2} (zero-lt-suc 1) {i = 1} {j = y} some in
    rw (pow-add 2 x y, ← div-div-eq-div-mul word (2 ^ x) (2 ^ y), div-eq_of_lt {n = word / 2 ^ x} {m = 2 ^ y} (omega (arith, two, l)))

-- so is it in a block of words, as far as the word goes
nothing_further : (words : List ℕ) (w j : ℕ) → behind words w ≤ 1 → w < j → j < w + (64 - w % 64) → bit (j % 64) (get_or words (j / 64) 0) ≡ 0
nothing_further words w j l after within =
    let word : j / 64 ≡ w / 64 = omega arith in
    let place : j % 64 ≡ w % 64 + (j - w) = omega arith in
    rw (word, place) (nothing_behind (get_or words (w / 64) 0) (w % 64) (j - w) l (omega arith))

-- no answer is passed over
pub passed_silent :
    (bury keep : List ℕ) (w j : ℕ) →
    w < j →
    j < w + ahead_of (behind bury w) (behind keep w) w →
    lane bury keep j ≡ Silent
passed_silent bury keep w j after = go (ltb 1 (behind bury w)) refl (ltb 1 (behind keep w)) refl
  where
    go :
        (s : Bool) →
        ltb 1 (behind bury w) ≡ s →
        (t : Bool) →
        ltb 1 (behind keep w) ≡ t →
        j < w + cond s 1 (cond t 1 (64 - w % 64)) →
        lane bury keep j ≡ Silent
    go true e t f l = absurd (omega arith)
    go false e true f l = absurd (omega arith)
    go false e false f l =
        let low = nothing_further bury w j (ltb-false 1 (behind bury w) e) after l in
        let high = nothing_further keep w j (ltb-false 1 (behind keep w) f) after l in
        rw (low, high)
