-- A search for the first number that passes a test, one number after another.
use Prim.Native.Nat.{ℕ, suc, ◌+◌, ◌-◌, ◌≤◌, ◌<◌}
use mathlib.Core.Path.{◌≡◌, refl}
use mathlib.Core.Bool.{Bool, true, false}
use native.Mathlib.Numerals.{add-one}
use native.Mathlib.Omega.{arith}
use Rattle.steps.specs.Meaning.{first_from}
use Rattle.steps.specs.Inside.{Looking}

module _ (test : ℕ → Bool) (start last : ℕ) where
  pub looking_none : start ≤ last → Looking test start last start
  looking_none l = record { counted = l; rest = refl }

  module _ (k : ℕ) (w : Looking test start last k) where
    pub looking_more : k < last → test k ≡ false → Looking test start last (k + 1)
    unfolding first_from
    looking_more l t =
        let e : last - k ≡ suc (last - suc k) = omega arith in
        record { counted = omega arith; rest = rw add-one (rw (e, t) at w.rest) }

    pub looking_found : k < last → test k ≡ true → k ≡ first_from test (last - start) start
    unfolding first_from
    looking_found l t = let e : last - k ≡ suc (last - (k + 1)) = omega arith in rw (e, t) at w.rest

    pub looking_all : last ≤ k → k ≡ first_from test (last - start) start
    unfolding first_from
    looking_all l = let e : last - k ≡ 0 = omega arith in rw e at w.rest
