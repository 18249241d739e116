-- What a node that is not refused finds: room (push_clear, column-clear) or operands (down_clear, join-clear); and that no node
-- leads beyond the places (climb-room).
use Prim.Native.Nat.{ℕ, ◌≤◌, ◌<◌, suc, ◌+◌, ◌-◌}
use mathlib.Core.Path.{◌≡◌, refl, sym, ◌∙◌}
use mathlib.Core.Bool.{true}
use borrow.Author.Tests.{lt-ltb}
use native.Mathlib.Omega.{arith}
use Rattle.std.proofs.lemmas.Bool.Decides.{nat_tests}
use Rattle.nodes.specs.declared.Node.{Node}
use Rattle.nodes.specs.declared.Node.TheVariants.{Constant, Negate, Turn, Meet, Join, Column, Foreign}
use Rattle.nodes.specs.declared.Profile.{Profile}
use Rattle.nodes.specs.Meaning.{climb_push, climb_down, climb, Climbed, to}
use Rattle.nodes.specs.Inside.{taken, Fits}

module _ (limit height : ℕ) where
  pub push_clear : (climb_push limit height).fault ≡ 0 → height < limit
  push_clear e = grind (arith, nat_tests)

  pub down_clear : (climb_down limit height).fault ≡ 0 → limit < height
  down_clear e = grind (arith, nat_tests)

module _ (profile : Profile) (n height : ℕ) where
  pub column-clear : (k : ℕ) → (climb profile n (Column k) height).fault ≡ 0 → (k < n) × (height < profile.places)
  unfolding climb
  column-clear k e = (grind (arith, nat_tests), grind (arith, nat_tests))

  pub join-clear : (climb profile n Join height).fault ≡ 0 → (profile.joins ≡ true) × (1 < height)
  unfolding climb
  join-clear e = (grind (arith, nat_tests), grind (arith, nat_tests))

pub climb-room :
    (profile : Profile) (n : ℕ) (node : Node) (height : ℕ) →
    height ≤ profile.places →
    (climb profile n node height).height ≤ profile.places
unfolding climb
climb-room profile n (Constant a) height l = grind (arith, nat_tests)
climb-room profile n (Column k) height l = grind (arith, nat_tests)
climb-room profile n Negate height l = grind (arith, nat_tests)
climb-room profile n Turn height l = grind (arith, nat_tests)
climb-room profile n Meet height l = grind (arith, nat_tests)
climb-room profile n Join height l = grind (arith, nat_tests)
climb-room profile n Foreign height l = omega arith

-- a node that is not refused finds its operands, and leaves one answer in place of them, within any limit of both counts
module _ (profile : Profile) (n height : ℕ) where
  down :
      (limit fewer : ℕ) {c : Climbed} →
      height ≤ limit →
      fewer < height →
      c ≡ climb_down fewer height →
      (suc fewer ≤ height) × (height + 1 - suc fewer ≤ limit) × (to (height + 1 - suc fewer) ≡ c)
  down limit fewer q l e =
      let same : height + 1 - suc fewer ≡ height - fewer = omega arith in
      (omega arith, omega arith, rw (e, same, lt-ltb fewer height l))

  climb-taken :
      (limit : ℕ) →
      profile.places ≤ limit →
      height ≤ limit →
      (node : Node) →
      (climb profile n node height).fault ≡ 0 →
      (taken node ≤ height) × (height + 1 - taken node ≤ limit) × (to (height + 1 - taken node) ≡ climb profile n node height)
  unfolding climb taken
  climb-taken limit p q (Constant a) e =
      let l : height < profile.places = push_clear profile.places height e in
      let same : height + 1 - 0 ≡ height + 1 = omega arith in
      (omega arith, omega arith, rw (same, lt-ltb height profile.places l))
  climb-taken limit p q (Column k) e =
      let l = column-clear profile n height k e in
      let room : height < profile.places = l.1 in
      let same : height + 1 - 0 ≡ height + 1 = omega arith in
      (omega arith, omega arith, rw (same, lt-ltb k n l.0, lt-ltb height profile.places room))
  climb-taken limit p q Negate e = down limit 0 q (down_clear 0 height e) refl
  climb-taken limit p q Turn e = down limit 0 q (down_clear 0 height e) refl
  climb-taken limit p q Meet e = down limit 1 q (down_clear 1 height e) refl
  climb-taken limit p q Join e = let j = join-clear profile n height e in down limit 1 q j.1 (rw j.0)
  climb-taken limit p q Foreign e = absurd (omega (arith, e))

  module _ (node : Node) {f : ℕ} (e : f ≡ (climb profile n node height).fault) where
    module _ (z : f ≡ 0) where
      not-refused : (climb profile n node height).fault ≡ 0
      not-refused = sym e ∙ z

      pub climb-fits : profile.places < 18446744073709551616 → height < 18446744073709551616 → Fits node height
      climb-fits p q =
          let b = climb-taken 18446744073709551615 (omega arith) (omega arith) node not-refused in
          record { enough = b.0; word = omega (arith, b.1) }

      pub climb-behind : {r : ℕ} → r ≡ height + 1 - taken node → record { height = r; fault = f } ≡ climb profile n node height
      climb-behind g = rw (g, z) (climb-taken (profile.places + height) (omega arith) (omega arith) node not-refused).2
