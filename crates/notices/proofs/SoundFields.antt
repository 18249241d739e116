-- A field is sound, test by test, exactly when it has no fault.
use Prim.Native.Nat.{ℕ, ◌-◌, ◌≤◌, ◌<◌}
use mathlib.Core.Path.{◌≡◌, refl, sym, ap, ◌∙◌}
use mathlib.Core.Bool.{Bool, true, false}
use mathlib.Core.List.{List}
use native.Mathlib.Omega.{arith}
use lib.Dec.{ltb, leb}
use lib.ListN.{length, get_or}
use borrow.Author.Tests.{le-ltb, le-leb, lt-leb, eq-eqb, ne_eqb, eqb-true, eqb-false, ltb-true, ltb-false}
use Rattle.refusals.specs.Meaning.{Numbers, none}
use Rattle.fields.specs.Meaning.{two, tag, size}
use Rattle.notices.specs.Meaning.{first_fact, fault}
use Rattle.notices.specs.Inside.{sound}
use Rattle.notices.proofs.Faults.{Sound, fault-none}

-- A field without a fault has none at any place.
pub no_fault : (left at least : ℕ) (s : List ℕ) → Sound left least s → fault left at least s ≡ none
unfolding fault
no_fault left at least s x =
    rw (
      le-ltb (length s) 3 (omega (arith, x.whole)),
      eq-eqb (tag s) 16 x.tagged,
      ne_eqb left 0 (λ e. omega (arith, e, x.room)),
      eq-eqb (size s) 6 x.sized,
      le-ltb (length s) 9 x.whole,
      le-ltb (first_fact s).number least x.rises,
    )

pub sound-is : (left least : ℕ) (s : List ℕ) → true ≡ sound left least s → Sound left least s
unfolding sound
sound-is left least s e = fault-none left 0 least s (eqb-true (fault left 0 least s).number 0 (sym e))

sound_yes : (left least : ℕ) (s : List ℕ) → Sound left least s → true ≡ sound left least s
unfolding sound
sound_yes left least s x = rw (no_fault left 0 least s x)

sound_no : (left least : ℕ) (s : List ℕ) → (Sound left least s → ⊥) → false ≡ sound left least s
sound_no left least s h = go (sound left least s) refl
  where
    go : (b : Bool) → sound left least s ≡ b → false ≡ sound left least s
    go true e = absurd (h (sound-is left least s (sym e)))
    go false e = sym e

pub unsound : (left least : ℕ) (s : List ℕ) → sound left least s ≡ false → Sound left least s → ⊥
unfolding sound
unsound left least s q x = eqb-false (fault left 0 least s).number 0 q (ap (λ (r : Numbers). r.number) (no_fault left 0 least s x))

-- The tests of a field, one by one.
module _ (before least : ℕ) (s : List ℕ) where
  pub sound-short : length s < 9 → false ≡ sound (32 - before) least s
  sound-short h = sound_no (32 - before) least s (λ x. omega (arith, x.whole))

  pub sound-tag : {t : ℕ} → t ≡ tag s → (t ≡ 16 → ⊥) → false ≡ sound (32 - before) least s
  sound-tag e h = sound_no (32 - before) least s (λ x. h (e ∙ x.tagged))

  pub sound-full : 32 ≤ before → false ≡ sound (32 - before) least s
  sound-full h = sound_no (32 - before) least s (λ x. omega (arith, x.room))

  pub sound-length : {n : ℕ} → n ≡ size s → (n ≡ 6 → ⊥) → false ≡ sound (32 - before) least s
  sound-length e h = sound_no (32 - before) least s (λ x. h (e ∙ x.sized))

  pub sound_rise : {t n m : ℕ} → 9 ≤ length s → t ≡ tag s → t ≡ 16 → before < 32 → n ≡ size s → n ≡ 6 →
      m ≡ two (get_or s 3 0) (get_or s 4 0) →
      leb least m ≡ sound (32 - before) least s
  sound_rise {t} {n} {m} w e h l f k j = go (ltb m least) refl
    where
      go : (b : Bool) → ltb m least ≡ b → leb least m ≡ sound (32 - before) least s
      go true q =
          let r : m < least = ltb-true m least q in
          rw (lt-leb least m r) (sound_no (32 - before) least s (λ x. omega (arith, r, j, x.rises)))
      go false q =
          let r : least ≤ m = ltb-false m least q in
          rw (le-leb least m r)
          (sound_yes (32 - before) least s
          (record { tagged = sym e ∙ h; room = omega arith; sized = sym f ∙ k; whole = w; rises = rw j at r }))

-- What `sound` returns.
pub ruleset sound_laws = (sound-short, sound-tag, sound-full, sound-length, sound_rise)
