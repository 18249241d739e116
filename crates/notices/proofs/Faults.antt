-- Which fault the first field of some bytes has, test by test, and what a field without a fault is.
use Prim.Native.Nat.{ℕ, ◌-◌, ◌≤◌, ◌<◌}
use mathlib.Core.Path.{◌≡◌, refl, sym, ◌∙◌}
use mathlib.Core.Bool.{Bool, true, false, cond}
use mathlib.Core.List.{List}
use native.Mathlib.Omega.{arith}
use lib.Dec.{ltb, eqb}
use lib.ListN.{length, get_or}
use borrow.Author.Tests.{lt-ltb, le-ltb, ltb-false, eqb-true, eqb-false, eq-eqb, ne_eqb}
use Rattle.refusals.specs.Meaning.{Numbers, none, refused, SHORT, TAG, LEN, RISE, FACTS}
use Rattle.fields.specs.Meaning.{two, two_at, tag, size, short_header, short_value}
use Rattle.notices.specs.Meaning.{first_fact, fault}

module _ (before at least : ℕ) (s : List ℕ) where
  pub fault_header : {b : Bool} {r : Numbers} → b ≡ short_header s → b ≡ true → r ≡ refused SHORT at → r ≡ fault (32 - before) at least s
  unfolding fault
  fault_header e h w = w ∙ rw (← e, h)

  module _ {b : Bool} (e : b ≡ short_header s) (h : b ≡ false) {t : ℕ} (f : t ≡ tag s) where
    pub fault-tag : {r : Numbers} → (t ≡ 16 → ⊥) → r ≡ refused TAG at → r ≡ fault (32 - before) at least s
    unfolding fault
    fault-tag i w = w ∙ rw (← e, h, ← f, ne_eqb t 16 i)

    module _ (i : t ≡ 16) where
      pub fault-full : {r : Numbers} → 32 ≤ before → r ≡ refused FACTS at → r ≡ fault (32 - before) at least s
      unfolding fault
      fault-full l w = w ∙ rw (← e, h, ← f, eq-eqb t 16 i, eq-eqb (32 - before) 0 (omega arith))

      module _ (l : before < 32) {n : ℕ} (g : n ≡ size s) where
        room : eqb (32 - before) 0 ≡ false
        room = ne_eqb (32 - before) 0 (λ e. omega (arith, e))

        pub fault-length : {r : Numbers} → (n ≡ 6 → ⊥) → r ≡ refused LEN at → r ≡ fault (32 - before) at least s
        unfolding fault
        fault-length k w = w ∙ rw (← e, h, ← f, eq-eqb t 16 i, room, ← g, ne_eqb n 6 k)

        module _ (k : n ≡ 6) {b' : Bool} (e' : b' ≡ short_value 6 s) where
          pub fault-value : {r : Numbers} → b' ≡ true → r ≡ refused SHORT at → r ≡ fault (32 - before) at least s
          unfolding fault
          fault-value h' w = w ∙ rw (← e, h, ← f, eq-eqb t 16 i, room, ← g, eq-eqb n 6 k, ← e', h')

          module _ (h' : b' ≡ false) {m : ℕ} (j : m ≡ two (get_or s 3 0) (get_or s 4 0)) where
            pub fault_rise : {r : Numbers} → m < least → r ≡ refused RISE at → r ≡ fault (32 - before) at least s
            unfolding fault
            fault_rise q w = w ∙ rw (← e, h, ← f, eq-eqb t 16 i, room, ← g, eq-eqb n 6 k, ← e', h', ← j, lt-ltb m least q)

            pub fault-done : {r : Numbers} → least ≤ m → r ≡ none → r ≡ fault (32 - before) at least s
            unfolding fault
            fault-done q w = w ∙ rw (← e, h, ← f, eq-eqb t 16 i, room, ← g, eq-eqb n 6 k, ← e', h', ← j, le-ltb m least q)

-- where the value does not run past the end, the field stands whole
pub value-whole : (s : List ℕ) {b : Bool} → b ≡ short_value 6 s → b ≡ false → 9 ≤ length s
value-whole s e h = ltb-false (length s) 9 (sym e ∙ h)

-- What `check` gives.
pub ruleset fault_laws = (fault_header, fault-tag, fault-full, fault-length, fault-value, fault_rise, fault-done, value-whole)

pub record Sound (left least : ℕ) (s : List ℕ) : Type 0 where
  pub tagged : tag s ≡ 16
  pub room : 0 < left
  pub sized : size s ≡ 6
  pub whole : 9 ≤ length s
  pub rises : least ≤ two_at s 3

-- the six tests, as what they gave
passed : (at : ℕ) (a b c d e f : Bool) →
    (cond a (refused SHORT at)
    (cond b
    (cond c (refused FACTS at) (cond d (cond e (refused SHORT at) (cond f (refused RISE at) none)) (refused LEN at))) (refused TAG at))).number ≡ 0 →
    (b ≡ true) × (c ≡ false) × (d ≡ true) × (e ≡ false) × (f ≡ false)
passed at true b c d e f h = absurd (omega (arith, h))
passed at false false c d e f h = absurd (omega (arith, h))
passed at false true true d e f h = absurd (omega (arith, h))
passed at false true false false e f h = absurd (omega (arith, h))
passed at false true false true true f h = absurd (omega (arith, h))
passed at false true false true false true h = absurd (omega (arith, h))
passed at false true false true false false h = (refl, refl, refl, refl, refl)

pub fault-none : (left at least : ℕ) (s : List ℕ) → (fault left at least s).number ≡ 0 → Sound left least s
unfolding fault
fault-none left at least s h =
    let t = passed at (short_header s) (eqb (tag s) 16) (eqb left 0) (eqb (size s) 6) (short_value 6 s) (ltb (first_fact s).number least) h in
    let full : left ≡ 0 → ⊥ = eqb-false left 0 t.1 in
    record {
      tagged = eqb-true (tag s) 16 t.0;
      room = omega (arith, full);
      sized = eqb-true (size s) 6 t.2;
      whole = ltb-false (length s) 9 t.3;
      rises = ltb-false (first_fact s).number least t.4;
    }
