-- Which fault the first field of some bytes has, test by test, and what a field without a fault is.
use Prim.Native.Nat.{ℕ, ◌≤◌, ◌<◌}
use mathlib.Core.Path.{◌≡◌, refl, ◌∙◌}
use mathlib.Core.Bool.{Bool, true, false, cond}
use mathlib.Core.List.{List}
use native.Mathlib.Omega.{arith}
use lib.Dec.{ltb, eqb}
use lib.ListN.{length}
use borrow.Author.Tests.{lt-ltb, le-ltb, ltb-false, eqb-true, eqb-false, eq-eqb, ne_eqb}
use Rattle.refusals.specs.Meaning.{Numbers, none, refused, SHORT, TAG, LEN, WEEK}
use Rattle.fields.specs.Meaning.{tag, size, short_header, short_value}
use Rattle.batches.specs.Meaning.{field_size, fault}

module _ (left at : ℕ) (s : List ℕ) where
  pub fault_header : {b : Bool} {r : Numbers} → b ≡ short_header s → b ≡ true → r ≡ refused SHORT at → r ≡ fault left at s
  unfolding fault
  fault_header e h w = w ∙ rw (← e, h)

  module _ {b : Bool} (e : b ≡ short_header s) (h : b ≡ false) {t : ℕ} (f : t ≡ tag s) where
    pub fault-tag : {r : Numbers} → (t ≡ 17 → ⊥) → r ≡ refused TAG at → r ≡ fault left at s
    unfolding fault
    fault-tag i w = w ∙ rw (← e, h, ← f, ne_eqb t 17 i)

    module _ (i : t ≡ 17) where
      pub fault_week : {r : Numbers} → left ≡ 0 → r ≡ refused WEEK at → r ≡ fault left at s
      unfolding fault
      fault_week l w = w ∙ rw (← e, h, ← f, eq-eqb t 17 i, eq-eqb left 0 l)

      module _ (l : left ≡ 0 → ⊥) {n : ℕ} (g : n ≡ size s) where
        pub fault-length : {r : Numbers} → 288 < n → r ≡ refused LEN at → r ≡ fault left at s
        unfolding fault
        fault-length k w = w ∙ rw (← e, h, ← f, eq-eqb t 17 i, ne_eqb left 0 l, ← g, lt-ltb 288 n k)

        module _ (k : n ≤ 288) {b' : Bool} (e' : b' ≡ short_value n s) where
          pub fault-value : {r : Numbers} → b' ≡ true → r ≡ refused SHORT at → r ≡ fault left at s
          unfolding fault
          fault-value h' w = w ∙ rw (← e, h, ← f, eq-eqb t 17 i, ne_eqb left 0 l, ← g, le-ltb 288 n k, ← e', h')

          pub fault-done : {r : Numbers} → b' ≡ false → r ≡ none → r ≡ fault left at s
          unfolding fault
          fault-done h' w = w ∙ rw (← e, h, ← f, eq-eqb t 17 i, ne_eqb left 0 l, ← g, le-ltb 288 n k, ← e', h')

-- a field without a fault
pub record Sound (left : ℕ) (s : List ℕ) : Type 0 where
  pub tagged : tag s ≡ 17
  pub room : 0 < left
  pub short : size s ≤ 288
  pub whole : field_size s ≤ length s

-- the five tests, as what they gave
passed : (at : ℕ) (a b c d e : Bool) →
    (cond a (refused SHORT at)
    (cond b (cond c (refused WEEK at) (cond d (refused LEN at) (cond e (refused SHORT at) none))) (refused TAG at))).number ≡ 0 →
    (b ≡ true) × (c ≡ false) × (d ≡ false) × (e ≡ false)
passed at true b c d e h = absurd (omega (arith, h))
passed at false false c d e h = absurd (omega (arith, h))
passed at false true true d e h = absurd (omega (arith, h))
passed at false true false true e h = absurd (omega (arith, h))
passed at false true false false true h = absurd (omega (arith, h))
passed at false true false false false h = (refl, refl, refl, refl)

pub fault-none : (left at : ℕ) (s : List ℕ) → (fault left at s).number ≡ 0 → Sound left s
unfolding fault
fault-none left at s h =
    let t = passed at (short_header s) (eqb (tag s) 17) (eqb left 0) (ltb 288 (size s)) (short_value (size s) s) h in
    let some : left ≡ 0 → ⊥ = eqb-false left 0 t.1 in
    record {
      tagged = eqb-true (tag s) 17 t.0;
      room = omega (arith, some);
      short = ltb-false 288 (size s) t.2;
      whole = ltb-false (length s) (field_size s) t.3;
    }

-- What `fault` returns, check by check.
pub ruleset fault_laws = (fault_header, fault-tag, fault_week, fault-length, fault-value, fault-done)
