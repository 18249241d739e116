-- The default's field: what one without a fault tells, and the ways out of its tests.
use Prim.Native.Nat.{ℕ, ◌≤◌, ◌<◌}
use mathlib.Core.Path.{◌≡◌, refl, sym, ◌∙◌}
use mathlib.Core.Bool.{Bool, true, false, cond}
use mathlib.Core.List.{List}
use lib.Dec.{ltb, eqb}
use lib.ListN.{length, get_or}
use borrow.Author.Tests.{lt-ltb, le-ltb, eq-eqb, ne_eqb, ltb-false, eqb-true, not-false}
use native.Mathlib.Omega.{arith}
use Rattle.refusals.specs.Meaning.{Numbers, none, refused, SHORT, LEN, VALUE}
use Rattle.fields.specs.Meaning.{tag, size, short_header, short_value}
use Rattle.faults.specs.Meaning.{other_length}
use Rattle.defaults.specs.Meaning.{has_default, default_fault}

-- no fault means that every test was passed
passed :
    (a b c d : Bool) →
    (cond a (refused SHORT 4) (cond b (refused LEN 4) (cond c (refused SHORT 4) (cond d (refused VALUE 7) none)))).number ≡ 0 →
    (b ≡ false) × (c ≡ false) × (d ≡ false)
passed true b c d h = absurd (omega (arith, h))
passed false true c d h = absurd (omega (arith, h))
passed false false true d h = absurd (omega (arith, h))
passed false false false true h = absurd (omega (arith, h))
passed false false false false h = (refl, refl, refl)

-- what is known of a default without a fault
pub record SoundDefault (part : List ℕ) : Type 0 where
  pub default-tag : tag part ≡ 3
  pub one_byte : size part ≡ 1
  pub long : 4 ≤ length part
  pub an_answer : get_or part 3 0 ≤ 3

pub default_fault-sound : (part : List ℕ) → has_default part ≡ true → (default_fault part).number ≡ 0 → SoundDefault part
unfolding default_fault
default_fault-sound part e h =
    let w = passed (short_header part) (other_length 1 part) (short_value 1 part) (ltb 3 (get_or part 3 0)) (rw e at h) in
    record {
      default-tag = eqb-true (tag part) 3 e;
      one_byte = eqb-true (size part) 1 (not-false (eqb (size part) 1) w.0);
      long = ltb-false (length part) 4 w.1;
      an_answer = ltb-false 3 (get_or part 3 0) w.2;
    }

-- the ways out of the functions, whose tests the code has in hand
module _ (part : List ℕ) {k : ℕ} (e : k ≡ tag part) where
  pub fault-none : (k ≡ 3 → ⊥) → {r : Numbers} → r ≡ none → r ≡ default_fault part
  unfolding default_fault
  fault-none h q = rw (← e, ne_eqb k 3 h) q

  module _ (here : k ≡ 3) {header : Bool} (f : header ≡ short_header part) where
    pub fault-short : header ≡ true → {r : Numbers} → r ≡ refused SHORT 4 → r ≡ default_fault part
    unfolding default_fault
    fault-short h q = rw (← e, eq-eqb k 3 here, ← f, h) q

    module _ (whole : header ≡ false) {l : ℕ} (g : l ≡ size part) where
      pub fault-length : (l ≡ 1 → ⊥) → {r : Numbers} → r ≡ refused LEN 4 → r ≡ default_fault part
      unfolding default_fault
      fault-length h q = rw (← e, eq-eqb k 3 here, ← f, whole, ← g, ne_eqb l 1 h) q

      module _ (one : l ≡ 1) {cut : Bool} (i : cut ≡ short_value 1 part) where
        fault_last :
            (b : Bool) →
            cut ≡ b →
            {r : Numbers} →
            r ≡ cond b (refused SHORT 4) (cond (ltb 3 (get_or part 3 0)) (refused VALUE 7) none) →
            r ≡ default_fault part
        unfolding default_fault
        fault_last b h q = rw (← e, eq-eqb k 3 here, ← f, whole, ← g, eq-eqb l 1 one, ← i, h) q

        pub fault_cut : cut ≡ true → {r : Numbers} → r ≡ refused SHORT 4 → r ≡ default_fault part
        fault_cut h q = fault_last true h q

        pub fault-value : cut ≡ false → 3 < get_or part 3 0 → {r : Numbers} → r ≡ refused VALUE 7 → r ≡ default_fault part
        fault-value h v q = fault_last false h (rw (lt-ltb 3 (get_or part 3 0) v) q)

        pub fault-clear : cut ≡ false → get_or part 3 0 ≤ 3 → {r : Numbers} → r ≡ none → r ≡ default_fault part
        fault-clear h v q = fault_last false h (rw (le-ltb 3 (get_or part 3 0) v) q)

pub value-inside : (part : List ℕ) {cut : Bool} → cut ≡ short_value 1 part → cut ≡ false → 3 < length part
value-inside part i h = let l : 4 ≤ length part = ltb-false (length part) 4 (sym i ∙ h) in omega arith

-- What `check` returns, check by check.
pub ruleset fault_laws = (fault-none, fault-short, fault-length, fault_cut, value-inside, fault-value, fault-clear)
