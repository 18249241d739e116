-- The first field: what one without a fault tells, and the ways out of its tests.
use Prim.Native.Nat.{ℕ, ◌≤◌, ◌<◌}
use mathlib.Core.Path.{◌≡◌, refl, sym, ◌∙◌}
use mathlib.Core.Bool.{Bool, true, false, cond, ◌||◌, true≢false}
use mathlib.Core.List.{List}
use lib.Dec.{ltb, eqb}
use lib.ListN.{length}
use borrow.Author.Tests.{lt-ltb, le-ltb, eq-eqb, ne_eqb, ltb-false, eqb-true, not-false}
use native.Mathlib.Omega.{arith}
use Rattle.refusals.specs.Meaning.{Numbers, none, refused, SHORT, START, LEN, VALUE}
use Rattle.fields.specs.Meaning.{tag, size, short_header, short_value}
use Rattle.situations.specs.Meaning.{outside}
use Rattle.faults.specs.Meaning.{columns_of, other_tag, other_length, columns_fault}
use Rattle.faults.specs.Inside.{range_fault, SoundColumns}

-- no fault means that every test was passed
columns-passed :
    (a b c d e f : Bool) →
    (cond a (refused START 0)
    (cond b (refused SHORT 0)
    (cond c (refused START 0)
    (cond d (refused LEN 0)
    (cond e (refused SHORT 0)
    (cond f (refused VALUE 3) none)))))).number
    ≡ 0 →
    (c ≡ false) × (d ≡ false) × (e ≡ false) × (f ≡ false)
columns-passed true b c d e f h = absurd (omega (arith, h))
columns-passed false true c d e f h = absurd (omega (arith, h))
columns-passed false false true d e f h = absurd (omega (arith, h))
columns-passed false false false true e f h = absurd (omega (arith, h))
columns-passed false false false false true f h = absurd (omega (arith, h))
columns-passed false false false false false true h = absurd (omega (arith, h))
columns-passed false false false false false false h = (refl, refl, refl, refl)

inside-passed : (a b : Bool) → (a || b) ≡ false → (a ≡ false) × (b ≡ false)
inside-passed false false h = (refl, refl)
inside-passed false true h = absurd (true≢false h)
inside-passed true b h = absurd (true≢false h)

pub columns_fault-sound : (t : List ℕ) → (columns_fault t).number ≡ 0 → SoundColumns t
unfolding columns_fault
columns_fault-sound t h =
    let w = columns-passed (eqb (length t) 0) (short_header t) (other_tag 1 t) (other_length 1 t) (short_value 1 t) (outside (columns_of t)) h in
    let v = inside-passed (ltb (columns_of t) 1) (ltb 6 (columns_of t)) w.3 in
    record {
      long = ltb-false (length t) 4 w.2;
      first-tag = eqb-true (tag t) 1 (not-false (eqb (tag t) 1) w.0);
      one_byte = eqb-true (size t) 1 (not-false (eqb (size t) 1) w.1);
      some-column = ltb-false (columns_of t) 1 v.0;
      few-columns = ltb-false 6 (columns_of t) v.1;
    }

-- a number of columns
module _ (n : ℕ) {r : Numbers} where
  pub range_few : n < 1 → r ≡ refused VALUE 3 → r ≡ range_fault n
  range_few h q = rw (lt-ltb n 1 h) q

  pub range_many : 1 ≤ n → 6 < n → r ≡ refused VALUE 3 → r ≡ range_fault n
  range_many h m q = rw (le-ltb n 1 h, lt-ltb 6 n m) q

  pub range_none : 1 ≤ n → n ≤ 6 → r ≡ none → r ≡ range_fault n
  range_none h m q = rw (le-ltb n 1 h, le-ltb 6 n m) q

pub column-inside : (t : List ℕ) {cut : Bool} → cut ≡ short_value 1 t → cut ≡ false → 3 < length t
column-inside t e h = let l : 4 ≤ length t = ltb-false (length t) 4 (sym e ∙ h) in omega arith

-- the ways out of its tests, whose results the code has in hand
module _ (t : List ℕ) {r : Numbers} where
  pub columns_fault_empty : length t ≡ 0 → r ≡ refused START 0 → r ≡ columns_fault t
  unfolding columns_fault
  columns_fault_empty h q = rw (eq-eqb (length t) 0 h) q

  module _ (some : length t ≡ 0 → ⊥) {header : Bool} (e : header ≡ short_header t) where
    pub columns_fault-short : header ≡ true → r ≡ refused SHORT 0 → r ≡ columns_fault t
    unfolding columns_fault
    columns_fault-short h q = rw (ne_eqb (length t) 0 some, sym e ∙ h) q

    module _ (long : header ≡ false) (k : ℕ) (f : k ≡ tag t) where
      pub columns_fault-start : (k ≡ 1 → ⊥) → r ≡ refused START 0 → r ≡ columns_fault t
      unfolding columns_fault
      columns_fault-start h q = rw (ne_eqb (length t) 0 some, sym e ∙ long, ← f, ne_eqb k 1 h) q

      module _ (first : k ≡ 1) (l : ℕ) (g : l ≡ size t) where
        pub columns_fault-length : (l ≡ 1 → ⊥) → r ≡ refused LEN 0 → r ≡ columns_fault t
        unfolding columns_fault
        columns_fault-length h q = rw (ne_eqb (length t) 0 some, sym e ∙ long, ← f, eq-eqb k 1 first, ← g, ne_eqb l 1 h) q

        module _ (one : l ≡ 1) {cut : Bool} (i : cut ≡ short_value 1 t) where
          columns_fault_last : (b : Bool) → cut ≡ b → r ≡ cond b (refused SHORT 0) (range_fault (columns_of t)) → r ≡ columns_fault t
          unfolding columns_fault
          columns_fault_last b h q =
              rw (ne_eqb (length t) 0 some, sym e ∙ long, ← f, eq-eqb k 1 first, ← g, eq-eqb l 1 one, sym i ∙ h) q

          pub columns_fault_cut : cut ≡ true → r ≡ refused SHORT 0 → r ≡ columns_fault t
          columns_fault_cut h q = columns_fault_last true h q

          pub columns_fault_range : cut ≡ false → r ≡ range_fault (columns_of t) → r ≡ columns_fault t
          columns_fault_range h q = columns_fault_last false h q

-- What `check_range` and `check_columns` return, check by check.
pub ruleset range_laws = (range_few, range_many, range_none)

pub ruleset columns_laws = (columns_fault_empty, columns_fault-short, columns_fault-start, columns_fault-length, columns_fault_cut, columns_fault_range, column-inside)
