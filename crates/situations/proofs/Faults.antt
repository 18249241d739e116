-- The ways out of the check of a situation, and what one that passes it is.
use Prim.Native.Nat.{ℕ, ◌≤◌, ◌<◌}
use mathlib.Core.Path.{◌≡◌, refl, ap, sym, ◌∙◌}
use mathlib.Core.Bool.{Bool, true, false}
use mathlib.Core.List.{List}
use lib.Dec.{ltb}
use lib.ListN.{length, take, get_or}
use borrow.Author.Tests.{lt-ltb, le-ltb, ltb-true, ltb-false}
use native.Mathlib.Nat.{lt_of_lt_of_le}
use native.Mathlib.Omega.{arith}
use Rattle.std.specs.Prelude.{Option, Some, None}
use Rattle.refusals.specs.Meaning.{Numbers, none, refused, numbers, refusal_at, SITUATION}
use Rattle.refusals.specs.declared.Kind.TheVariants as kind
use Rattle.refusals.specs.declared.Refusal.{Refusal}
use Rattle.fields.specs.Meaning.{first_above, above}
use Rattle.fields.proofs.Above.{first_above_before, above-found, above_none}
use Rattle.situations.specs.declared.Situation.{Situation}
use Rattle.situations.specs.Meaning.{fault, fault_of}

module _ (s : List ℕ) {r : Numbers} where
  pub fault-short : r ≡ refused SITUATION (length s) → length s < 1 → r ≡ fault s
  unfolding fault
  fault-short q h = q ∙ (rw (lt-ltb (length s) 1 h))

  pub fault-long : r ≡ refused SITUATION (length s) → 6 < length s → r ≡ fault s
  unfolding fault
  fault-long q h = q ∙ (rw (le-ltb (length s) 1 (omega arith), lt-ltb 6 (length s) h))

  module _ {i : ℕ} (h : 1 ≤ length s) (k : length s ≤ 6) (e : i ≡ first_above 3 s) where
    pub fault_above : r ≡ refused SITUATION i → i < length s → r ≡ fault s
    unfolding fault
    fault_above q l = q ∙ (rw (le-ltb (length s) 1 h, le-ltb 6 (length s) k, ← e, lt-ltb i (length s) l))

    pub fault-none : r ≡ none → length s ≤ i → r ≡ fault s
    unfolding fault
    fault-none q l = q ∙ (rw (le-ltb (length s) 1 h, le-ltb 6 (length s) k, ← e, le-ltb i (length s) l))

-- what its search for a byte above 3 finds
module _ (s : List ℕ) (h : 1 ≤ length s) (k : length s ≤ 6) {o : Option ℕ} (e : o ≡ above 3 s) where
  pub fault-found : {i : ℕ} (r : Refusal) → o ≡ Some i → r ≡ refusal_at kind.Situation i → numbers r ≡ fault s
  fault-found r q a =
      let f = above-found 3 s (sym e ∙ q) in
      ap numbers a ∙ fault_above s h k (sym f.1) refl (rw (← f.1) (ltb-true (first_above 3 s) (length s) f.0))

  pub fault_nothing : o ≡ None → none ≡ fault s
  fault_nothing q = fault-none s h k refl refl (ltb-false (first_above 3 s) (length s) (above_none 3 s (sym e ∙ q)))

-- what is not refused has 1 to 6 columns, and answers only
module _ (s : List ℕ) (h : (fault s).number ≡ 0) where
  numbered : {n : ℕ} → refused SITUATION n ≡ fault s → ⊥
  numbered e = let z : ◌≡◌ {A = ℕ} 14 0 = ap (λ (r : Numbers). r.number) e ∙ h in omega arith

  pub fault-columns : (1 ≤ length s) × (length s ≤ 6)
  fault-columns = (some (ltb (length s) 1) refl, most (ltb 6 (length s)) refl)
    where
      some : (t : Bool) → ltb (length s) 1 ≡ t → 1 ≤ length s
      some true e = absurd (numbered (fault-short s refl (ltb-true (length s) 1 e)))
      some false e = ltb-false (length s) 1 e

      most : (t : Bool) → ltb 6 (length s) ≡ t → length s ≤ 6
      most true e = absurd (numbered (fault-long s refl (ltb-true 6 (length s) e)))
      most false e = ltb-false 6 (length s) e

  pub fault-small : (k : ℕ) → k < length s → get_or s k 0 ≤ 3
  fault-small k l = first_above_before 3 s k (lt_of_lt_of_le l (found (ltb (first_above 3 s) (length s)) refl))
    where
      found : (t : Bool) → ltb (first_above 3 s) (length s) ≡ t → length s ≤ first_above 3 s
      found true e = absurd (numbered (fault_above s fault-columns.0 fault-columns.1 refl refl (ltb-true (first_above 3 s) (length s) e)))
      found false e = ltb-false (first_above 3 s) (length s) e

-- the same of a situation by value
pub fault_of-long : (s : Situation) {r : Numbers} → r ≡ refused SITUATION s.length → 6 < s.length → r ≡ fault_of s
unfolding fault_of
fault_of-long s q h = q ∙ (rw (lt-ltb 6 s.length h))

pub fault_of_slice : (s : Situation) {r : Numbers} → s.length ≤ 6 → r ≡ fault (take s.length s.answers) → r ≡ fault_of s
unfolding fault_of
fault_of_slice s h e = rw (le-ltb 6 s.length h) e

-- What `check` returns, check by check.
pub ruleset fault_laws = (fault-short, fault-long, fault-found, fault_nothing)
