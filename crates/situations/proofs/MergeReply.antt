-- The ways out of the check of a merge.
use Prim.Native.Nat.{ℕ, ◌≤◌}
use mathlib.Core.Path.{◌≡◌, refl, ap, sym, ◌∙◌}
use mathlib.Core.Bool.{Bool, true, false}
use lib.Dec.{ltb}
use borrow.Author.Tests.{eq-eqb, ne_eqb, ltb-false}
use native.Mathlib.Omega.{arith}
use Rattle.std.specs.Prelude.{Result, Err}
use Rattle.refusals.specs.Meaning.{Numbers, none, refused, numbers, checked, refusal_at, SITUATION}
use Rattle.refusals.specs.declared.Kind.TheVariants as kind
use Rattle.refusals.specs.declared.Refusal.{Refusal}
use Rattle.refusals.proofs.Checks.{refusal_counts}
use Rattle.situations.specs.declared.Situation.{Situation}
use Rattle.situations.specs.Meaning.{fault_of, merge_of}

module _ (s t : Situation) {r : Numbers} (f : r ≡ fault_of s) where
  fault-first : (r.number ≡ 0 → ⊥) → r ≡ (merge_of s t).refusal
  unfolding merge_of
  fault-first x = rw (← f, ne_eqb r.number 0 x)

  module _ (a : r.number ≡ 0) {q : Numbers} (g : q ≡ fault_of t) where
    fault-second : (q.number ≡ 0 → ⊥) → q ≡ (merge_of s t).refusal
    unfolding merge_of
    fault-second x = rw (← f, eq-eqb r.number 0 a, ← g, ne_eqb q.number 0 x)

    module _ (b : q.number ≡ 0) {o : Numbers} where
      fault_lengths : (s.length ≡ t.length → ⊥) → o ≡ refused SITUATION t.length → o ≡ (merge_of s t).refusal
      unfolding merge_of
      fault_lengths x e = rw (e, ← f, eq-eqb r.number 0 a, ← g, eq-eqb q.number 0 b, ne_eqb s.length t.length x)

      fault_nowhere : s.length ≡ t.length → o ≡ none → o ≡ (merge_of s t).refusal
      unfolding merge_of
      fault_nowhere x e = rw (e, ← f, eq-eqb r.number 0 a, ← g, eq-eqb q.number 0 b, eq-eqb s.length t.length x)

-- the same of results
module _ (s t : Situation) where
  pub check-first : (r : Result Unit Refusal) (x : Refusal) → numbers x ≡ fault_of s → r ≡ Err x → checked r ≡ (merge_of s t).refusal
  check-first r x f j = ap checked j ∙ fault-first s t f (refusal_counts x)

  module _ (f : none ≡ fault_of s) where
    pub check-second : (r : Result Unit Refusal) (x : Refusal) → numbers x ≡ fault_of t → r ≡ Err x → checked r ≡ (merge_of s t).refusal
    check-second r x g j = ap checked j ∙ fault-second s t f refl g (refusal_counts x)

    module _ (g : none ≡ fault_of t) where
      pub check_lengths : (x : Refusal) → (s.length ≡ t.length → ⊥) → x ≡ refusal_at kind.Situation t.length → numbers x ≡ (merge_of s t).refusal
      check_lengths x h e = fault_lengths s t f refl g refl h (ap numbers e)

      pub check_nowhere : s.length ≡ t.length → none ≡ (merge_of s t).refusal
      check_nowhere h = fault_nowhere s t f refl g refl h refl

pub ruleset merge_laws = (check-first, check-second, check_lengths, check_nowhere)

-- a situation without a fault has at most six columns
pub faultless_short : (s : Situation) {r : Numbers} → r ≡ fault_of s → r.number ≡ 0 → s.length ≤ 6
unfolding fault_of
faultless_short s {r} f a = go (ltb 6 s.length) refl
  where
    go : (b : Bool) → ltb 6 s.length ≡ b → s.length ≤ 6
    go true e = absurd (let z : ◌≡◌ {A = ℕ} 14 0 = rw e at (sym (ap (λ (x : Numbers). x.number) f) ∙ a) in omega arith)
    go false e = ltb-false 6 s.length e
