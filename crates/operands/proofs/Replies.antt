-- The ways out of the check of operands, and of the entry points behind it.
use Prim.Native.Nat.{ℕ}
use mathlib.Core.Path.{◌≡◌, refl, ap, sym, ◌∙◌}
use mathlib.Core.Bool.{Bool}
use mathlib.Core.List.{List}
use Rattle.std.specs.Prelude.{Result, Ok, Err, Option, Some, None}
use Rattle.refusals.specs.Meaning.{Numbers, none, refused, numbers, checked, refusal_at, VALUE}
use Rattle.refusals.specs.declared.Kind.TheVariants.{Value}
use Rattle.refusals.specs.declared.Refusal.{Refusal}
use Rattle.refusals.proofs.Checks.{after_refusal, after_success}
use Rattle.fields.specs.Meaning.{above}
use Rattle.fields.proofs.Above.{above-found, above_none}
use Rattle.answers.specs.declared.Answer.{Answer}
use Rattle.answers.specs.Meaning.{Reply, succeed, refuse_answer, answered}
use Rattle.operands.specs.Meaning.{operand_fault, answer_after, relate, refuse_related, related, related_after}

module _ (s : List ℕ) {o : Option ℕ} (e : o ≡ above 3 s) where
  pub operand_fault-found : {k : ℕ} (r : Refusal) → o ≡ Some k → r ≡ refusal_at Value k → numbers r ≡ operand_fault s
  unfolding operand_fault
  operand_fault-found r i q = let f = above-found 3 s (sym e ∙ i) in rw (q, f.0, f.1)

  pub operand_fault-none : o ≡ None → none ≡ operand_fault s
  unfolding operand_fault
  operand_fault-none i = rw (above_none 3 s (sym e ∙ i))

pub ruleset check_laws = (operand_fault-found, operand_fault-none)

-- what the entry points do after that check
module _ {n : Numbers} (q : Result Unit Refusal) (e : checked q ≡ n) where
  pub answer_refused : (r : Result Answer Refusal) (x : Refusal) (a : Answer) → q ≡ Err x → r ≡ Err x → answered r ≡ answer_after n a
  answer_refused r x a i j = ap answered j ∙ after_refusal refuse_answer (succeed a) x (sym (ap checked i) ∙ e)

  pub answer_given : (a : Answer) → q ≡ Ok tt → succeed a ≡ answer_after n a
  answer_given a i = after_success refuse_answer (succeed a) q tt e i

  pub related_refused : (r : Result Bool Refusal) (x : Refusal) (b : Bool) → q ≡ Err x → r ≡ Err x → related r ≡ related_after n b
  related_refused r x b i j = ap related j ∙ after_refusal refuse_related (relate b) x (sym (ap checked i) ∙ e)

  pub related_given : (b : Bool) → q ≡ Ok tt → relate b ≡ related_after n b
  related_given b i = after_success refuse_related (relate b) q tt e i

pub ruleset reply_laws = (answer_refused, answer_given, related_refused, related_given)
