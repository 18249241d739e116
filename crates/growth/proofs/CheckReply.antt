-- What the first failing step makes of the check, and the ways out of it.
use Prim.Native.Nat.{ℕ, ◌^◌, ◌<◌}
use mathlib.Core.Path.{◌≡◌, refl, ap, sym, ◌∙◌}
use mathlib.Core.Bool.{Bool, true, false, cond}
use mathlib.Core.List.{List}
use lib.Dec.{ltb}
use lib.ListN.{length, replicate}
use borrow.Author.Tests.{lt-ltb, le-ltb, eq-eqb}
use native.Mathlib.Omega.{arith}
use Rattle.std.specs.Prelude.{Result, Ok, Err, Some, None}
use Rattle.refusals.specs.Meaning.{none, numbers}
use Rattle.refusals.specs.declared.Refusal.{Refusal}
use Rattle.refusals.proofs.Checks.{refusal_counts, kind_refuses}
use Rattle.answers.specs.declared.Answer.{Answer}
use Rattle.situations.specs.declared.Situation.{Situation}
use Rattle.situations.specs.Meaning.{weight, index, situation_at, by_value}
use Rattle.situations.proofs.Numbers.{situation_at-index, index-small}
use Rattle.situations.proofs.Weights.{weight_power}
use Rattle.nodes.specs.Meaning.{evaluate_of}
use Rattle.running.proofs.Heights.{evaluate-columns}
use Rattle.planes.specs.declared.Planes.{Planes}
use Rattle.planes.specs.Meaning.{Filled, refuse_filled, filled, planes_of}
use Rattle.planes.proofs.Lanes.{planes_refused, planes_fine, planes_lane}
use Rattle.steps.specs.declared.Raise.{Raise}
use Rattle.steps.specs.Meaning.{Step, in_words, first_situation, step_at, first_step, step_told}
use Rattle.growth.specs.declared.Verdict.{Verdict}
use Rattle.growth.specs.declared.Verdict.TheVariants.{Yes, No}
use Rattle.growth.specs.Meaning.{answer_at, without, shown, verdict_told, growth_told, growth_of}
use Rattle.growth.specs.Inside.{shown_of, reply_of}
use Rattle.growth.proofs.SameAnswers.{first_step-same}

module _ (f : List Answer → Answer) (n : ℕ) where
  replied :
      (v : ℕ) →
      v ≡ weight n →
      reply_of n (first_step f n) ≡ cond (ltb (first_situation f n) v) (shown f (situation_at n (first_situation f n))) (without none 1)
  unfolding reply_of first_step
  replied v e = rw (← e) (go (ltb (first_situation f n) v) refl)
    where
      step : Bool → Step
      step t = cond t (step_at f n (first_situation f n)) (record { number = v; column = 0; answer = 0 })

      go :
          (t : Bool) →
          ltb (first_situation f n) v ≡ t →
          cond (ltb (step t).number v) (shown_of n (step t)) (without none 1)
          ≡ cond t (shown f (situation_at n (first_situation f n))) (without none 1)
      go true q = rw q
      go false q = rw (le-ltb v v (omega arith))

-- an array that evaluates is judged by its first failing step
pub growth-steps :
    (nodes : List ℕ) (n : ℕ) →
    (evaluate_of nodes (replicate n 0)).refusal.number ≡ 0 →
    growth_of nodes n ≡ reply_of n (first_step (answer_at nodes) n)
unfolding growth_of
growth-steps nodes n fine =
    rw (eq-eqb (evaluate_of nodes (replicate n 0)).refusal.number 0 fine)
    (sym (replied (answer_at nodes) n (4 ^ n) (sym (weight_power n (evaluate-columns nodes n fine).1))))

-- the words' answers are the array's
module _ (nodes : List ℕ) (n : ℕ) {p : Filled} (e : p ≡ planes_of nodes n) (h : p.refusal.number ≡ 0) where
  fine : (evaluate_of nodes (replicate n 0)).refusal.number ≡ 0
  fine = planes_fine nodes n e h

  pub words_answer : (s : List Answer) → length s ≡ n → in_words p.bury p.keep s ≡ answer_at nodes s
  unfolding in_words
  words_answer s l =
      let i : index s < 4 ^ n = rw l at (index-small s) in
      let z : situation_at n (index s) ≡ s = rw l at (situation_at-index s) in
      planes_lane nodes n e fine (index s) i ∙ ap (λ t. answer_at nodes t) z

  check_reply : {s : Step} → s ≡ first_step (in_words p.bury p.keep) n → reply_of n s ≡ growth_of nodes n
  check_reply g =
      ap (reply_of n) (g ∙ first_step-same (in_words p.bury p.keep) (answer_at nodes) n words_answer)
      ∙ sym (growth-steps nodes n fine)

-- the ways out of the check
pub check_refused :
    (nodes : List ℕ) (n : ℕ) (r : Result Verdict Refusal) (x : Refusal) →
    refuse_filled (numbers x) ≡ planes_of nodes n →
    r ≡ Err x →
    growth_told r ≡ growth_of nodes n
unfolding growth_of
check_refused nodes n r x e j =
    let z : numbers x ≡ (evaluate_of nodes (replicate n 0)).refusal = planes_refused nodes n e (refusal_counts x) in
    rw (j, ← z, kind_refuses x.kind)

module _ (nodes : List ℕ) (n : ℕ) {p : Planes} (e : filled (Ok p) ≡ planes_of nodes n) where
  pub check_no :
      (x : Raise) {s : Situation} →
      s ≡ by_value (situation_at n x.number) →
      x.number < weight n →
      step_told n (weight n) (Some x) ≡ first_step (in_words p.bury p.keep) n →
      verdict_told (No (record { situation = s; column = x.column; answer = x.answer })) ≡ growth_of nodes n
  unfolding reply_of
  check_no x s l g = rw s (rw (lt-ltb x.number (weight n) l) at (check_reply nodes n e refl g))

  pub check_yes : step_told n (weight n) None ≡ first_step (in_words p.bury p.keep) n → verdict_told Yes ≡ growth_of nodes n
  unfolding reply_of
  check_yes g =
      let q : ltb (weight n) (weight n) ≡ false = le-ltb (weight n) (weight n) (omega arith) in
      rw q at (check_reply nodes n e refl (rw q at g))
