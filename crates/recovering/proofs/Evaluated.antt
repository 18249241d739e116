-- What an array answers at answers is what evaluating it replies at their bytes.
use Prim.Native.Nat.{ℕ, ◌≤◌}
use mathlib.Core.Path.{◌≡◌, ap, sym, ◌∙◌}
use mathlib.Core.List.{List, map}
use lib.ListN.{length, replicate}
use borrow.Author.Tests.{eq-eqb}
use Rattle.refusals.specs.Meaning.{Numbers}
use Rattle.answers.specs.Meaning.{number, succeed}
use Rattle.answers.specs.declared.Answer.{Answer}
use Rattle.situations.specs.Meaning.{fault, answers_of}
use Rattle.situations.proofs.Numbers.{answers_of-number}
use Rattle.nodes.specs.Meaning.{evaluate_of}
use Rattle.running.proofs.Success.{evaluate-fine}
use Rattle.growth.specs.Meaning.{answer_at}
use Rattle.growing.proofs.Verdicts.{growth_silent, growth-refusal}
use Rattle.replying.proofs.MergeLaws.{numbers-pass}

pub evaluate-answers : (nodes s : List ℕ) → (fault s).number ≡ 0 → (evaluate_of nodes s).answer ≡ answer_at nodes (answers_of s)
unfolding evaluate_of
evaluate-answers nodes s h = rw (eq-eqb (fault s).number 0 h)

pub answers-evaluate :
    (nodes : List ℕ) (s : List Answer) → 1 ≤ length s → length s ≤ 6 → answer_at nodes s ≡ (evaluate_of nodes (map number s)).answer
answers-evaluate nodes s some few =
    ap (answer_at nodes) (sym (answers_of-number s))
    ∙ sym (evaluate-answers nodes (map number s) (ap (λ (r : Numbers). r.number) (numbers-pass s some few)))

-- it is refused at every situation as it is at silent everywhere
pub refused_anywhere :
    (nodes s : List ℕ) → (fault s).number ≡ 0 → (evaluate_of nodes s).refusal ≡ (evaluate_of nodes (replicate (length s) 0)).refusal
refused_anywhere nodes s h = sym (growth-refusal nodes s h) ∙ growth_silent nodes (length s)

pub evaluate_anywhere :
    (nodes s : List ℕ) →
    (fault s).number ≡ 0 →
    (evaluate_of nodes (replicate (length s) 0)).refusal.number ≡ 0 →
    evaluate_of nodes s ≡ succeed (answer_at nodes (answers_of s))
evaluate_anywhere nodes s h fine =
    evaluate-fine nodes s (ap (λ (r : Numbers). r.number) (refused_anywhere nodes s h) ∙ fine) ∙ ap succeed (evaluate-answers nodes s h)
