-- The growth check: what it replies. What a failing step is, and which is the first, is said in steps.
use Rattle.std.specs.Prelude.{ℕ, ◌^◌, cond, List, [], ltb, replicate, Result}
use Rattle.refusals.specs.Meaning.{Numbers, none, after, replied}
use Rattle.refusals.specs.declared.Refusal.{Refusal}
use Rattle.answers.specs.Meaning.{number}
use Rattle.answers.specs.declared.Answer.{Answer}
use Rattle.situations.specs.declared.Situation.{Situation}
use Rattle.situations.specs.Meaning.{situation_at, by_value}
use Rattle.nodes.specs.Meaning.{full, run, evaluate_of}
use Rattle.steps.specs.Meaning.{first_answer, first_column, first_situation}
use Rattle.growth.specs.declared.Told.{Told}
use Rattle.growth.specs.declared.Verdict.{Verdict}
use Rattle.growth.specs.declared.Verdict.TheVariants.{Yes, No}

-- What an array answers at a situation of 1 to 6 columns.
abbrev pub answer_at : List ℕ → List Answer → Answer
answer_at nodes s = (run full s 0 [] nodes).answer

-- What the check replies: a verdict, 1 for yes and 2 for no, and the step that a no shows.
pub record Growth : Type 0 where
  pub refusal : Numbers
  pub verdict : ℕ
  pub situation : Situation
  pub column : ℕ
  pub answer : ℕ

-- "Any other result number 0, neither yes nor no from the growth check."
abbrev pub without : Numbers → ℕ → Growth
without refusal verdict =
    record { refusal = refusal; verdict = verdict; situation = by_value []; column = 0; answer = 0 }

-- "A no shows the first failing step", here from the situation s.
abbrev pub shown : (List Answer → Answer) → List Answer → Growth
shown f s =
    record {
      refusal = none;
      verdict = 2;
      situation = by_value s;
      column = first_column f s;
      answer = first_answer f s (first_column f s);
    }

-- What is told of a verdict, behind the three numbers.
abbrev pub told : Numbers → Told → Growth
told refusal t =
    record { refusal = refusal; verdict = t.verdict; situation = t.situation; column = t.column; answer = t.answer }

-- The same of a result.
abbrev pub verdict_told : Verdict → Growth
verdict_told Yes = without none 1
verdict_told (No fall) =
    record {
      refusal = none;
      verdict = 2;
      situation = fall.situation;
      column = fall.column;
      answer = number fall.answer;
    }

abbrev pub growth_told : Result Verdict Refusal → Growth
growth_told = replied verdict_told (λ r. without r 0)

-- "Takes nodes and n. n outside 1 to 6 is SITUATION, place n; then the evaluator's refusals." They are those at the
-- situation of n columns that is silent everywhere.
unfoldable pub growth_of : List ℕ → ℕ → Growth
growth_of nodes n =
    after (evaluate_of nodes (replicate n 0)).refusal (λ r. without r 0)
    (cond (ltb (first_situation (answer_at nodes) n) (4 ^ n))
    (shown (answer_at nodes) (situation_at n (first_situation (answer_at nodes) n)))
    (without none 1))
