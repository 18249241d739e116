-- The answers of a node array at all situations of n columns, 64 to a word.
use Rattle.std.specs.Prelude.{ℕ, ◌+◌, ◌*◌, ◌/◌, ◌%◌, ◌^◌, cond, List, [], ltb, get_or, replicate, Result}
use Rattle.words.specs.Meaning.{bit, words_from}
use Rattle.refusals.specs.Meaning.{Numbers, none, after, replied}
use Rattle.refusals.specs.declared.Refusal.{Refusal}
use Rattle.answers.specs.Meaning.{number, from_number}
use Rattle.answers.specs.declared.Answer.{Answer}
use Rattle.answers.specs.declared.Answer.TheVariants.{Silent}
use Rattle.situations.specs.Meaning.{situation_at}
use Rattle.nodes.specs.Meaning.{full, run, evaluate_of}
use Rattle.planes.specs.declared.Planes.{Planes}

-- The answer at the situation with a number: 64 situations have a bit each in a word. Bury is the lower bit of the answer's
-- number, keep the higher.
abbrev pub lane : List ℕ → List ℕ → ℕ → Answer
lane bury keep w = from_number (bit (w % 64) (get_or bury (w / 64) 0) + 2 * bit (w % 64) (get_or keep (w / 64) 0))

-- What the nodes answer at the situation with a number; no situation of n columns has a number from 4^n on.
abbrev pub answer_at : List ℕ → ℕ → ℕ → Answer
answer_at nodes n w = cond (ltb w (4 ^ n)) (run full (situation_at n w) 0 [] nodes).answer Silent

abbrev pub bury_at : List ℕ → ℕ → ℕ → ℕ
bury_at nodes n w = bit 0 (number (answer_at nodes n w))

abbrev pub keep_at : List ℕ → ℕ → ℕ → ℕ
keep_at nodes n w = bit 1 (number (answer_at nodes n w))

-- What is replied: the answers in words, or a refusal. The words of a refusal are 0.
pub record Filled : Type 0 where
  pub refusal : Numbers
  pub bury : List ℕ
  pub keep : List ℕ

abbrev pub refuse_filled : Numbers → Filled
refuse_filled r = record { refusal = r; bury = replicate 64 0; keep = replicate 64 0 }

-- The same of a result.
abbrev pub filled : Result Planes Refusal → Filled
filled = replied (λ (p : Planes). record { refusal = none; bury = p.bury; keep = p.keep }) refuse_filled

-- The answers at all situations, in words. No refusal depends on the situation's answers: the array is refused as at the
-- situation that is silent everywhere, and the words of a refusal are 0.
unfoldable pub planes_of : List ℕ → ℕ → Filled
planes_of nodes n =
    after (evaluate_of nodes (replicate n 0)).refusal refuse_filled
    (record { refusal = none; bury = words_from (bury_at nodes n) 64 0; keep = words_from (keep_at nodes n) 64 0 })
