-- A run whose refusal has no number succeeds (run-fine, evaluate-fine).
use Prim.Native.Nat.{ℕ, suc}
use mathlib.Core.Path.{◌≡◌, refl}
use mathlib.Core.Bool.{Bool, true, false, cond}
use mathlib.Core.List.{List, [], ◌∷◌}
use lib.Dec.{eqb}
use lib.ListN.{length, get_or}
use borrow.Author.Tests.{eqb-false}
use Rattle.refusals.specs.Meaning.{Numbers, refused}
use Rattle.answers.specs.Meaning.{Reply, succeed}
use Rattle.answers.specs.declared.Answer.{Answer}
use Rattle.answers.specs.declared.Answer.TheVariants.{Silent}
use Rattle.situations.specs.Meaning.{fault, answers_of}
use Rattle.nodes.specs.declared.Profile.{Profile}
use Rattle.nodes.specs.Meaning.{node_of, full, climb, act, end_fault, reply_after, run, evaluate_of}

abbrev Fine : Reply → Type 0
Fine r = r.refusal.number ≡ 0 → r ≡ succeed r.answer

after-fine : (check : Numbers) (reply : Reply) → Fine reply → Fine (reply_after check reply)
after-fine check reply h = go (eqb check.number 0) refl
  where
    go : (t : Bool) → eqb check.number 0 ≡ t → Fine (cond t reply (record { refusal = check; answer = Silent }))
    go true e = h
    go false e = λ z. absurd (eqb-false check.number 0 e z)

pub run-fine :
    (profile : Profile) (s : List Answer) (place : ℕ) (stack : List Answer) (nodes : List ℕ) →
    (run profile s place stack nodes).refusal.number ≡ 0 →
    run profile s place stack nodes ≡ succeed (run profile s place stack nodes).answer
unfolding run
run-fine profile s place stack [] = after-fine (end_fault place (length stack)) (succeed (get_or stack 0 Silent)) (λ z. refl)
run-fine profile s place stack (b ∷ nodes) =
    after-fine (refused (climb profile (length s) (node_of b) (length stack)).fault place)
    (run profile s (suc place) (act s (node_of b) stack) nodes)
    (run-fine profile s (suc place) (act s (node_of b) stack) nodes)

pub evaluate-fine : (nodes s : List ℕ) → (evaluate_of nodes s).refusal.number ≡ 0 → evaluate_of nodes s ≡ succeed (evaluate_of nodes s).answer
unfolding evaluate_of
evaluate-fine nodes s = after-fine (fault s) (run full (answers_of s) 0 [] nodes) (run-fine full (answers_of s) 0 [] nodes)
