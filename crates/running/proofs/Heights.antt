-- What is refused, and where, follows from the stack's height alone (run-heights, evaluate-heights): so it does not depend on
-- the situation's answers, only on its length (evaluate-alike).
use Prim.Native.Nat.{ℕ, suc, ◌≤◌}
use mathlib.Core.Path.{◌≡◌, refl, sym, ◌∙◌}
use mathlib.Core.Bool.{Bool, true, false, cond}
use mathlib.Core.List.{List, [], ◌∷◌}
use lib.Dec.{eqb}
use lib.ListN.{length, get_or, replicate, length-drop, length-map}
use borrow.Author.Tests.{lt-ltb, eq-eqb, eqb-true}
use native.Mathlib.Omega.{arith}
use Rattle.refusals.specs.Meaning.{none, refused, after, END}
use Rattle.answers.specs.Meaning.{from_number, succeed}
use Rattle.answers.specs.declared.Answer.{Answer}
use Rattle.answers.specs.declared.Answer.TheVariants.{Silent}
use Rattle.situations.specs.Meaning.{fault, answers_of}
use Rattle.situations.proofs.Silent.{silent_columns}
use Rattle.nodes.specs.declared.Node.{Node}
use Rattle.nodes.specs.declared.Node.TheVariants.{Constant, Negate, Turn, Meet, Join, Column, Foreign}
use Rattle.nodes.specs.declared.Profile.{Profile}
use Rattle.nodes.specs.Meaning.{node_of, full, climb, act, heights, reply_after, run, evaluate_of}
use Rattle.nodes.proofs.Climbing.{push_clear, down_clear, column-clear, join-clear}

-- a node that is not refused leaves as many answers as its climb says
module _ (profile : Profile) (s : List Answer) where
  pub act_height :
      (node : Node) (stack : List Answer) →
      (climb profile (length s) node (length stack)).fault ≡ 0 →
      length (act s node stack) ≡ (climb profile (length s) node (length stack)).height
  unfolding climb act
  act_height (Constant a) stack e =
      rw (lt-ltb (length stack) profile.places (push_clear profile.places (length stack) e)) (omega arith)
  act_height (Column k) stack e =
      let l = column-clear profile (length s) (length stack) k e in
      rw (lt-ltb k (length s) l.0, lt-ltb (length stack) profile.places l.1) (omega arith)
  act_height Negate stack e =
      let l = down_clear 0 (length stack) e in rw (lt-ltb 0 (length stack) l) (omega (arith, l, length-drop 1 stack))
  act_height Turn stack e =
      let l = down_clear 0 (length stack) e in rw (lt-ltb 0 (length stack) l) (omega (arith, l, length-drop 1 stack))
  act_height Meet stack e =
      let l = down_clear 1 (length stack) e in rw (lt-ltb 1 (length stack) l) (omega (arith, l, length-drop 2 stack))
  act_height Join stack e =
      let j = join-clear profile (length s) (length stack) e in
      let l = j.1 in
      rw (j.0, lt-ltb 1 (length stack) l) (omega (arith, l, length-drop 2 stack))
  act_height Foreign stack e = absurd (omega (arith, e))

  -- "Whether a run is refused, with which number and place", is a matter of heights
  pub run-heights :
      (place : ℕ) (stack : List Answer) (nodes : List ℕ) →
      (run profile s place stack nodes).refusal ≡ heights profile (length s) place (length stack) nodes
  unfolding run heights
  run-heights place stack [] = go (eqb (length stack) 1)
    where
      go :
          (t : Bool) →
          (reply_after (cond t none (refused END place)) (succeed (get_or stack 0 Silent))).refusal ≡ cond t none (refused END place)
      go true = refl
      go false = refl
  run-heights place stack (b ∷ nodes) = go (eqb f 0) refl (run-heights (suc place) (act s (node_of b) stack) nodes)
    where
      f : ℕ
      f = (climb profile (length s) (node_of b) (length stack)).fault

      go :
          (t : Bool) →
          eqb f 0 ≡ t →
          (run profile s (suc place) (act s (node_of b) stack) nodes).refusal
          ≡ heights profile (length s) (suc place) (length (act s (node_of b) stack)) nodes →
          (cond t (run profile s (suc place) (act s (node_of b) stack) nodes) (record { refusal = refused f place; answer = Silent })).refusal
          ≡ cond t (heights profile (length s) (suc place) (climb profile (length s) (node_of b) (length stack)).height nodes) (refused f place)
      go true e h = rw (← act_height (node_of b) stack (eqb-true f 0 e)) h
      go false e h = refl

-- the same of whole evaluations
pub evaluate-heights : (nodes s : List ℕ) → (evaluate_of nodes s).refusal ≡ after (fault s) (λ r. r) (heights full (length s) 0 0 nodes)
unfolding evaluate_of
evaluate-heights nodes s = go (eqb (fault s).number 0)
  where
    go :
        (t : Bool) →
        (cond t (run full (answers_of s) 0 [] nodes) (record { refusal = fault s; answer = Silent })).refusal
        ≡ cond t (heights full (length s) 0 0 nodes) (fault s)
    go true = rw (← length-map s from_number) (run-heights full (answers_of s) 0 [] nodes)
    go false = refl

-- "does not depend on the situation's answers, only on its length": at situations that pass the check
pub evaluate-alike :
    (nodes s t : List ℕ) →
    (fault s).number ≡ 0 →
    (fault t).number ≡ 0 →
    length s ≡ length t →
    (evaluate_of nodes s).refusal ≡ (evaluate_of nodes t).refusal
evaluate-alike nodes s t a b e =
    evaluate-heights nodes s ∙ (rw (eq-eqb (fault s).number 0 a, eq-eqb (fault t).number 0 b, e)) ∙ sym (evaluate-heights nodes t)

-- an array that is not refused at the situation that is silent everywhere has 1 to 6 columns
pub evaluate-columns : (nodes : List ℕ) (n : ℕ) → (evaluate_of nodes (replicate n 0)).refusal.number ≡ 0 → (1 ≤ n) × (n ≤ 6)
evaluate-columns nodes n h = silent_columns n (go (eqb (fault (replicate n 0)).number 0) refl)
  where
    go : (t : Bool) → eqb (fault (replicate n 0)).number 0 ≡ t → (fault (replicate n 0)).number ≡ 0
    go true q = eqb-true (fault (replicate n 0)).number 0 q
    go false q = rw (evaluate-heights nodes (replicate n 0), q) at h
