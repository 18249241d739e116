-- The numbers of the checks in evaluating an array, node by node.
use Prim.Native.Nat.{ℕ, suc, ◌+◌, ◌-◌, ◌≤◌, ◌<◌}
use mathlib.Core.Path.{◌≡◌, refl, ◌∙◌}
use mathlib.Core.Logic.{◌⊎◌, inl, inr}
use mathlib.Core.Bool.{Bool, true, false}
use mathlib.Core.List.{List, [], ◌∷◌}
use lib.Dec.{T, ltb, eqb}
use lib.ListN.{length, take, get_or}
use borrow.Author.Tests.{ltb-true, ltb-false}
use native.Mathlib.Omega.{arith}
use Rattle.refusals.specs.Meaning.{Numbers, none, refused, after, NODE, COLUMN, UNDER, DEEP, END, SITUATION, VALUE}
use Rattle.fields.specs.Meaning.{first_above}
use Rattle.answers.specs.Meaning.{Reply, succeed}
use Rattle.answers.specs.declared.Answer.{Answer}
use Rattle.answers.specs.declared.Answer.TheVariants.{Silent}
use Rattle.situations.specs.declared.Situation.{Situation}
use Rattle.situations.specs.Meaning.{outside, answers_of, fault, fault_of}
use Rattle.situations.proofs.Silent.{silent, silent_sound, silent_short, silent_long}
use Rattle.nodes.specs.declared.Node.{Node}
use Rattle.nodes.specs.declared.Node.TheVariants.{Constant, Negate, Turn, Meet, Join, Column, Foreign}
use Rattle.nodes.specs.declared.Profile.{Profile}
use Rattle.nodes.specs.Meaning.{Climbed, node_of, full, to, stop, climb_push, climb_down, climb, act, end_fault, heights, run, evaluate_of}
use Rattle.running.proofs.Heights.{evaluate-heights}
use Rattle.growth.specs.Meaning.{growth_of}
use Rattle.growing.proofs.Verdicts.{growth_silent}
use Rattle.operands.specs.Meaning.{operand_fault}
use Rattle.replying.proofs.ReplyLaws.{either, Published, numbers-none, numbers-cond, numbers-refused, replied_success, replied_after, replied_fault}
use Rattle.replying.specs.Meaning.{document01, Replied, refuse_reply}

-- a situation's check
pub fault-numbers : (s : List ℕ) → Published (fault s)
unfolding fault
fault-numbers s =
    numbers-cond (outside (length s)) SITUATION (length s) tt
    (numbers-cond (ltb (first_above 3 s) (length s)) SITUATION (first_above 3 s) tt numbers-none)

pub fault_of-numbers : (s : Situation) → Published (fault_of s)
unfolding fault_of
fault_of-numbers s = numbers-cond (ltb 6 s.length) SITUATION s.length tt (fault-numbers (take s.length s.answers))

-- the operands' check
pub operand-numbers : (operands : List ℕ) → Published (operand_fault operands)
unfolding operand_fault
operand-numbers operands =
    numbers-cond (ltb (first_above 3 operands) (length operands)) VALUE (first_above 3 operands) tt numbers-none

-- a node is refused by one of four numbers or not at all
module _ (P : ℕ → Type 0) (clear : P 0) (node : P NODE) (column : P COLUMN) (under : P UNDER) (deep : P DEEP) where
  abbrev Clear : Climbed → Type 0
  Clear c = P c.fault

  push_each : (places height : ℕ) → Clear (climb_push places height)
  push_each places height = either Clear (ltb height places) (to (height + 1)) (stop DEEP) clear deep

  down_each : (fewer height : ℕ) → Clear (climb_down fewer height)
  down_each fewer height = either Clear (ltb fewer height) (to (height - fewer)) (stop UNDER) clear under

  pub climb-each : (profile : Profile) (n : ℕ) (b : Node) (height : ℕ) → P (climb profile n b height).fault
  unfolding climb
  climb-each profile n (Constant a) height = push_each profile.places height
  climb-each profile n (Column k) height =
      either Clear (ltb k n) (climb_push profile.places height) (stop COLUMN) (push_each profile.places height) column
  climb-each profile n Negate height = down_each 0 height
  climb-each profile n Turn height = down_each 0 height
  climb-each profile n Meet height = down_each 1 height
  climb-each profile n Join height = either Clear profile.joins (climb_down 1 height) (stop NODE) (down_each 1 height) node
  climb-each profile n Foreign height = node

  -- so are the nodes of an array, or by END
  module _ (end : P END) where
    abbrev Told : Numbers → Type 0
    Told r = P r.number

    pub heights-each : (profile : Profile) (n place height : ℕ) (nodes : List ℕ) → P (heights profile n place height nodes).number
    unfolding heights
    heights-each profile n place height [] = either Told (eqb height 1) none (refused END place) clear end
    heights-each profile n place height (b ∷ nodes) =
        let c = climb profile n (node_of b) height in
        either Told (eqb c.fault 0) (heights profile n (suc place) c.height nodes) (refused c.fault place)
        (heights-each profile n (suc place) c.height nodes)
        (climb-each profile n (node_of b) height)

    -- and an evaluation, or by SITUATION
    pub evaluate-each : P SITUATION → (nodes s : List ℕ) → P (evaluate_of nodes s).refusal.number
    unfolding fault
    evaluate-each situation nodes s =
        rw (evaluate-heights nodes s)
        (either Told (eqb (fault s).number 0) (heights full (length s) 0 0 nodes) (fault s) (heights-each full (length s) 0 0 nodes)
        (either Told (outside (length s)) (refused SITUATION (length s)) _ situation
        (either Told (ltb (first_above 3 s) (length s)) (refused SITUATION (first_above 3 s)) none situation clear)))

abbrev Named : ℕ → Type 0
Named k = (k ≡ 0 → ⊥) → T (document01 k)

climb_named : (profile : Profile) (n : ℕ) (b : Node) (height : ℕ) → Named (climb profile n b height).fault
climb_named = climb-each Named (λ e. absurd (e refl)) (λ e. tt) (λ e. tt) (λ e. tt) (λ e. tt)

-- a reply with an answer
abbrev pub Answers : Reply → Type 0
Answers x = Replied (λ (x : Reply). x.refusal) refuse_reply x

pub answers-succeed : (a : Answer) → Answers (succeed a)
answers-succeed a = replied_success (λ (x : Reply). x.refusal) refuse_reply (succeed a) refl

pub answers-after : (check : Numbers) (x : Reply) → Published check → Answers x → Answers (after check refuse_reply x)
answers-after = replied_after (λ (x : Reply). x.refusal) refuse_reply (λ r. refl)

run-answers :
    (profile : Profile) (s : List Answer) (place : ℕ) (stack : List Answer) (nodes : List ℕ) →
    Answers (run profile s place stack nodes)
unfolding run
run-answers profile s place stack [] =
    answers-after (end_fault place (length stack)) (succeed (get_or stack 0 Silent))
    (either Published (eqb (length stack) 1) none (refused END place) numbers-none (numbers-refused END place tt))
    (answers-succeed (get_or stack 0 Silent))
run-answers profile s place stack (b ∷ nodes) =
    replied_fault (λ (x : Reply). x.refusal) refuse_reply (λ r. refl) (climb profile (length s) (node_of b) (length stack)).fault place
    (run profile s (suc place) (act s (node_of b) stack) nodes)
    (climb_named profile (length s) (node_of b) (length stack))
    (run-answers profile s (suc place) (act s (node_of b) stack) nodes)

pub evaluate_of-answers : (nodes s : List ℕ) → Answers (evaluate_of nodes s)
unfolding evaluate_of
evaluate_of-answers nodes s =
    answers-after (fault s) (run full (answers_of s) 0 [] nodes) (fault-numbers s) (run-answers full (answers_of s) 0 [] nodes)

-- nodes are refused by no number above END
heights-low : (profile : Profile) (n place height : ℕ) (nodes : List ℕ) → (heights profile n place height nodes).number ≤ 13
heights-low =
    heights-each (λ (k : ℕ). k ≤ 13) (omega arith) (omega arith) (omega arith) (omega arith) (omega arith) (omega arith)

-- nor is an evaluation by a number below NODE
pub evaluate-high :
    (nodes s : List ℕ) → ((evaluate_of nodes s).refusal.number ≡ 0 → ⊥) → NODE ≤ (evaluate_of nodes s).refusal.number
evaluate-high =
    evaluate-each (λ (k : ℕ). (k ≡ 0 → ⊥) → NODE ≤ k) (λ e. absurd (e refl)) (λ e. omega arith) (λ e. omega arith) (λ e. omega arith)
    (λ e. omega arith) (λ e. omega arith) (λ e. omega arith)

-- so the growth check's SITUATION is that of its number of columns
module _ (nodes : List ℕ) (n : ℕ) where
  growth_by : (growth_of nodes n).refusal ≡ after (fault (silent n)) (λ r. r) (heights full (length (silent n)) 0 0 nodes)
  growth_by = growth_silent nodes n ∙ evaluate-heights nodes (silent n)

  growth-inside : 1 ≤ n → n ≤ 6 → (growth_of nodes n).refusal.number ≤ 13
  growth-inside k l = rw (growth_by, silent_sound n k l) (heights-low full (length (silent n)) 0 0 nodes)

  pub growth-outside : (n < 1) ⊎ (6 < n) → (growth_of nodes n).refusal ≡ refused SITUATION n
  growth-outside (inl l) = growth_by ∙ (rw (silent_short n l))
  growth-outside (inr l) = growth_by ∙ (rw (silent_long n l))

  pub columns-outside : (growth_of nodes n).refusal.number ≡ SITUATION → (n < 1) ⊎ (6 < n)
  columns-outside h = go (ltb n 1) refl (ltb 6 n) refl
    where
      go : (b : Bool) → ltb n 1 ≡ b → (c : Bool) → ltb 6 n ≡ c → (n < 1) ⊎ (6 < n)
      go true e c f = inl (ltb-true n 1 e)
      go false e true f = inr (ltb-true 6 n f)
      go false e false f = absurd (let low = growth-inside (ltb-false n 1 e) (ltb-false 6 n f) in omega (arith, h, low))
