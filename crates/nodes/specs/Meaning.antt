-- Node arrays: what each node does to the stack's height and to its answers, and what a whole array answers at a situation.
use Rattle.std.specs.Prelude.{ℕ, suc, ◌+◌, ◌-◌, true, cond, List, [], ◌∷◌, ltb, eqb, length, drop, get_or, Result, Ok, Err}
use Rattle.refusals.specs.Meaning.{Numbers, none, refused, after, NODE, COLUMN, UNDER, DEEP, END, kind_number}
use Rattle.refusals.specs.declared.Kind.{Kind}
use Rattle.answers.specs.Meaning.{Reply, from_number, negate, turn, meet, join, succeed}
use Rattle.answers.specs.declared.Answer.{Answer}
use Rattle.answers.specs.declared.Answer.TheVariants.{Silent}
use Rattle.situations.specs.Meaning.{fault, answers_of}
use Rattle.nodes.specs.declared.Node.{Node}
use Rattle.nodes.specs.declared.Node.TheVariants.{Constant, Negate, Turn, Meet, Join, Column, Foreign}
use Rattle.nodes.specs.declared.Profile.{Profile}

-- "Nodes 0 to 3: that constant. 4 negate, 5 turn, 6 meet, 7 join. 16 to 21: column 0 to 5." Foreign is any other byte.
abbrev pub node_of : ℕ → Node
node_of b =
    cond (ltb b 4) (Constant (from_number b))
    (cond (eqb b 4) Negate
    (cond (eqb b 5) Turn
    (cond (eqb b 6) Meet
    (cond (eqb b 7) Join
    (cond (ltb b 16) Foreign
    (cond (ltb b 22) (Column (b - 16)) Foreign))))))

-- "A stack of 16", and all nodes.
abbrev pub full : Profile
full = record { places = 16; joins = true }

-- Where a node leads: the stack's height after it, or the number of a refusal, with height 0.
pub record Climbed : Type 0 where
  pub height : ℕ
  pub fault : ℕ

abbrev pub to : ℕ → Climbed
to height = record { height = height; fault = 0 }

abbrev pub stop : ℕ → Climbed
stop number = record { height = 0; fault = number }

-- The same of a result.
abbrev pub climbed : Result ℕ Kind → Climbed
climbed (Ok height) = to height
climbed (Err kind) = stop (kind_number kind)

-- "A push onto 16, DEEP."
abbrev pub climb_push : ℕ → ℕ → Climbed
climb_push places height = cond (ltb height places) (to (height + 1)) (stop DEEP)

-- "Too few operands, UNDER": an operator needs one operand more than it leaves fewer.
abbrev pub climb_down : ℕ → ℕ → Climbed
climb_down fewer height = cond (ltb fewer height) (to (height - fewer)) (stop UNDER)

-- "Other byte, NODE; column not below n, COLUMN; too few operands, UNDER; a push onto 16, DEEP": what a node does to the
-- stack's height, for n columns. No answer plays a part in it. To a profile without joins, node 7 is another byte.
unfoldable pub climb : Profile → ℕ → Node → ℕ → Climbed
climb profile n (Constant a) height = climb_push profile.places height
climb profile n (Column k) height = cond (ltb k n) (climb_push profile.places height) (stop COLUMN)
climb profile n Negate height = climb_down 0 height
climb profile n Turn height = climb_down 0 height
climb profile n Meet height = climb_down 1 height
climb profile n Join height = cond profile.joins (climb_down 1 height) (stop NODE)
climb profile n Foreign height = stop NODE

-- "Operands come before their operator": the stack after a node that is not refused, its top first.
unfoldable pub act : List Answer → Node → List Answer → List Answer
act s (Constant a) stack = a ∷ stack
act s (Column k) stack = get_or s k Silent ∷ stack
act s Negate stack = negate (get_or stack 0 Silent) ∷ drop 1 stack
act s Turn stack = turn (get_or stack 0 Silent) ∷ drop 1 stack
act s Meet stack = meet (get_or stack 1 Silent) (get_or stack 0 Silent) ∷ drop 2 stack
act s Join stack = join (get_or stack 1 Silent) (get_or stack 0 Silent) ∷ drop 2 stack
act s Foreign stack = stack

-- "Afterwards a stack not holding exactly one, END, place the array's length."
abbrev pub end_fault : ℕ → ℕ → Numbers
end_fault place height = cond (eqb height 1) none (refused END place)

-- The refusal of the nodes from a place on, by the stack's height alone.
unfoldable pub heights : Profile → ℕ → ℕ → ℕ → List ℕ → Numbers
heights profile n place height [] = end_fault place height
heights profile n place height (b ∷ nodes) =
    after (refused (climb profile n (node_of b) height).fault place) (λ r. r)
    (heights profile n (suc place) (climb profile n (node_of b) height).height nodes)

-- A check comes first: where it refuses, no answer is given.
abbrev pub reply_after : Numbers → Reply → Reply
reply_after check reply = after check (λ r. record { refusal = r; answer = Silent }) reply

-- What is left on the stack after the last node.
abbrev pub finish : ℕ → List Answer → Reply
finish place stack = reply_after (end_fault place (length stack)) (succeed (get_or stack 0 Silent))

-- "Then nodes left to right": the nodes from a place on, with the stack so far.
unfoldable pub run : Profile → List Answer → ℕ → List Answer → List ℕ → Reply
run profile s place stack [] = finish place stack
run profile s place stack (b ∷ nodes) =
    reply_after (refused (climb profile (length s) (node_of b) (length stack)).fault place)
    (run profile s (suc place) (act s (node_of b) stack) nodes)

-- "Any array is taken, not only compiled ones. First the situation .. Then nodes left to right with a stack of 16."
unfoldable pub evaluate_of : List ℕ → List ℕ → Reply
evaluate_of nodes s = reply_after (fault s) (run full (answers_of s) 0 [] nodes)

-- No rules of the document, but how the machines run: the turns (node 5) behind a column are done at once with it. The law
-- run_past says that a run may do so. How many turns an array begins with:
unfoldable pub turns : List ℕ → ℕ
turns [] = 0
turns (b ∷ nodes) = cond (eqb b 5) (suc (turns nodes)) 0

-- .. and where a run goes on after the node before `from`.
unfoldable pub past : Node → List ℕ → ℕ → ℕ
past (Constant a) nodes from = from
past (Column k) nodes from = from + turns (drop from nodes)
past Negate nodes from = from
past Turn nodes from = from
past Meet nodes from = from
past Join nodes from = from
past Foreign nodes from = from
