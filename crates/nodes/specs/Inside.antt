-- What the machines, the private functions and their loops say among themselves. Nothing here has to be believed: the laws
-- tie it to the meaning.
use Rattle.std.specs.Prelude.{ℕ, zero, suc, ◌+◌, ◌-◌, ◌≤◌, ◌<◌, ◌≡◌, List, ◌∷◌, drop, get_or}
use Rattle.answers.specs.Meaning.{turn}
use Rattle.answers.specs.declared.Answer.{Answer}
use Rattle.answers.specs.declared.Answer.TheVariants.{Silent}
use Rattle.nodes.specs.declared.Node.{Node}
use Rattle.nodes.specs.declared.Node.TheVariants.{Constant, Negate, Turn, Meet, Join, Column, Foreign}
use Rattle.nodes.specs.Meaning.{act, turns}

-- an answer turned so many times
unfoldable pub turned_by : ℕ → Answer → Answer
turned_by zero p = p
turned_by (suc n) p = turned_by n (turn p)

-- the stack after a node and so many turns behind it, which are done where it is a column
unfoldable pub act_turned : List Answer → Node → ℕ → List Answer → List Answer
act_turned s (Constant a) times stack = act s (Constant a) stack
act_turned s (Column k) times stack = turned_by times (get_or s k Silent) ∷ stack
act_turned s Negate times stack = act s Negate stack
act_turned s Turn times stack = act s Turn stack
act_turned s Meet times stack = act s Meet stack
act_turned s Join times stack = act s Join stack
act_turned s Foreign times stack = act s Foreign stack

-- the turns that stand from one place on end where those from another one end
pub record Passed (nodes : List ℕ) (start i : ℕ) : Type 0 where
  pub same : start + turns (drop start nodes) ≡ i + turns (drop i nodes)

-- how many operands a node takes from the stack; it leaves one answer (another byte is refused before)
unfoldable pub taken : Node → ℕ
taken (Constant a) = 0
taken (Column k) = 0
taken Negate = 1
taken Turn = 1
taken Meet = 2
taken Join = 2
taken Foreign = 1

-- a node finds its operands, and the height behind it is a word
pub record Fits (node : Node) (height : ℕ) : Type 0 where
  pub enough : taken node ≤ height
  pub word : height + 1 - taken node < 18446744073709551616
