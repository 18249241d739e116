-- What the private functions and their loops say among themselves. Nothing here has to be believed: the laws tie it to the meaning.
use Rattle.std.specs.Prelude.{ℕ, zero, suc, ◌+◌, ◌*◌, ◌/◌, ◌%◌, ◌^◌, ◌≤◌, ◌<◌, ◌≡◌, List, [], ◌∷◌, length, drop, get_or}
use Rattle.answers.specs.Meaning.{number, from_number, negate, turn, meet, join}
use Rattle.answers.specs.declared.Answer.{Answer}
use Rattle.nodes.specs.declared.Node.{Node}
use Rattle.nodes.specs.declared.Node.TheVariants.{Constant, Negate, Turn, Meet, Join, Column, Foreign}
use Rattle.nodes.specs.Meaning.{full, run}

-- the stack: the lowest digits of a number in base 4, as answers, the lowest first
unfoldable pub view : ℕ → ℕ → List Answer
view zero s = []
view (suc height) s = from_number (s % 4) ∷ view height (s / 4)

-- the number after a node that is not refused, and after so many turns behind it where it is a column
unfoldable pub acted : List ℕ → Node → ℕ → ℕ → ℕ
acted s (Constant a) times stack = stack * 4 + number a
acted s (Column k) times stack = stack * 4 + (get_or s k 0 % 4 + times % 4) % 4
acted s Negate times stack = stack / 4 * 4 + number (negate (from_number (stack % 4)))
acted s Turn times stack = stack / 4 * 4 + number (turn (from_number (stack % 4)))
acted s Meet times stack = stack / 16 * 4 + number (meet (from_number (stack / 4 % 4)) (from_number (stack % 4)))
acted s Join times stack = stack / 16 * 4 + number (join (from_number (stack / 4 % 4)) (from_number (stack % 4)))
acted s Foreign times stack = stack

-- between two nodes the number has no digit beyond the height
pub record Ready (stack height : ℕ) : Type 0 where
  pub room : height ≤ 16
  pub below : stack < 4 ^ height

-- every answer of a situation is one
pub record Small (s : List ℕ) : Type 0 where
  pub small : (k : ℕ) → k < length s → get_or s k 0 ≤ 3

-- a column is one of so many
pub record Within (node : Node) (n : ℕ) : Type 0 where
  pub within : (k : ℕ) → node ≡ Column k → k < n

-- i nodes are done: what is left to run from here is the whole run
pub record Running (nodes : List ℕ) (s : List Answer) (stack height i : ℕ) : Type 0 where
  pub inside : i ≤ length nodes
  pub ready : Ready stack height
  pub rest : run full s i (view height stack) (drop i nodes) ≡ run full s 0 [] nodes
