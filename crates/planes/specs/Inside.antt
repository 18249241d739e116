-- What the private functions and their loops say among themselves. Nothing here has to be believed: the laws tie it to the meaning.
use Rattle.std.specs.Prelude.{ℕ, zero, suc, ◌+◌, ◌-◌, ◌*◌, ◌^◌, ◌≤◌, ◌<◌, ◌≡◌, min, cond, List, [], ◌∷◌, ltb, length, drop, get_or}
use Rattle.std.specs.Int.Bits.{bit_and}
use Rattle.words.specs.Meaning.{bit}
use Rattle.refusals.specs.Meaning.{Numbers, none}
use Rattle.answers.specs.declared.Answer.{Answer}
use Rattle.situations.specs.Meaning.{situation_at}
use Rattle.nodes.specs.declared.Node.{Node}
use Rattle.nodes.specs.declared.Node.TheVariants.{Column}
use Rattle.nodes.specs.Meaning.{full, to, climb, heights, run}
use Rattle.nodes.specs.Inside.{act_turned}
use Rattle.lanes.specs.Meaning.{pair, held}
use Rattle.planes.specs.declared.Extent.{Extent}
use Rattle.planes.specs.Meaning.{answer_at}

-- a lane's stack, its top first
unfoldable pub view : ℕ → ℕ → List ℕ → ℕ → List Answer
view k x stack zero = []
view k x stack (suc height) = held stack (height * 32 + k) x ∷ view k x stack height

-- the situation of a lane, in the words from one on
abbrev pub lane_at : ℕ → ℕ → ℕ → ℕ → List Answer
lane_at columns first k x = situation_at columns ((first + k) * 64 + x)

-- a column is one of the situation's
pub record Acting (columns : ℕ) (node : Node) : Type 0 where
  pub column : (c : ℕ) → node ≡ Column c → c < columns

-- Each lane's stack after a node that leads to the place, and after so many turns behind it where it is a column: whatever
-- the height before it was.
pub record Acted (columns first : ℕ) (node : Node) (turns place : ℕ) (old new : List ℕ) : Type 0 where
  pub size : length new ≡ length old
  pub holds :
      length old ≡ 512 →
      (height : ℕ) →
      height ≤ 16 →
      climb full columns node height ≡ to (suc place) →
      (k x : ℕ) →
      k < 16 →
      x < 64 →
      view k x new (suc place) ≡ act_turned (lane_at columns first k x) node turns (view k x old height)

-- i nodes are done: in each lane, what is left to run from here is the whole run
pub record Running (nodes : List ℕ) (columns first : ℕ) (stack : List ℕ) (height i : ℕ) : Type 0 where
  pub inside : i ≤ length nodes
  pub room : height ≤ 16
  pub size : length stack ≡ 512
  pub rest :
      (k x : ℕ) →
      k < 16 →
      x < 64 →
      run full (lane_at columns first k x) i (view k x stack height) (drop i nodes) ≡ run full (lane_at columns first k x) 0 [] nodes

-- the lowest place has the answers, or the array is refused
pub record Ran (nodes : List ℕ) (columns first : ℕ) (stack : List ℕ) (r : Numbers) : Type 0 where
  pub told : r ≡ heights full columns 0 0 nodes
  pub answered : r.number ≡ 0 → (k x : ℕ) → k < 16 → x < 64 → held stack k x ≡ (run full (lane_at columns first k x) 0 [] nodes).answer

-- how many words all passes have
abbrev pub total : Extent → ℕ
total e = (e.passes - 1) * 16 + e.count

-- every pass but the last has sixteen words, and which lanes of their words are situations
pub record Within (columns : ℕ) (e : Extent) : Type 0 where
  pub some : 0 < e.passes
  pub few : e.passes ≤ 4
  pub most : e.count ≤ 16
  pub whole : 1 < e.passes → e.count ≡ 16
  pub lanes : (k x : ℕ) → k < total e → x < 64 → bit x e.lanes ≡ cond (ltb (k * 64 + x) (4 ^ columns)) 1 0
  pub small : e.lanes < 18446744073709551616
  pub beyond : 4 ^ columns ≤ total e * 64

-- so many words, without the lanes that are no situations, all else as it was
pub record Stored (words : List ℕ) (lanes count : ℕ) (old new : List ℕ) : Type 0 where
  pub size : length new ≡ length old
  pub written : (k : ℕ) → k < count → get_or new k 0 ≡ bit_and (get_or words k 0) lanes
  pub kept : (j : ℕ) → count ≤ j → get_or new j 0 ≡ get_or old j 0

-- the same from a place on
pub record StoredAt (words : List ℕ) (lanes count start : ℕ) (old new : List ℕ) : Type 0 where
  pub size : length new ≡ length old
  pub written : (k : ℕ) → k < count → get_or new (start + k) 0 ≡ bit_and (get_or words k 0) lanes
  pub kept : (j : ℕ) → (start ≤ j → start + count ≤ j) → get_or new j 0 ≡ get_or old j 0

-- so many words have the answers, and the others are 0
pub record FilledTo (nodes : List ℕ) (columns done : ℕ) (bury keep : List ℕ) : Type 0 where
  pub buries : length bury ≡ 64
  pub keeps : length keep ≡ 64
  pub answered : (k x : ℕ) → k < done → x < 64 → pair x (get_or bury k 0) (get_or keep k 0) ≡ answer_at nodes columns (k * 64 + x)
  pub low : (k : ℕ) → k < done → get_or bury k 0 < 18446744073709551616
  pub high : (k : ℕ) → k < done → get_or keep k 0 < 18446744073709551616
  pub buried : (k : ℕ) → done ≤ k → get_or bury k 0 ≡ 0
  pub kept : (k : ℕ) → done ≤ k → get_or keep k 0 ≡ 0

-- so many passes are done, and none was refused
pub record Filling (nodes : List ℕ) (columns : ℕ) (e : Extent) (passes : ℕ) (bury keep : List ℕ) : Type 0 where
  pub within : Within columns e
  pub counted : passes ≤ e.passes
  pub filled : FilledTo nodes columns (min (passes * 16) (total e)) bury keep
  pub fine : 0 < passes → heights full columns 0 0 nodes ≡ none
