-- A selector picks: where its column is its cell it gives the row's outcome, elsewhere silent. A row of them gives its
-- outcome where every cell matches. For every height of the stack that leaves room.
use Prim.Native.Nat.{ℕ, zero, suc, ◌+◌, ◌-◌, ◌%◌, ◌≤◌, ◌<◌}
use mathlib.Core.Path.{◌≡◌, refl}
use mathlib.Core.Bool.{Bool, true, false, cond, ◌&&◌, and-true, and_assoc}
use mathlib.Core.List.{List, [], ◌∷◌}
use lib.Dec.{eqb}
use lib.ListN.{length, drop, get_or, replicate}
use lib.Seq.{drop-cons}
use native.Mathlib.Omega.{arith}
use Rattle.answers.specs.Meaning.{number, negate, meet}
use Rattle.answers.specs.declared.Answer.{Answer}
use Rattle.answers.specs.declared.Answer.TheVariants.{Silent, Bury, Keep, Clash}
use Rattle.answers.proofs.Every.{each, all2}
use Rattle.rows.specs.Meaning.{Cell, is, any, cell_matches, matches}
use Rattle.running.proofs.Leads.{Leads, all_nodes, still, leads_append, leads_constant, leads_column, leads_negate, leads_turn, leads_meet}
use Rattle.nodes.specs.Inside.{turned_by}
use Rattle.formula.specs.Meaning.{turned, selector, selectors, followed, together}

-- what a selector makes of its column's answer
unfoldable pub selected : Answer → Answer → Answer → Answer
selected a Silent x = Silent
selected a Keep x = meet (turned_by (3 - number a) x) (turned_by ((3 - number a + 3) % 4) x)
selected a Bury x = negate (meet (turned_by (3 - number a) x) (turned_by ((3 - number a + 3) % 4) x))
selected a Clash x = meet (turned_by (3 - number a) x) (negate (turned_by (3 - number a) x))

-- "A selector picks: for each outcome j and each cell a: j where the column is a, silent elsewhere."
pub selector_picks : (j a x : Answer) → selected a j x ≡ cond (eqb (number a) (number x)) j Silent
unfolding selected turned_by
selector_picks Silent = all2 _ (search refl)
selector_picks Bury = all2 _ (search refl)
selector_picks Keep = all2 _ (search refl)
selector_picks Clash = all2 _ (search refl)

module _ {height : ℕ} {s : List Answer} where
  leads_turns : (k : ℕ) {x : Answer} {stack : List Answer} → Leads height s (replicate k 5) (x ∷ stack) (turned_by k x ∷ stack)
  unfolding turned_by
  leads_turns zero = still
  leads_turns (suc k) = leads_append {xs = 5 ∷ []} leads_turn (leads_turns k)

  module _ (column : ℕ) (six : column < 6) (inside : column < length s) where
    leads_turned :
        (k : ℕ) {stack : List Answer} →
        length stack < height →
        Leads height s (turned column k) stack (turned_by k (get_or s column Silent) ∷ stack)
    unfolding turned
    leads_turned k l = leads_append {xs = (16 + column) ∷ []} (leads_column column six inside l) (leads_turns k)

    pub leads_selector :
        (a j : Answer) {stack : List Answer} →
        (number j ≡ 0 → ⊥) →
        length stack + 2 ≤ height →
        Leads height s (selector column a j) stack (selected a j (get_or s column Silent) ∷ stack)
    unfolding selector selected
    leads_selector a Silent h l = absurd (h refl)
    leads_selector a Keep h l =
        leads_append
        (leads_append (leads_turned (3 - number a) (omega arith)) (leads_turned ((3 - number a + 3) % 4) (omega arith)))
        leads_meet
    leads_selector a Bury h l =
        leads_append (leads_append (leads_turned (3 - number a) (omega arith)) (leads_turned ((3 - number a + 3) % 4) (omega arith)))
        (leads_append {xs = 6 ∷ []} leads_meet leads_negate)
    leads_selector a Clash h l =
        leads_append (leads_append (leads_turned (3 - number a) (omega arith)) (leads_turned (3 - number a) (omega arith)))
        (leads_append {xs = 4 ∷ []} leads_negate leads_meet)

-- both of two picks
meet-same : (j : Answer) → meet j j ≡ j
meet-same = each _ (search refl)

meet_silent : (j : Answer) → meet j Silent ≡ Silent
meet_silent = each _ (search refl)

meet_picks : (b c : Bool) (j : Answer) → meet (cond b j Silent) (cond c j Silent) ≡ cond (b && c) j Silent
meet_picks true true j = meet-same j
meet_picks true false j = meet_silent j
meet_picks false c j = refl

module _ {height : ℕ} {s : List Answer} (j : Answer) (loud : number j ≡ 0 → ⊥) where
  -- a picked selector on top of the stack
  leads_picked :
      (column : ℕ) (a : Answer) {stack : List Answer} →
      column < 6 →
      column < length s →
      length stack + 2 ≤ height →
      Leads height s (selector column a j) stack (cond (cell_matches (is a) (get_or s column Silent)) j Silent ∷ stack)
  leads_picked column a {stack} six inside room =
      rw (selector_picks j a (get_or s column Silent)) at
      (leads_selector {height = height} {s = s} column six inside a j {stack = stack} loud room)

  leads_both :
      (b c : Bool) (stack : List Answer) →
      Leads height s (6 ∷ []) (cond c j Silent ∷ cond b j Silent ∷ stack) (cond (b && c) j Silent ∷ stack)
  leads_both b c stack =
      rw (meet_picks b c j) at
      (leads_meet {profile = all_nodes height} {s = s} {stack = stack} {p = cond b j Silent} {q = cond c j Silent})

  -- the further cells of a row
  leads_cells :
      (column : ℕ) (cells : List Cell) (b : Bool) (stack : List Answer) →
      column + length cells ≤ 6 →
      column + length cells ≤ length s →
      length stack + 3 ≤ height →
      Leads height s (followed 6 (selectors column j cells)) (cond b j Silent ∷ stack)
      (cond (b && matches cells (drop column s)) j Silent ∷ stack)
  unfolding selectors followed matches
  leads_cells column [] b stack six inside room = rw (and-true b) still
  leads_cells column (is a ∷ cells) b stack six inside room =
      let c : Bool = cell_matches (is a) (get_or s column Silent) in
      rw (drop-cons s column Silent (omega arith), ← and_assoc b c (matches cells (drop (suc column) s)))
      (leads_append (leads_picked column a (omega arith) (omega arith) (omega arith))
      (leads_append {xs = 6 ∷ []} (leads_both b c stack)
      (leads_cells (suc column) cells (b && c) stack (omega arith) (omega arith) (omega arith))))
  leads_cells column (any ∷ cells) b stack six inside room =
      rw (drop-cons s column Silent (omega arith)) (leads_cells (suc column) cells b stack (omega arith) (omega arith) room)

  -- a row
  pub leads_row :
      (column : ℕ) (cells : List Cell) (stack : List Answer) →
      column + length cells ≤ 6 →
      column + length cells ≤ length s →
      length stack + 3 ≤ height →
      Leads height s (together 6 (number j) (selectors column j cells)) stack (cond (matches cells (drop column s)) j Silent ∷ stack)
  unfolding selectors together matches
  leads_row column [] stack six inside room = leads_constant j (omega arith)
  leads_row column (is a ∷ cells) stack six inside room =
      rw (drop-cons s column Silent (omega arith))
      (leads_append (leads_picked column a (omega arith) (omega arith) (omega arith))
      (leads_cells (suc column) cells (cell_matches (is a) (get_or s column Silent)) stack (omega arith) (omega arith) room))
  leads_row column (any ∷ cells) stack six inside room =
      rw (drop-cons s column Silent (omega arith)) (leads_row (suc column) cells stack (omega arith) (omega arith) room)
