-- One node on the stacks of all lanes: a lane's stack as a list (view), and the ways out of `act`.
use Prim.Native.Nat.{ℕ, zero, suc, ◌+◌, ◌-◌, ◌*◌, ◌%◌, ◌≤◌, ◌<◌}
use mathlib.Core.Path.{◌≡◌, refl, ap, ap₂, sym, ◌∙◌}
use mathlib.Core.Bool.{Bool, true, false, cond}
use mathlib.Core.List.{List, ◌∷◌}
use lib.Dec.{ltb}
use lib.ListN.{length, drop, get_or}
use borrow.Author.Tests.{lt-ltb, ltb-false}
use native.Mathlib.Omega.{arith}
use Rattle.answers.specs.Meaning.{negate, turn, meet, join}
use Rattle.answers.specs.declared.Answer.{Answer}
use Rattle.answers.specs.declared.Answer.TheVariants.{Silent}
use Rattle.situations.proofs.Columns.{situation_at-column}
use Rattle.nodes.specs.declared.Node.{Node}
use Rattle.nodes.specs.declared.Node.TheVariants.{Constant, Negate, Turn, Meet, Join, Column, Foreign}
use Rattle.nodes.specs.Meaning.{Climbed, full, to, climb_push, climb_down, climb, act}
use Rattle.nodes.specs.Inside.{act_turned}
use Rattle.nodes.proofs.Climbing.{push_clear, down_clear, column-clear}
use Rattle.lanes.specs.Meaning.{Placed, one, two}
use Rattle.pushes.specs.Meaning.{everywhere, column_of}
use Rattle.planes.specs.Inside.{view, lane_at, Acted, Acting}

-- a lane's stack
pub length-view : (i x : ℕ) (stack : List ℕ) (h : ℕ) → length (view i x stack h) ≡ h
unfolding view
length-view i x stack zero = refl
length-view i x stack (suc h) = ap suc (length-view i x stack h)

-- the place above is written, those below it are kept
module _ {g : ℕ → ℕ → Answer} (top : ℕ) {room : ℕ} {old new : List ℕ} (p : Placed g (top * 32) room old new) (i x : ℕ) (l : i < 16) where
  view-below : (h : ℕ) → h ≤ top → view i x new h ≡ view i x old h
  unfolding view
  view-below zero m = refl
  view-below (suc h) m =
      rw (
        p.kept (h * 32 + i) (λ q. absurd (omega (arith, q, l))),
        p.kept (h * 32 + i + 16) (λ q. absurd (omega (arith, q, l))),
        view-below h (omega arith),
      )

  view-placed : top * 32 + room ≤ length old → x < 64 → view i x new (suc top) ≡ g i x ∷ view i x old top
  unfolding view
  view-placed r m = ap₂ (λ a s. a ∷ s) (p.written r i x l m) (view-below top (omega arith))

-- the height before a push, and before an operator
leads_push : (height place : ℕ) → climb_push 16 height ≡ to (suc place) → (place < 16) × (height ≡ place)
leads_push height place e =
    let l = push_clear 16 height (ap (λ (c : Climbed). c.fault) e) in
    let h : height + 1 ≡ suc place = ap (λ (c : Climbed). c.height) (rw (lt-ltb height 16 l) at e) in
    (omega (arith, l), omega arith)

leads_down : (fewer height place : ℕ) → climb_down fewer height ≡ to (suc place) → height ≡ suc place + fewer
leads_down fewer height place e =
    let l = down_clear fewer height (ap (λ (c : Climbed). c.fault) e) in
    let h : height - fewer ≡ suc place = ap (λ (c : Climbed). c.height) (rw (lt-ltb fewer height l) at e) in
    omega (arith, l)

-- the sixth digit is the last
last_digit : (e : ℕ) → e < 6 → cond (ltb e 5) e 5 ≡ e
last_digit e l = go (ltb e 5) refl
  where
    go : (t : Bool) → ltb e 5 ≡ t → cond t e 5 ≡ e
    go true h = refl
    go false h = let m = ltb-false e 5 h in omega (arith, m)

-- the ways out
module _ (columns first turns place : ℕ) {node : Node} {old new : List ℕ} where
  acted :
      (room : ℕ) {g : ℕ → ℕ → Answer} →
      Placed g (place * 32) room old new →
      ((height : ℕ) → height ≤ 16 → climb full columns node height ≡ to (suc place) → place * 32 + room ≤ 512) →
      ((height : ℕ) →
      climb full columns node height ≡ to (suc place) →
      (i x : ℕ) →
      g i x ∷ view i x old place ≡ act_turned (lane_at columns first i x) node turns (view i x old height)) →
      Acted columns first node turns place old new
  acted room p fits same =
      record {
        size = p.size;
        holds = λ s height l c i x k m. view-placed place p i x k (rw s (fits height l c)) m ∙ same height c i x;
      }

  pub act-constant :
      {a : Answer} → node ≡ Constant a → Placed (everywhere a) (place * 32) 32 old new → Acted columns first node turns place old new
  unfolding climb act act_turned everywhere
  act-constant n p =
      acted 32 p (λ height l c. let f = leads_push height place (rw n at c) in omega (arith, f.0))
      (λ height c i x. rw (n, (leads_push height place (rw n at c)).1))

  -- one operand
  act-one :
      (f : Answer → Answer) →
      ((height : ℕ) → climb full columns node height ≡ climb_down 0 height) →
      ((s stack : List Answer) → act_turned s node turns stack ≡ f (get_or stack 0 Silent) ∷ drop 1 stack) →
      Placed (one f old (place * 32)) (place * 32) 32 old new →
      Acted columns first node turns place old new
  unfolding one view
  act-one f down does p =
      acted 32 p (λ height l c. omega (arith, l, before height c))
      (λ height c i x. rw (does (lane_at columns first i x) (view i x old height), before height c))
    where
      before : (height : ℕ) → climb full columns node height ≡ to (suc place) → height ≡ suc place
      before height c = let h = leads_down 0 height place (sym (down height) ∙ c) in omega (arith, h)

  pub act-negate :
      node ≡ Negate → Placed (one negate old (place * 32)) (place * 32) 32 old new → Acted columns first node turns place old new
  unfolding climb act act_turned
  act-negate n = act-one negate (λ height. rw n) (λ s stack. rw n)

  pub act-turn : node ≡ Turn → Placed (one turn old (place * 32)) (place * 32) 32 old new → Acted columns first node turns place old new
  unfolding climb act act_turned
  act-turn n = act-one turn (λ height. rw n) (λ s stack. rw n)

  -- two operands
  act-two :
      (f : Answer → Answer → Answer) →
      ((height : ℕ) → climb full columns node height ≡ climb_down 1 height) →
      ((s stack : List Answer) → act_turned s node turns stack ≡ f (get_or stack 1 Silent) (get_or stack 0 Silent) ∷ drop 2 stack) →
      Placed (two f old (place * 32)) (place * 32) 64 old new →
      Acted columns first node turns place old new
  unfolding two view
  act-two f down does p =
      acted 64 p (λ height l c. omega (arith, l, before height c))
      (λ height c i x.
      let a : place * 32 + i + 32 ≡ suc place * 32 + i = omega arith in
      rw (does (lane_at columns first i x) (view i x old height), before height c, a))
    where
      before : (height : ℕ) → climb full columns node height ≡ to (suc place) → height ≡ suc (suc place)
      before height c = let h = leads_down 1 height place (sym (down height) ∙ c) in omega (arith, h)

  pub act-meet : node ≡ Meet → Placed (two meet old (place * 32)) (place * 32) 64 old new → Acted columns first node turns place old new
  unfolding climb act act_turned
  act-meet n = act-two meet (λ height. rw n) (λ s stack. rw n)

  pub act-join : node ≡ Join → Placed (two join old (place * 32)) (place * 32) 64 old new → Acted columns first node turns place old new
  unfolding climb act act_turned
  act-join n = act-two join (λ height. rw n) (λ s stack. rw n)

-- a column, in one of four passes
module _ (columns number turns place : ℕ) {node : Node} {old new : List ℕ} where
  pub act-column :
      {c : ℕ} →
      node ≡ Column c →
      columns ≤ 6 →
      number < 4 →
      Placed (column_of number (columns - 1 - c) turns) (place * 32) 32 old new →
      Acted columns (number * 16) node turns place old new
  unfolding climb act_turned column_of
  act-column {c} n most inside p =
      acted columns (number * 16) turns place 32 p (λ height l e. let f = found height e in omega (arith, f.1))
      (λ height e i x.
      let f = found height e in
      let words : number % 4 * 16 ≡ number * 16 = omega arith in
      rw (
        n,
        f.2,
        words,
        last_digit (columns - 1 - c) (omega (arith, f.0)),
        situation_at-column columns ((number * 16 + i) * 64 + x) c f.0,
      ))
    where
      found : (height : ℕ) → climb full columns node height ≡ to (suc place) → (c < columns) × (place < 16) × (height ≡ place)
      found height e =
          let l = (column-clear full columns height c (ap (λ (q : Climbed). q.fault) (rw n at e))).0 in
          let f = leads_push height place (rw (n, lt-ltb c columns l) at e) in
          (l, f.0, f.1)

pub act_foreign : (columns first turns place : ℕ) {node : Node} (stack : List ℕ) → node ≡ Foreign → Acted columns first node turns place stack stack
unfolding climb
act_foreign columns first turns place stack n =
    record {
      size = refl;
      holds = λ s height l c. absurd (let z : ◌≡◌ {A = ℕ} 9 0 = ap (λ (q : Climbed). q.fault) (rw n at c) in omega arith);
    }

-- the digit of a column
module _ (columns : ℕ) {node : Node} (y : Acting columns node) {c : ℕ} (n : node ≡ Column c) where
  pub column-some : 1 ≤ columns
  column-some = let l = y.column c n in omega (arith, l)

  pub column-digit : c ≤ columns - 1
  column-digit = let l = y.column c n in omega (arith, l)
