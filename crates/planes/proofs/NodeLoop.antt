-- The loop over the nodes in all lanes, its ends, and what it refuses.
use Prim.Native.Nat.{ℕ, suc, ◌+◌, ◌-◌, ◌*◌, ◌≤◌, ◌<◌}
use mathlib.Core.Path.{◌≡◌, refl, ap, sym, ◌∙◌}
use mathlib.Core.List.{List, []}
use lib.ListN.{length, drop, get_or, drop_of_length-le}
use lib.Seq.{drop-cons}
use borrow.Author.Tests.{lt-ltb, ne_eqb}
use native.Mathlib.Numerals.{add-one}
use native.Mathlib.Omega.{arith}
use Rattle.std.specs.Prelude.{Result, Ok, Err}
use Rattle.refusals.specs.Meaning.{Numbers, none, refused, numbers, checked, refusal_at}
use Rattle.refusals.specs.declared.Kind.{Kind}
use Rattle.refusals.specs.declared.Kind.TheVariants.{End}
use Rattle.refusals.specs.declared.Refusal.{Refusal}
use Rattle.refusals.proofs.Checks.{refusal_counts, kind_refuses}
use Rattle.answers.specs.Meaning.{Reply, succeed, refuse_answer}
use Rattle.answers.specs.declared.Answer.{Answer}
use Rattle.situations.proofs.Numbers.{situation_at-length}
use Rattle.nodes.specs.declared.Node.{Node}
use Rattle.nodes.specs.declared.Node.TheVariants.{Constant, Negate, Turn, Meet, Join, Column, Foreign}
use Rattle.nodes.specs.declared.Profile.{Profile}
use Rattle.nodes.specs.Meaning.{Climbed, node_of, full, to, climb, climbed, act, heights, reply_after, finish, run, past}
use Rattle.nodes.specs.Inside.{act_turned}
use Rattle.nodes.proofs.Climbing.{climb-room, push_clear, down_clear, column-clear}
use Rattle.running.proofs.Turning.{past-inside, run_past, next-ahead, next_less}
use Rattle.running.proofs.Heights.{run-heights}
use Rattle.lanes.specs.Meaning.{held}
use Rattle.planes.specs.Inside.{view, lane_at, Acting, Acted, Running, Ran}
use Rattle.planes.proofs.Acting.{length-view}

-- a node that is not refused leaves an answer
climb-some : (columns : ℕ) (node : Node) (height : ℕ) → (climb full columns node height).fault ≡ 0 → 1 ≤ (climb full columns node height).height
unfolding climb
climb-some columns (Constant a) height e = let l = push_clear 16 height e in rw (lt-ltb height 16 l) (omega arith)
climb-some columns (Column k) height e =
    let l = column-clear full columns height k e in rw (lt-ltb k columns l.0, lt-ltb height 16 l.1) (omega arith)
climb-some columns Negate height e = let l = down_clear 0 height e in rw (lt-ltb 0 height l) (omega (arith, l))
climb-some columns Turn height e = let l = down_clear 0 height e in rw (lt-ltb 0 height l) (omega (arith, l))
climb-some columns Meet height e = let l = down_clear 1 height e in rw (lt-ltb 1 height l) (omega (arith, l))
climb-some columns Join height e = let l = down_clear 1 height e in rw (lt-ltb 1 height l) (omega (arith, l))
climb-some columns Foreign height e = absurd (omega (arith, e))

module _ (nodes : List ℕ) (columns first : ℕ) where
  -- what one lane's run refuses is what heights say
  lane-told :
      (k x : ℕ) {r : Numbers} {a : Answer} →
      record { refusal = r; answer = a } ≡ run full (lane_at columns first k x) 0 [] nodes →
      r ≡ heights full columns 0 0 nodes
  lane-told k x e =
      ap (λ (q : Reply). q.refusal) e
      ∙ run-heights full (lane_at columns first k x) 0 [] nodes
      ∙ (rw (situation_at-length columns ((first + k) * 64 + x)))

  -- a refusal of the first lane is that of all
  ran_refused :
      (stack : List ℕ) (x : Refusal) →
      refuse_answer (numbers x) ≡ run full (lane_at columns first 0 0) 0 [] nodes →
      Ran nodes columns first stack (numbers x)
  ran_refused stack x h = record { told = lane-told 0 0 h; answered = λ z. absurd (refusal_counts x z) }

  pub running_none : (stack : List ℕ) → length stack ≡ 512 → Running nodes columns first stack 0 0
  unfolding view
  running_none stack b = record { inside = omega arith; room = omega arith; size = b; rest = λ i x l m. refl }

  module _
      {stack : List ℕ} (height i : ℕ) {node : Node} {profile : Profile} (q : Result ℕ Kind)
      (w : Running nodes columns first stack height i) (l : i < length nodes) (n : node ≡ node_of (get_or nodes i 0))
      (f : profile ≡ full) (d : climbed q ≡ climb profile columns node height) where
    -- a lane's run from here, opened at its first node
    here :
        (k x : ℕ) →
        k < 16 →
        x < 64 →
        reply_after (refused (climbed q).fault i)
        (run full (lane_at columns first k x) (suc i) (act (lane_at columns first k x) node (view k x stack height)) (drop (suc i) nodes))
        ≡ run full (lane_at columns first k x) 0 [] nodes
    unfolding run
    here k x o m =
        rw (d, f, n)
        (rw (drop-cons nodes i 0 l, situation_at-length columns ((first + k) * 64 + x), length-view k x stack height)
        at (w.rest k x o m))

    pub running_stopped :
        (r : Result Unit Refusal) (kind : Kind) (x : Refusal) →
        q ≡ Err kind →
        x ≡ refusal_at kind i →
        r ≡ Err x →
        Ran nodes columns first stack (checked r)
    running_stopped r kind x e g j =
        rw j (ran_refused stack x (rw g (rw (e, kind_refuses kind) at (here 0 0 (omega arith) (omega arith)))))

    -- one that is not refused
    module _ {h : ℕ} (e : q ≡ Ok h) where
      leads : climb full columns node height ≡ to h
      leads = rw (← f, ← d, e)

      clear : (climb full columns node height).fault ≡ 0
      clear = ap (λ (c : Climbed). c.fault) leads

      height-is : (climb full columns node height).height ≡ h
      height-is = ap (λ (c : Climbed). c.height) leads

      pub running_clear : Acting columns node
      running_clear = record { column = λ k m. (column-clear full columns height k (rw m at clear)).0 }

      pub running_some : 1 ≤ h
      running_some = rw height-is at (climb-some columns node height clear)

      pub running_more :
          {next : ℕ} {new : List ℕ} →
          next ≡ past node nodes (i + 1) →
          Acted columns first node (next - (i + 1)) (h - 1) stack new →
          Running nodes columns first new h next
      running_more {next} {new} p a =
          let s : suc (h - 1) ≡ h = omega (arith, running_some) in
          record {
            inside = rw p (past-inside nodes (i + 1) node (omega arith));
            room = rw height-is at (climb-room full columns node height w.room);
            size = a.size ∙ w.size;
            rest = λ k x o m.
                let here-is = lane_at columns first k x in
                let held : view k x new h ≡ act_turned here-is node (next - (i + 1)) (view k x stack height) =
                rw s at (a.holds w.size height w.room (rw s leads) k x o m) in
                let on : run full here-is (i + 1) (act here-is node (view k x stack height)) (drop (i + 1) nodes) ≡ run full here-is 0 [] nodes =
                rw add-one (rw e at (here k x o m)) in
                rw (held, p) (sym (run_past nodes (i + 1) full here-is (view k x stack height) node) ∙ on);
          }

  -- behind the last node
  module _ {stack : List ℕ} (height i : ℕ) (w : Running nodes columns first stack height i) (l : length nodes ≤ i) where
    ended : (k x : ℕ) → k < 16 → x < 64 → finish i (view k x stack height) ≡ run full (lane_at columns first k x) 0 [] nodes
    unfolding run
    ended k x o m = rw (drop_of_length-le nodes {i = i} l) at (w.rest k x o m)

    pub ended_other : (x : Refusal) → (height ≡ 1 → ⊥) → x ≡ refusal_at End i → Ran nodes columns first stack (numbers x)
    ended_other x h e =
        ran_refused stack x
        (rw e (rw (length-view 0 0 stack height, ne_eqb height 1 h) at (ended 0 0 (omega arith) (omega arith))))

    lane-answer : height ≡ 1 → (k x : ℕ) → k < 16 → x < 64 → succeed (held stack k x) ≡ run full (lane_at columns first k x) 0 [] nodes
    unfolding view
    lane-answer e k x o m = let z : 0 * 32 + k ≡ k = omega arith in rw (e, z) at (ended k x o m)

    pub ended_one : height ≡ 1 → Ran nodes columns first stack none
    ended_one e =
        record {
          told = lane-told 0 0 (lane-answer e 0 0 (omega arith) (omega arith));
          answered = λ z k x o m. ap (λ (q : Reply). q.answer) (lane-answer e k x o m);
        }

-- the walk goes on and ends
pub ruleset walk_laws = (next-ahead, next_less)
