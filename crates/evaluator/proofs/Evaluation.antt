-- The loop over the nodes, its ends, and the whole evaluation.
use Prim.Native.Nat.{ℕ, suc, ◌+◌, ◌-◌, ◌%◌, ◌≤◌, ◌<◌}
use mathlib.Core.Path.{◌≡◌, refl, ap, sym, ◌∙◌}
use mathlib.Core.List.{List, []}
use lib.ListN.{length, length-map, drop, get_or, drop_of_length-le}
use lib.Seq.{drop-cons}
use borrow.Author.Tests.{ne_eqb}
use native.Mathlib.Numerals.{add-one}
use native.Mathlib.Omega.{arith}
use Rattle.std.specs.Prelude.{Result, Ok, Err}
use Rattle.refusals.specs.Meaning.{refused, numbers, checked, refusal_at}
use Rattle.refusals.specs.declared.Kind.{Kind}
use Rattle.refusals.specs.declared.Kind.TheVariants.{End}
use Rattle.refusals.specs.declared.Refusal.{Refusal}
use Rattle.refusals.proofs.Checks.{kind_refuses, after_refusal, after_success}
use Rattle.answers.specs.Meaning.{Reply, from_number, succeed, refuse_answer, answered}
use Rattle.answers.specs.declared.Answer.{Answer}
use Rattle.situations.specs.Meaning.{fault, answers_of}
use Rattle.situations.proofs.Faults.{fault-small}
use Rattle.nodes.specs.declared.Node.{Node}
use Rattle.nodes.specs.declared.Profile.{Profile}
use Rattle.nodes.specs.Meaning.{Climbed, node_of, full, to, climb, climbed, act, reply_after, finish, run, past, evaluate_of}
use Rattle.evaluator.specs.Inside.{view, acted, Small, Within, Running}
use Rattle.nodes.proofs.Climbing.{column-clear, climb-room}
use Rattle.evaluator.proofs.Acting.{acting}
use Rattle.evaluator.proofs.Digits.{length-view, ready-small}
use Rattle.running.proofs.Turning.{past-inside, run_past, next-ahead, next_less}

-- the end
module _ (stack height place : ℕ) where
  pub finish-one : {a : Answer} → height ≡ 1 → a ≡ from_number (stack % 4) → succeed a ≡ finish place (view height stack)
  unfolding view
  finish-one h e = rw (h, e)

  pub finish-not : (x : Refusal) → (height ≡ 1 → ⊥) → x ≡ refusal_at End place → refuse_answer (numbers x) ≡ finish place (view height stack)
  finish-not x h e = rw (e, length-view height stack, ne_eqb height 1 h)

pub ruleset finish_laws = (finish-one, finish-not)

-- the loop
pub running_none : (nodes : List ℕ) (s : List Answer) → Running nodes s 0 0 0
unfolding view
running_none nodes s = record { inside = omega arith; ready = record { room = omega arith; below = omega arith }; rest = refl }

module _ (bytes nodes : List ℕ) where
  module _
      (height : ℕ)
      (node : Node)
      {profile : Profile}
      (q : Result ℕ Kind)
      (f : profile ≡ full)
      (d : climbed q ≡ climb profile (length bytes) node height) where
    leads : {h : ℕ} → q ≡ Ok h → to h ≡ climb full (length bytes) node height
    leads e = rw (← f, ← d, e)

    pub clear_within : {h : ℕ} → q ≡ Ok h → Within node (length bytes)
    clear_within e =
        record {
          within = λ k x. (column-clear full (length bytes) height k (rw x at (sym (ap (λ (c : Climbed). c.fault) (leads e))))).0;
        }

    module _
        (stack i : ℕ)
        (w : Running nodes (answers_of bytes) stack height i)
        (l : i < length nodes)
        (n : node ≡ node_of (get_or nodes i 0)) where
      -- the run from here, opened at its first node
      here :
          reply_after
          (refused (climbed q).fault i)
          (run full (answers_of bytes) (suc i) (act (answers_of bytes) node (view height stack)) (drop (suc i) nodes))
          ≡ run full (answers_of bytes) 0 [] nodes
      unfolding run
      here = rw (d, f, n) (rw (drop-cons nodes i 0 l, length-map bytes from_number, length-view height stack) at w.rest)

      pub running_stopped :
          (r : Result Answer Refusal) (kind : Kind) (x : Refusal) →
          q ≡ Err kind →
          x ≡ refusal_at kind i →
          r ≡ Err x →
          answered r ≡ run full (answers_of bytes) 0 [] nodes
      running_stopped r kind x e g j = rw (j, g) (rw (e, kind_refuses kind) at here)

      module _ {h next : ℕ} (small : Small bytes) (e : q ≡ Ok h) {r : ℕ} (p : next ≡ past node nodes (i + 1)) (g : r ≡ acted bytes node (next - (i + 1)) stack) where
        pub running_more : Running nodes (answers_of bytes) r h next
        running_more =
            let t = leads e in
            let a = acting bytes (next - (i + 1)) stack height w.ready small node (sym (ap (λ (c : Climbed). c.fault) t)) in
            let h-is : (climb full (length bytes) node height).height ≡ h = sym (ap (λ (c : Climbed). c.height) t) in
            let on : run full (answers_of bytes) (i + 1) (act (answers_of bytes) node (view height stack)) (drop (i + 1) nodes)
            ≡ run full (answers_of bytes) 0 [] nodes =
            rw add-one (rw e at here) in
            record {
              inside = rw p (past-inside nodes (i + 1) node (omega arith));
              ready = record {
                room = rw (← h-is) (climb-room full (length bytes) node height w.ready.room);
                below = rw (g, ← h-is) a.below;
              };
              rest = rw (g, ← h-is, a.holds, p) (sym (run_past nodes (i + 1) full (answers_of bytes) (view height stack) node) ∙ on);
            }

        pub running_small : r < 4294967296
        running_small = ready-small r h running_more.ready

  pub running_all :
      (stack height i : ℕ) {r : Reply} →
      Running nodes (answers_of bytes) stack height i →
      length nodes ≤ i →
      r ≡ finish i (view height stack) →
      r ≡ run full (answers_of bytes) 0 [] nodes
  unfolding run
  running_all stack height i w l e = e ∙ (rw (drop_of_length-le nodes {i = i} l) at w.rest)

pub ruleset run_laws = (running_none, clear_within, running_stopped, running_more, running_small, running_all, next-ahead, next_less)

-- the evaluation
module _ (nodes s : List ℕ) {q : Result Unit Refusal} (e : checked q ≡ fault s) where
  pub evaluate-refused : (r : Result Answer Refusal) (x : Refusal) → q ≡ Err x → r ≡ Err x → answered r ≡ evaluate_of nodes s
  unfolding evaluate_of
  evaluate-refused r x i j = ap answered j ∙ after_refusal refuse_answer (run full (answers_of s) 0 [] nodes) x (sym (ap checked i) ∙ e)

  pub small_checked : q ≡ Ok tt → Small s
  small_checked i = record { small = fault-small s (ap (λ n. n.number) (sym e ∙ ap checked i)) }

  pub evaluate-run : q ≡ Ok tt → {r : Reply} → r ≡ run full (answers_of s) 0 [] nodes → r ≡ evaluate_of nodes s
  unfolding evaluate_of
  evaluate-run i {r} g = rw g (after_success refuse_answer (run full (answers_of s) 0 [] nodes) q tt e i)

pub ruleset evaluate_laws = (evaluate-refused, small_checked, evaluate-run)
