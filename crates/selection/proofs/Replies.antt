-- What the reply of compiling tells: a table is accepted exactly when it is read and its nodes fit, and then they stand at the front.
use Prim.Native.Nat.{ℕ, ◌≤◌}
use mathlib.Core.Path.{◌≡◌, refl, ap}
use mathlib.Core.Bool.{Bool, true, false, cond}
use mathlib.Core.List.{List, ◌++◌}
use lib.Dec.{ltb, eqb}
use lib.ListN.{length, take, drop}
use lib.Seq.{take_at, drop_at}
use borrow.Author.Tests.{le-ltb, eq-eqb, eqb-true, eqb-false, ltb-false}
use native.Mathlib.Omega.{arith}
use Rattle.refusals.specs.Meaning.{none, refused, ROOM}
use Rattle.tables.specs.Meaning.{read_of, table_of}
use Rattle.formula.specs.Meaning.{table_nodes, table_size}
use Rattle.compiler.specs.Meaning.{Compiled, refuse_compiled, compile_of, written_of}
use Rattle.formula.proofs.Sizes.{table_size_lem}

-- the reply for a table that is read and fits, and for any by whether it is read and whether the room is too short
abbrev pub accepted_reply : List ℕ → Compiled
accepted_reply t = record { refusal = none; columns = (read_of t).columns; rows = (read_of t).rows; nodes = table_size (table_of t) }

abbrev reply_if : List ℕ → Bool → Bool → Compiled
reply_if t read short =
    cond read (cond short (refuse_compiled (refused ROOM (table_size (table_of t)))) (accepted_reply t)) (refuse_compiled (read_of t).refusal)

-- an accepted table is read, and its nodes fit
accepts :
    (t : List ℕ) (room : ℕ) →
    (compile_of t room).refusal.number ≡ 0 →
    ((read_of t).refusal.number ≡ 0) × (table_size (table_of t) ≤ room) × (compile_of t room ≡ accepted_reply t)
unfolding compile_of
accepts t room = go (eqb (read_of t).refusal.number 0) refl (ltb room (table_size (table_of t))) refl
  where
    go :
        (b : Bool) →
        eqb (read_of t).refusal.number 0 ≡ b →
        (c : Bool) →
        ltb room (table_size (table_of t)) ≡ c →
        (reply_if t b c).refusal.number ≡ 0 →
        ((read_of t).refusal.number ≡ 0) × (table_size (table_of t) ≤ room) × (reply_if t b c ≡ accepted_reply t)
    go false e c f h = absurd (eqb-false (read_of t).refusal.number 0 e h)
    go true e true f h = absurd (omega (arith, h))
    go true e false f h = (eqb-true (read_of t).refusal.number 0 e, ltb-false room (table_size (table_of t)) f, refl)

module _ (t : List ℕ) (room : ℕ) (h : (compile_of t room).refusal.number ≡ 0) where
  pub accepted_read : (read_of t).refusal.number ≡ 0
  accepted_read = (accepts t room h).0

  pub accepted_room : table_size (table_of t) ≤ room
  accepted_room = (accepts t room h).1

  pub accepted_reply_lem : compile_of t room ≡ accepted_reply t
  accepted_reply_lem = (accepts t room h).2

-- and a table that is read and whose nodes fit is accepted
pub fits_accepted :
    (t : List ℕ) (room : ℕ) →
    (read_of t).refusal.number ≡ 0 →
    table_size (table_of t) ≤ room →
    (compile_of t room).refusal.number ≡ 0
unfolding compile_of
fits_accepted t room h l = rw (eq-eqb (read_of t).refusal.number 0 h, le-ltb room (table_size (table_of t)) l)

pub written_accepted :
    (t lent : List ℕ) →
    (compile_of t (length lent)).refusal.number ≡ 0 →
    written_of t lent ≡ table_nodes (table_of t) ++ drop (table_size (table_of t)) lent
unfolding written_of
written_accepted t lent h = rw (eq-eqb (compile_of t (length lent)).refusal.number 0 h)

-- the nodes stand at the front of what is written, and behind them the lent bytes are as they came
module _ (t lent : List ℕ) (h : (compile_of t (length lent)).refusal.number ≡ 0) where
  pub accepted_count : (compile_of t (length lent)).nodes ≡ table_size (table_of t)
  accepted_count = ap (λ (x : Compiled). x.nodes) (accepted_reply_lem t (length lent) h)

  pub accepted_nodes : take (compile_of t (length lent)).nodes (written_of t lent) ≡ table_nodes (table_of t)
  accepted_nodes =
      rw (written_accepted t lent h, accepted_count)
      (take_at (table_nodes (table_of t)) (drop (table_size (table_of t)) lent) (table_size (table_of t)) (table_size_lem (table_of t)))

  pub accepted_rest : drop (compile_of t (length lent)).nodes (written_of t lent) ≡ drop (compile_of t (length lent)).nodes lent
  accepted_rest =
      rw (written_accepted t lent h, accepted_count)
      (drop_at (table_nodes (table_of t)) (drop (table_size (table_of t)) lent) (table_size (table_of t)) (table_size_lem (table_of t)))

  pub accepted_fits : (compile_of t (length lent)).nodes ≤ length lent
  accepted_fits = rw accepted_count (accepted_room t (length lent) h)
