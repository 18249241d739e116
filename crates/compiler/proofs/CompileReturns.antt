-- Each way out of compiling: the reply and the lent bytes are those of the definitions.
use Prim.Native.Nat.{ℕ, ◌+◌, ◌≤◌, ◌<◌}
use mathlib.Core.Path.{◌≡◌, refl, ap, sym, ◌∙◌}
use mathlib.Core.Bool.{Bool, true, false}
use mathlib.Core.List.{List}
use lib.Dec.{ltb}
use lib.ListN.{length}
use lib.Seq.{sets, sets-eq}
use borrow.Author.Tests.{lt-ltb, le-ltb, eq-eqb, ne_eqb, ltb-true, ltb-false}
use native.Mathlib.Nat.{zero-add}
use native.Mathlib.Omega.{arith}
use Rattle.lent.specs.Meaning.{WroteWhole}
use Rattle.lent.proofs.Laws.{placed_nothing, placed-all, placed_wrote}
use Rattle.std.specs.Prelude.{Result, Err}
use Rattle.refusals.specs.Meaning.{none, numbers, refusal_at, ROOM}
use Rattle.refusals.specs.declared.Kind.TheVariants as kind
use Rattle.refusals.specs.declared.Refusal.{Refusal}
use Rattle.refusals.proofs.Checks.{kind_refuses, refusal_counts}
use Rattle.answers.specs.declared.Answer.{Answer}
use Rattle.rows.specs.Meaning.{rows_in}
use Rattle.defaults.specs.Meaning.{default_answer, default_in}
use Rattle.tables.specs.Meaning.{TableRead, refuse_table, read_of, behind_columns, rows_part, table_of}
use Rattle.tables.proofs.Accepted.{read_accepted}
use Rattle.formula.specs.Meaning.{rows_nodes, all_rows, table_nodes, table_size}
use Rattle.formula.proofs.Sizes.{table_size_lem}
use Rattle.writing.specs.Meaning.{few_rows}
use Rattle.compiler.specs.Meaning.{Compiled, refuse_compiled, compiled, reply_of, compile_of, written_of}
use Rattle.compiler.specs.declared.Sizes.{Sizes}

-- a refused call writes nothing
pub written-refused : (t lent : List ℕ) → ((compile_of t (length lent)).refusal.number ≡ 0 → ⊥) → lent ≡ written_of t lent
unfolding written_of
written-refused t lent h = rw (ne_eqb (compile_of t (length lent)).refusal.number 0 h)

-- a table that is not read
module _ (t : List ℕ) (x : Refusal) (e : refuse_table (numbers x) ≡ read_of t) where
  unread : (room : ℕ) → refuse_compiled (numbers x) ≡ compile_of t room
  unfolding compile_of
  unread room = rw (← e, kind_refuses x.kind)

  pub compile-unread : (room : ℕ) (q : Result Sizes Refusal) → q ≡ Err x → compiled q ≡ compile_of t room
  compile-unread room q i = ap compiled i ∙ unread room

  pub unread_writes_nothing : (lent : List ℕ) → lent ≡ written_of t lent
  unread_writes_nothing lent =
      let counts = refusal_counts x in
      written-refused t lent (λ z. counts (ap (λ (y : Compiled). y.refusal.number) (unread (length lent)) ∙ z))

-- one that is
module _ (t : List ℕ) {f : TableRead} (e : f ≡ read_of t) where
  module _ (h : f.refusal.number ≡ 0) where
    read_none : (read_of t).refusal.number ≡ 0
    read_none = ap (λ (x : TableRead). x.refusal.number) (sym e) ∙ h

    module _
        {rows : List ℕ} (g : rows ≡ rows_part t) {d : Answer} (k : d ≡ default_answer (default_in (behind_columns t)))
        (lent : List ℕ) {new : List ℕ} {needed : ℕ}
        (p : WroteWhole lent 0 (rows_nodes (all_rows d f.columns (rows_in f.columns (few_rows rows)))) new needed)
      where
        nodes_are : rows_nodes (all_rows d f.columns (rows_in f.columns (few_rows rows))) ≡ table_nodes (table_of t)
        unfolding table_nodes
        nodes_are =
            rw (k, g, e, (read_accepted t read_none).reply, le-ltb 640 (length (rows_part t)) (read_accepted t read_none).short)

        needed_is : needed ≡ table_size (table_of t)
        needed_is =
            p.ends
            ∙ zero-add (length (rows_nodes (all_rows d f.columns (rows_in f.columns (few_rows rows)))))
            ∙ ap length nodes_are
            ∙ table_size_lem (table_of t)

        same-long : length new ≡ length lent
        same-long = (placed_wrote p).long

        replied-is : compile_of t (length lent) ≡ reply_of (length lent) needed f.columns f.rows
        unfolding compile_of
        replied-is = rw (← e, eq-eqb f.refusal.number 0 h, ← needed_is)

        pub compile-room : length new < needed → (x : Refusal) → x ≡ refusal_at kind.Room needed → refuse_compiled (numbers x) ≡ compile_of t (length lent)
        compile-room l x i =
            let few : length lent < needed = rw same-long at l in
            rw (i, replied-is, lt-ltb (length lent) needed few)

        pub compile_accepts :
            needed ≤ length new →
            record { refusal = none; columns = f.columns; rows = f.rows; nodes = needed } ≡ compile_of t (length lent)
        compile_accepts l =
            let enough : needed ≤ length lent = rw same-long at l in
            rw (replied-is, le-ltb (length lent) needed enough)

        room_writes_nothing : length lent < needed → new ≡ written_of t lent
        room_writes_nothing l =
            placed_nothing p l
            ∙ written-refused t lent
            (λ z.
            let y : ◌≡◌ {A = ℕ} ROOM 0 = rw (replied-is, lt-ltb (length lent) needed l) at z in
            absurd (omega arith))

        nodes_written : needed ≤ length lent → new ≡ written_of t lent
        unfolding written_of
        nodes_written l =
            let xs : List ℕ = table_nodes (table_of t) in
            let ends : 0 + length xs ≡ needed = zero-add (length xs) ∙ table_size_lem (table_of t) ∙ sym needed_is in
            let all : new ≡ sets lent 0 xs = placed-all p l ∙ ap (sets lent 0) nodes_are in
            rw (replied-is, le-ltb (length lent) needed l, ← needed_is, ← ends) (all ∙ sets-eq xs lent 0 (omega arith))

        pub read_written : new ≡ written_of t lent
        read_written = go (ltb (length lent) needed) refl
          where
            go : (s : Bool) → ltb (length lent) needed ≡ s → new ≡ written_of t lent
            go true k = room_writes_nothing (ltb-true (length lent) needed k)
            go false k = nodes_written (ltb-false (length lent) needed k)
