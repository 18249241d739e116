-- All rows of a table, the written ones and those that its default adds: they are as wide as the table, agree, and say together, with
-- silence where none matches, what the table says.
use Prim.Native.Nat.{ℕ, ◌+◌, ◌<◌}
use mathlib.Core.Path.{◌≡◌, refl, ap, sym, ◌∙◌}
use mathlib.Core.Logic.{⊎_elim}
use mathlib.Core.Bool.{Bool, true, false}
use mathlib.Core.List.{List}
use lib.Dec.{T}
use lib.ListN.{length, length-append, get_or-append}
use lib.Seq.{get_or-append-add}
use borrow.Author.Tests.{eqb-true}
use native.Mathlib.Omega.{arith}
use Rattle.answers.specs.Meaning.{number}
use Rattle.answers.specs.declared.Answer.{Answer}
use Rattle.answers.specs.declared.Answer.TheVariants.{Silent}
use Rattle.situations.specs.Meaning.{situation_at}
use Rattle.situations.proofs.Numbers.{situation_at-length}
use Rattle.rows.specs.Meaning.{Row, row, matches}
use Rattle.defaults.specs.Meaning.{default_answer}
use Rattle.tables.specs.Meaning.{Table, WellFormed, Consistent, rows_say, says}
use Rattle.accepting.proofs.Saying.{says_none, says_either, says_matching}
use Rattle.formula.specs.Meaning.{is_silent, added_rows, table_rows}
use Rattle.formula.proofs.Added.{each_row, added_rows-wide}
use Rattle.selection.proofs.OwnRows.{own_matches, own_only}
use Rattle.selection.proofs.AddedRows.{added_is, added-once}
use Rattle.matching.proofs.SomeRow.{matched-none, none-matched}
use Rattle.selection.proofs.Answering.{silent_is, Wide, Agree}

module _ (t : Table) (w : WellFormed t) where
  abbrev default : Answer
  default = default_answer t.default

  abbrev added : List Row
  added = added_rows default t.columns t.rows

  all-wide : (i : ℕ) → i < length (table_rows t) → length (row (table_rows t) i).cells ≡ t.columns
  all-wide = each_row (λ r. length r.cells ≡ t.columns) t.rows added w.wide (added_rows-wide default t.rows t.columns)

  module _ (s : List Answer) (long : length s ≡ t.columns) where
    pub table_rows-wide : Wide s (table_rows t)
    unfolding Wide
    table_rows-wide i l = (rw (all-wide i l) w.few-columns, rw (all-wide i l, long) (omega arith))

    -- an added row that matches is the situation's own, so that no written row matches
    added_gives : (i : ℕ) → i < length added → T (matches (row added i).cells s) → (row added i).outcome ≡ says t s
    added_gives i l h =
        let own = added_is default t.columns t.rows w.few-columns i l in
        let here : situation_at t.columns own.at ≡ s =
        own_only (situation_at t.columns own.at) s (situation_at-length t.columns own.at ∙ sym long) (rw own.same at h) in
        ap (λ (r : Row). r.outcome) own.same
        ∙ sym (says_none default t.rows s (matched-none t.rows s (rw here at own.free)))

    module _ (c : Consistent t) where
      -- any row that matches gives what the table says
      all_give : (i : ℕ) → i < length (table_rows t) → T (matches (row (table_rows t) i).cells s) → (row (table_rows t) i).outcome ≡ says t s
      all_give =
          each_row (λ r. T (matches r.cells s) → r.outcome ≡ says t s) t.rows added (says_matching t c s long) added_gives

      pub table_rows-agree : Agree s (table_rows t)
      unfolding Agree
      table_rows-agree i j k l p q = all_give i k p ∙ sym (all_give j l q)

      -- where none does, no row is added for the situation, so the default is silent
      none-say : ((i : ℕ) → i < length (table_rows t) → T (matches (row (table_rows t) i).cells s) → ⊥) → says t s ≡ Silent
      none-say f = says_none default t.rows s none ∙ go (is_silent default) refl
        where
          none : (i : ℕ) → i < length t.rows → T (matches (row t.rows i).cells s) → ⊥
          none i l h = f i (omega (arith, length-append t.rows added)) (rw (get_or-append t.rows added _ i l) h)

          go : (b : Bool) → is_silent default ≡ b → default ≡ Silent
          go true e = silent_is default (eqb-true (number default) 0 e)
          go false e =
              let a = added-once default t.columns t.rows w.few-columns e s long (none-matched t.rows s none) in
              absurd
              (f (length t.rows + a.0) (let l = a.1 in omega (arith, length-append t.rows added))
              (rw (get_or-append-add t.rows added a.0 _, a.2) (own_matches s)))

      pub table_rows-say : rows_say Silent (table_rows t) s ≡ says t s
      table_rows-say =
          ⊎_elim (λ f. says_none Silent (table_rows t) s f ∙ sym (none-say f))
          (λ r. r.1.gives ∙ all_give r.0 r.1.inside r.1.matched)
          (says_either Silent (table_rows t) s)
