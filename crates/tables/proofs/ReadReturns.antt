-- The ways out of reading all fields, and of reading a table.
use Prim.Native.Nat.{ℕ}
use mathlib.Core.Path.{◌≡◌, refl, ap, sym, ◌∙◌}
use mathlib.Core.List.{List}
use borrow.Author.Tests.{eq-eqb, ne_eqb}
use lib.ListN.{drop}
use Rattle.std.specs.Prelude.{Result, Ok, Err}
use Rattle.refusals.specs.Meaning.{Numbers, none, numbers, after}
use Rattle.refusals.specs.declared.Refusal.{Refusal}
use Rattle.refusals.proofs.Checks.{after_refusal, refusal_counts}
use Rattle.rows.specs.Meaning.{first_overlap}
use Rattle.faults.specs.Meaning.{columns_of, columns_fault}
use Rattle.defaults.specs.Meaning.{default_fault}
use Rattle.tables.specs.Meaning.{TableRead, behind_columns, rows_start, rows_part, refuse_table, accept_table, rows_from, fields_of, read_of, table_read}
use Rattle.tables.specs.declared.Read.{Read}

-- a check that refuses
refused : (x : Refusal) (q : Result Read Refusal) (follows : TableRead) {n : Numbers} → numbers x ≡ n → q ≡ Err x → table_read q ≡ after n refuse_table follows
refused x q follows e i = ap table_read i ∙ after_refusal refuse_table follows x e

-- the first field, then the default, then the rows
module _ (t : List ℕ) where
  pub fields_of-stop : (x : Refusal) (q : Result Read Refusal) → numbers x ≡ columns_fault t → q ≡ Err x → table_read q ≡ fields_of t
  unfolding fields_of
  fields_of-stop x q e i = refused x q _ e i

  module _ (e : none ≡ columns_fault t) {part : List ℕ} (p : part ≡ behind_columns t) where
    pub fields_of-default : (x : Refusal) (q : Result Read Refusal) → numbers x ≡ default_fault part → q ≡ Err x → table_read q ≡ fields_of t
    unfolding fields_of
    fields_of-default x q f i = rw (← e) (refused x q _ (rw p at f) i)

    pub fields_of-rows :
        none ≡ default_fault part →
        {n start : ℕ} →
        n ≡ columns_of t →
        start ≡ rows_start t →
        {q : TableRead} →
        q ≡ rows_from 64 n start (drop start t) →
        q ≡ fields_of t
    unfolding fields_of
    fields_of-rows f m s k =
        let passed : none ≡ default_fault (behind_columns t) = rw p at f in
        rw (← e, ← passed, ← m, ← s) k

-- the fields, then the search for two rows that disagree: by numbers, and as the code has them
module _ (t : List ℕ) {f : TableRead} (e : f ≡ fields_of t) where
  pub read_of_stop : (f.refusal.number ≡ 0 → ⊥) → refuse_table f.refusal ≡ read_of t
  unfolding read_of
  read_of_stop h = rw (← e, ne_eqb f.refusal.number 0 h)

  module _ (h : f.refusal.number ≡ 0) where
    pub read_of_disagreement :
        ((first_overlap (columns_of t) (rows_part t)).number ≡ 0 → ⊥) →
        refuse_table (first_overlap (columns_of t) (rows_part t)) ≡ read_of t
    unfolding read_of
    read_of_disagreement i = rw (← e, eq-eqb f.refusal.number 0 h, ne_eqb (first_overlap (columns_of t) (rows_part t)).number 0 i)

    pub read_of_pass : (first_overlap (columns_of t) (rows_part t)).number ≡ 0 → f ≡ read_of t
    unfolding read_of
    read_of_pass i = rw (← e, eq-eqb f.refusal.number 0 h, eq-eqb (first_overlap (columns_of t) (rows_part t)).number 0 i)

module _ (t : List ℕ) {f : Result Read Refusal} (e : table_read f ≡ fields_of t) where
  pub read_of_fields : (x : Refusal) (q : Result Read Refusal) → f ≡ Err x → q ≡ Err x → table_read q ≡ read_of t
  read_of_fields x q h i = ap table_read i ∙ read_of_stop t {f = refuse_table (numbers x)} (sym (ap table_read h) ∙ e) (refusal_counts x)

  module _ (r : Read) (h : f ≡ Ok r) (n : ℕ) (rows : List ℕ) (m : n ≡ columns_of t) (p : rows ≡ rows_part t) where
    given : accept_table r.columns r.rows ≡ fields_of t
    given = sym (ap table_read h) ∙ e

    pub read_of-overlap : (x : Refusal) (q : Result Read Refusal) → numbers x ≡ first_overlap n rows → q ≡ Err x → table_read q ≡ read_of t
    read_of-overlap x q g i =
        let here : numbers x ≡ first_overlap (columns_of t) (rows_part t) = rw (m, p) at g in
        let counts = refusal_counts x in
        ap table_read i ∙ ap refuse_table here
        ∙ read_of_disagreement t given refl (λ z. counts (ap (λ (y : Numbers). y.number) here ∙ z))

    pub read_of_accepts : none ≡ first_overlap n rows → accept_table r.columns r.rows ≡ read_of t
    read_of_accepts g =
        let clear : none ≡ first_overlap (columns_of t) (rows_part t) = rw (m, p) at g in
        read_of_pass t given refl (sym (ap (λ (y : Numbers). y.number) clear))
