-- A default other than silent, which document 02 adds to tables: what a table says where no row matches, which tables are as they were,
-- which rows are added, what the growth check makes of a default, and where a field of tag 3 is refused.
use Prim.Native.Nat.{ℕ, ◌≤◌, ◌<◌}
use mathlib.Core.Path.{◌≡◌, refl, ap, subst, subst₂, sym, ◌∙◌}
use mathlib.Core.Logic.{◌↔◌, ◌⊎◌, inl, inr, ⊎_elim}
use mathlib.Core.Bool.{false}
use mathlib.Core.List.{List, [], ◌∷◌, ◌++◌}
use lib.Dec.{T}
use lib.ListN.{length, take, replicate}
use borrow.Author.Tests.{ne_eqb}
use native.Mathlib.Omega.{arith}
use Rattle.refusals.specs.Meaning.{refused, SHORT, TAG, LEN, VALUE}
use Rattle.fields.specs.Meaning.{field, tag, two}
use Rattle.answers.specs.Meaning.{number, contained}
use Rattle.answers.specs.declared.Answer.{Answer}
use Rattle.answers.specs.declared.Answer.TheVariants.{Silent, Bury, Keep}
use Rattle.situations.specs.Meaning.{index, situation_at}
use Rattle.situations.proofs.Numbers.{situation_at-length}
use Rattle.rows.specs.Meaning.{row, matches}
use Rattle.defaults.specs.Meaning.{Default, unwritten, written, default_answer}
use Rattle.tables.specs.Meaning.{Table, WellFormed, Consistent, rows_say, says, table_bytes, table_of, refuse_table, read_of}
use Rattle.formula.specs.Meaning.{is_silent, rows_nodes, rows_size, own_row, table_rows, table_nodes, table_size}
use Rattle.formula.proofs.Largest as largest
use Rattle.formula.proofs.MostNodes.{worst, worst_formed, worst_consistent, nodes_reached}
use Rattle.accepting.proofs.SharedSituations.{some-situation}
use Rattle.accepting.proofs.Saying.{says_none, says_matching}
use Rattle.accepting.proofs.TableEncoding.{write_table, table_bytes-length, read_formed, read_consistent}
use Rattle.accepting.proofs.DefaultRefusals.{late_tag, default-length, default-value, default_cut}
use Rattle.selection.proofs.AddedRows as added
use Rattle.matching.proofs.SomeRow.{matched-none, none-matched}
use Rattle.selection.proofs.Answering.{silent_is}
use Rattle.selection.proofs.AllRows.{table_rows-say}
use Rattle.selection.proofs.Replies.{accepted_read}
use Rattle.growth.specs.Meaning.{growth_of}
use Rattle.growing.specs.Meaning.{Grows}
use Rattle.growing.proofs.Mergers.{grow_silent}
use Rattle.promises.specs.Meaning.{Accepts, Unmatched, default_of, added_to, Compiles, nodes_written}
use Rattle.promises.proofs.Demand2Tables.{accepted_exactly, accepted_writes_nodes, matching_rows_agree}
use Rattle.promises.proofs.Demand3.{yes_exactly_when_the_table_grows, no_otherwise}

-- A situation that no row matches gets the default ..
pub unmatched_says_default : (t : Table) (s : List Answer) → Unmatched t s → says t s ≡ default_of t
unmatched_says_default t s none = says_none (default_of t) t.rows s none

-- .. and in an accepted table a row that matches and whose outcome is silent answers silent, whatever the default.
pub silent_row_says_silent :
    (bytes : List ℕ) →
    Accepts bytes →
    (s : List Answer) →
    length s ≡ (table_of bytes).columns →
    (i : ℕ) →
    i < length (table_of bytes).rows →
    T (matches (row (table_of bytes).rows i).cells s) →
    (row (table_of bytes).rows i).outcome ≡ Silent →
    says (table_of bytes) s ≡ Silent
silent_row_says_silent bytes h s long i l m e = sym (matching_rows_agree bytes h s long i l m) ∙ e

-- The default is silent without the field, or where it says so.
pub silent_default_exactly : (d : Default) → (default_answer d ≡ Silent) ↔ ((d ≡ unwritten) ⊎ (d ≡ written Silent))
silent_default_exactly unwritten = (λ e. inl refl, λ e. refl)
silent_default_exactly (written a) = (λ e. inr (ap written e), ⊎_elim (λ e. ap default_answer e) (λ e. ap default_answer e))

-- A table whose default is silent is as document 01 has it: it says what its rows say, else silent; it has the nodes of its rows, as
-- many as document 01 counts, and so at most 4,223.
module _ (t : Table) (silent : default_of t ≡ Silent) where
  pub as_before_says : (s : List Answer) → says t s ≡ rows_say Silent t.rows s
  as_before_says s = ap (λ d. rows_say d t.rows s) silent

  pub as_before_nodes : table_nodes t ≡ rows_nodes t.rows
  as_before_nodes = largest.silent_nodes t silent

  pub as_before_count : table_size t ≡ rows_size t.rows
  as_before_count = largest.silent_size t silent

  pub as_before_at_most : WellFormed t → table_size t ≤ 4223
  as_before_at_most = largest.table_most t silent

-- So compiling writes just the nodes of the rows.
pub as_before_written :
    (bytes lent : List ℕ) →
    Compiles bytes lent →
    default_of (table_of bytes) ≡ Silent →
    nodes_written bytes lent ≡ rows_nodes (table_of bytes).rows
as_before_written bytes lent h silent = (accepted_writes_nodes bytes lent h).0 ∙ as_before_nodes (table_of bytes) silent

-- Six columns, a default of bury and 64 times a row of six silent cells that gives clash: it is accepted, and needs 200,771 nodes.
pub worst_accepted : Accepts (table_bytes worst)
worst_accepted = (accepted_exactly (table_bytes worst)).1 (worst, worst_formed, worst_consistent, refl)

pub worst_needs : table_size (table_of (table_bytes worst)) ≡ 200771
worst_needs = ap table_size (write_table worst worst_formed) ∙ nodes_reached

-- So some accepted table has 648 bytes and needs 200,771 nodes: none is longer, and none needs more.
pub longest_and_largest :
    (bytes : List ℕ) × Accepts bytes × (length bytes ≡ 648) × (table_size (table_of bytes) ≡ 200771)
longest_and_largest = (table_bytes worst, worst_accepted, table_bytes-length worst worst_formed, worst_needs)

-- The rows that are added to a well-formed table. They stand behind the written rows, and no row is added but that of a situation
-- that no row matches: its cells are that situation's answers, and its outcome is the default.
module _ (t : Table) (w : WellFormed t) where
  pub added-behind : table_rows t ≡ t.rows ++ added_to t
  added-behind = refl

  pub added-only :
      (i : ℕ) →
      i < length (added_to t) →
      (s : List Answer) × (length s ≡ t.columns) × Unmatched t s × (row (added_to t) i ≡ own_row (default_of t) s)
  added-only i l =
      let own = added.added_is (default_of t) t.columns t.rows w.few-columns i l in
      let s : List Answer = situation_at t.columns own.at in
      (s, situation_at-length t.columns own.at, matched-none t.rows s own.free, own.same)

  -- Where the default is not silent, they stand in base-4 order, and each such situation has exactly one.
  module _ (loud : default_of t ≡ Silent → ⊥) where
    not_silent : is_silent (default_of t) ≡ false
    not_silent = ne_eqb (number (default_of t)) 0 (λ e. loud (silent_is (default_of t) e))

    pub added_in_order :
        (i j : ℕ) →
        i < j →
        j < length (added_to t) →
        (s u : List Answer) →
        row (added_to t) i ≡ own_row (default_of t) s →
        row (added_to t) j ≡ own_row (default_of t) u →
        index s < index u
    added_in_order = added.added_rise (default_of t) t.columns t.rows w.few-columns not_silent

    pub added-once :
        (s : List Answer) →
        length s ≡ t.columns →
        Unmatched t s →
        (i : ℕ)
        × (i < length (added_to t))
        × (row (added_to t) i ≡ own_row (default_of t) s)
        × ((j : ℕ) → j < length (added_to t) → row (added_to t) j ≡ own_row (default_of t) s → j ≡ i)
    added-once s long none =
        added.added-once (default_of t) t.columns t.rows w.few-columns not_silent s long (none-matched t.rows s none)

  -- With these rows written out, the rule of document 01 gives what the table says.
  pub all_rows_say :
      Consistent t → (s : List Answer) → length s ≡ t.columns → rows_say Silent (table_rows t) s ≡ says t s
  all_rows_say c s long = table_rows-say t w s long c

-- In a table that grows and in which no row matches silent everywhere, every answer contains the default.
pub default-everywhere :
    (t : Table) →
    Grows (says t) t.columns →
    Unmatched t (replicate t.columns Silent) →
    (s : List Answer) →
    length s ≡ t.columns →
    T (contained (default_of t) (says t s))
default-everywhere t g none s long =
    subst (λ a. T (contained a (says t s))) (unmatched_says_default t (replicate t.columns Silent) none)
    (grow_silent (says t) t.columns g s long)

-- So "bury unless a line says otherwise" gets a no as soon as a line says keep, unless some line matches silent everywhere.
pub bury_default_gets_no :
    (bytes lent : List ℕ) →
    Compiles bytes lent →
    default_of (table_of bytes) ≡ Bury →
    Unmatched (table_of bytes) (replicate (table_of bytes).columns Silent) →
    (i : ℕ) →
    i < length (table_of bytes).rows →
    (row (table_of bytes).rows i).outcome ≡ Keep →
    (growth_of (nodes_written bytes lent) (table_of bytes).columns).verdict ≡ 2
unfolding Compiles
bury_default_gets_no bytes lent h bury none i l keep =
    let t = table_of bytes in
    let read = accepted_read bytes (length lent) h in
    let here = some-situation (row t.rows i).cells in
    let long : length here.situation ≡ t.columns = here.wide ∙ (read_formed bytes read).wide i l in
    let says-keep : says t here.situation ≡ Keep =
    sym (says_matching t (read_consistent bytes read) here.situation long i l here.one) ∙ keep in
    no_otherwise bytes lent h
    (λ yes.
    subst₂ (λ a b. T (contained a b)) bury says-keep
    (default-everywhere t ((yes_exactly_when_the_table_grows bytes lent h).0 yes) none here.situation long))

-- A second default, and one behind a row: behind the bytes of a table that has a default or a row the header of a field of tag 3 is
-- refused by TAG at its offset, whatever follows; behind 64 rows too.
pub late_default_refused :
    (t : Table) →
    WellFormed t →
    (t.default ≡ unwritten → 1 ≤ length t.rows) →
    (rest : List ℕ) →
    3 ≤ length rest →
    tag rest ≡ 3 →
    read_of (table_bytes t ++ rest) ≡ refuse_table (refused TAG (length (table_bytes t)))
late_default_refused t w begun rest whole three = late_tag t w begun rest whole (λ two. omega (arith, two, three))

-- Directly behind the columns a field of tag 3 whose length is not 1 is refused by LEN at its offset, 4 ..
pub default_length_refused :
    (n : ℕ) →
    1 ≤ n →
    n ≤ 6 →
    (high low : ℕ) (rest : List ℕ) →
    (two high low ≡ 1 → ⊥) →
    read_of (field 1 (n ∷ []) ++ (3 ∷ high ∷ low ∷ rest)) ≡ refuse_table (refused LEN 4)
default_length_refused = default-length

-- .. and one whose value is above 3 by VALUE at that byte, whatever follows.
pub default_value_refused :
    (n : ℕ) →
    1 ≤ n →
    n ≤ 6 →
    (v : ℕ) (rest : List ℕ) →
    3 < v →
    read_of (field 1 (n ∷ []) ++ field 3 (v ∷ []) ++ rest) ≡ refuse_table (refused VALUE 7)
default_value_refused = default-value

-- A table that ends within its default, wherever that is cut, is refused by SHORT at the field's offset.
pub default_cut_refused :
    (n : ℕ) →
    1 ≤ n →
    n ≤ 6 →
    (v k : ℕ) →
    1 ≤ k →
    k ≤ 3 →
    read_of (field 1 (n ∷ []) ++ take k (field 3 (v ∷ []))) ≡ refuse_table (refused SHORT 4)
default_cut_refused = default_cut
