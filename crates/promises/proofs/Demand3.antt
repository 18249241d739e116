-- Demand 3, growth. Of any array: yes exactly when the law holds, a no is a true witness and the first, what was said stays under a yes.
-- The same of tables: the check on a table's compiled nodes says yes exactly when no merger of two situations loses what the table
-- says of one of them. So a laptop that was shut since spring does not win against a burial.
use Prim.Native.Nat.{ℕ, ◌<◌}
use mathlib.Core.Path.{◌≡◌, ap, sym}
use mathlib.Core.Logic.{◌↔◌, ◌⊎◌}
use mathlib.Core.List.{List, []}
use lib.Dec.{T}
use lib.ListN.{length, get_or, replicate, length-replicate}
use Rattle.answers.specs.Meaning.{Reply, contained}
use Rattle.answers.specs.declared.Answer.{Answer}
use Rattle.answers.specs.declared.Answer.TheVariants.{Bury, Keep, Clash}
use Rattle.situations.specs.Meaning.{merge, raises}
use Rattle.nodes.specs.Meaning.{evaluate_of}
use Rattle.growth.specs.Meaning.{answer_at, growth_of}
use Rattle.growing.specs.Meaning.{alone, Grows, Shows, Long, merged, strictly}
use Rattle.growing.proofs.Mergers.{failing_breaks, raises_cover}
use Rattle.growing.proofs.Verdicts as verdicts
use Rattle.growing.proofs.Histories as histories
use Rattle.situations.proofs.Silent.{silent_sound}
use Rattle.tables.specs.Meaning.{says, table_of}
use Rattle.accepting.proofs.TableEncoding.{read_formed, read_consistent}
use Rattle.selection.proofs.Replies.{accepted_read}
use Rattle.selection.proofs.Trees.{tree_run, tree_answers}
use Rattle.growing.proofs.Agreement.{grows_same, shows_same}
use Rattle.growing.proofs.Verdicts.{other_no}
use Rattle.promises.specs.Meaning.{Compiles, nodes_written}
use Rattle.promises.proofs.Demand2Tables.{accepted_writes_nodes}

-- A step is a cover: the answer before is contained in the answer after, is another one, and none lies strictly between.
pub step_is_cover :
    (a b : Answer) → T (raises a b) ↔ (T (strictly a b) × ((c : Answer) → T (strictly a c) → T (strictly c b) → ⊥))
step_is_cover = raises_cover

-- An array that evaluates gets a yes if and only if what it answers at any two situations is contained in what it
-- answers at their merger.
pub yes_exactly_when_it_grows :
    (nodes : List ℕ) (n : ℕ) →
    (evaluate_of nodes (replicate n 0)).refusal.number ≡ 0 →
    ((growth_of nodes n).verdict ≡ 1) ↔ Grows (answer_at nodes) n
yes_exactly_when_it_grows = verdicts.yes_exactly

-- A no shows, in the numbers of a situation and an answer, a step that fails, and no step before it fails.
pub no_shows_the_first : (nodes : List ℕ) (n : ℕ) → (growth_of nodes n).verdict ≡ 2 → Shows (answer_at nodes) n (growth_of nodes n)
no_shows_the_first = verdicts.no_first

-- The two situations of the broken law: the one shown, and the claim that the step adds, alone.
pub no_breaks_the_law :
    (nodes : List ℕ) (n : ℕ) (v : (growth_of nodes n).verdict ≡ 2) →
    let shown = no_shows_the_first nodes n v in
    T (contained
    (answer_at nodes shown.situation)
    (answer_at nodes (merge shown.situation (alone shown.situation (growth_of nodes n).column shown.answer)))) →
    ⊥
no_breaks_the_law nodes n v =
    let shown = no_shows_the_first nodes n v in
    failing_breaks (answer_at nodes) shown.situation (growth_of nodes n).column shown.answer shown.first.fails

-- Under a yes: a burial stays, and so does a keep, whatever claims are merged in.
module _ (nodes : List ℕ) (n : ℕ) (fine : (evaluate_of nodes (replicate n 0)).refusal.number ≡ 0) (yes : (growth_of nodes n).verdict ≡ 1) where
  pub burial_stays :
      (s t : List Answer) →
      length s ≡ n →
      length t ≡ n →
      answer_at nodes s ≡ Bury →
      (answer_at nodes (merge s t) ≡ Bury) ⊎ (answer_at nodes (merge s t) ≡ Clash)
  burial_stays = histories.bury_stays (answer_at nodes) n ((verdicts.yes_exactly nodes n fine).0 yes)

  pub keep_stays :
      (s t : List Answer) →
      length s ≡ n →
      length t ≡ n →
      answer_at nodes s ≡ Keep →
      (answer_at nodes (merge s t) ≡ Keep) ⊎ (answer_at nodes (merge s t) ≡ Clash)
  keep_stays = histories.keep_stays (answer_at nodes) n ((verdicts.yes_exactly nodes n fine).0 yes)

  -- A merged history of any length, in any order, has lost nothing of what was said of one of its situations.
  pub history_grows :
      (s : List Answer) (more : List (List Answer)) →
      length s ≡ n →
      Long n more →
      T (contained (answer_at nodes s) (answer_at nodes (merged s more)))
  history_grows = histories.history_first (answer_at nodes) n ((verdicts.yes_exactly nodes n fine).0 yes)

  pub history_keeps_each :
      (s : List Answer) (more : List (List Answer)) →
      length s ≡ n →
      Long n more →
      (k : ℕ) →
      k < length more →
      T (contained (answer_at nodes (get_or more k [])) (answer_at nodes (merged s more)))
  history_keeps_each = histories.history_member (answer_at nodes) n ((verdicts.yes_exactly nodes n fine).0 yes)

-- The same of a table that compiles, by the nodes that are written.
module _ (bytes lent : List ℕ) (accepted : Compiles bytes lent) where
  -- At every situation of the table's columns the nodes written answer what the table says.
  pub nodes_say : (s : List Answer) → length s ≡ (table_of bytes).columns → answer_at (nodes_written bytes lent) s ≡ says (table_of bytes) s
  unfolding Compiles nodes_written
  nodes_say s l =
      let read = accepted_read bytes (length lent) accepted in
      rw (accepted_writes_nodes bytes lent accepted).0
      (ap (λ (x : Reply). x.answer) (tree_run (table_of bytes) (read_formed bytes read) (read_consistent bytes read) s l))

  pub nodes_evaluate : (evaluate_of (nodes_written bytes lent) (replicate (table_of bytes).columns 0)).refusal.number ≡ 0
  unfolding Compiles nodes_written
  nodes_evaluate =
      let read = accepted_read bytes (length lent) accepted in
      let formed = read_formed bytes read in
      rw (accepted_writes_nodes bytes lent accepted).0
      (ap (λ (x : Reply). x.refusal.number)
      (tree_answers (table_of bytes) formed (read_consistent bytes read)
      (replicate (table_of bytes).columns 0)
      (rw (silent_sound (table_of bytes).columns formed.some-column formed.few-columns))
      (length-replicate {A = ℕ} (table_of bytes).columns 0)))

  -- Yes exactly when the law holds: what the table says of each of any two situations over its columns is contained in what it
  -- says of their merger.
  pub yes_exactly_when_the_table_grows :
      ((growth_of (nodes_written bytes lent) (table_of bytes).columns).verdict ≡ 1) ↔ Grows (says (table_of bytes)) (table_of bytes).columns
  yes_exactly_when_the_table_grows =
      let e = yes_exactly_when_it_grows (nodes_written bytes lent) (table_of bytes).columns nodes_evaluate in (
        λ v. grows_same (answer_at (nodes_written bytes lent)) (says (table_of bytes)) (table_of bytes).columns nodes_say (e.0 v),
        λ g. e.1
            (grows_same (says (table_of bytes)) (answer_at (nodes_written bytes lent)) (table_of bytes).columns (λ s l. sym (nodes_say s l)) g),
      )

  -- Every other verdict is a no ..
  pub no_otherwise :
      ((growth_of (nodes_written bytes lent) (table_of bytes).columns).verdict ≡ 1 → ⊥) →
      (growth_of (nodes_written bytes lent) (table_of bytes).columns).verdict ≡ 2
  no_otherwise = other_no (nodes_written bytes lent) (table_of bytes).columns nodes_evaluate

  -- .. and shows the first step at which what the table said is not contained in what it says after.
  pub no_shows_the_tables_first :
      ((growth_of (nodes_written bytes lent) (table_of bytes).columns).verdict ≡ 1 → ⊥) →
      Shows (says (table_of bytes)) (table_of bytes).columns (growth_of (nodes_written bytes lent) (table_of bytes).columns)
  no_shows_the_tables_first v =
      shows_same (answer_at (nodes_written bytes lent)) (says (table_of bytes)) (table_of bytes).columns
      (growth_of (nodes_written bytes lent) (table_of bytes).columns) nodes_say
      (no_shows_the_first (nodes_written bytes lent) (table_of bytes).columns (no_otherwise v))

  -- Under a table that got a yes ..
  module _ (yes : (growth_of (nodes_written bytes lent) (table_of bytes).columns).verdict ≡ 1) where
    grows : Grows (says (table_of bytes)) (table_of bytes).columns
    grows = yes_exactly_when_the_table_grows.0 yes

    -- .. a burial stays: with any more claims merged in the table says bury or clash;
    pub table_burial_stays :
        (s t : List Answer) →
        length s ≡ (table_of bytes).columns →
        length t ≡ (table_of bytes).columns →
        says (table_of bytes) s ≡ Bury →
        (says (table_of bytes) (merge s t) ≡ Bury) ⊎ (says (table_of bytes) (merge s t) ≡ Clash)
    table_burial_stays = histories.bury_stays (says (table_of bytes)) (table_of bytes).columns grows

    -- a keep stays, or shows as a clash;
    pub table_keep_stays :
        (s t : List Answer) →
        length s ≡ (table_of bytes).columns →
        length t ≡ (table_of bytes).columns →
        says (table_of bytes) s ≡ Keep →
        (says (table_of bytes) (merge s t) ≡ Keep) ⊎ (says (table_of bytes) (merge s t) ≡ Clash)
    table_keep_stays = histories.keep_stays (says (table_of bytes)) (table_of bytes).columns grows

    -- and a history of any length, merged one after another, contains what the table says of each of its situations.
    pub table_history_grows :
        (s : List Answer) (more : List (List Answer)) →
        length s ≡ (table_of bytes).columns →
        Long (table_of bytes).columns more →
        T (contained (says (table_of bytes) s) (says (table_of bytes) (merged s more)))
    table_history_grows = histories.history_first (says (table_of bytes)) (table_of bytes).columns grows

    pub table_history_keeps_each :
        (s : List Answer) (more : List (List Answer)) →
        length s ≡ (table_of bytes).columns →
        Long (table_of bytes).columns more →
        (k : ℕ) →
        k < length more →
        T (contained (says (table_of bytes) (get_or more k [])) (says (table_of bytes) (merged s more)))
    table_history_keeps_each = histories.history_member (says (table_of bytes)) (table_of bytes).columns grows
