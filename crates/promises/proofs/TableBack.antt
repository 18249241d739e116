-- A table back from a node array, which document 02 asks for: the bytes written are those of the one table that lists what the array
-- answers; it says so, it compiles to an array that answers alike, and from there the same bytes are written again.
use Prim.Native.Nat.{ℕ, ◌+◌, ◌*◌, ◌≤◌}
use mathlib.Core.Path.{◌≡◌, refl, ap, ap₂, subst, sym, ◌∙◌}
use mathlib.Core.Bool.{Bool, true, false, cond}
use mathlib.Core.List.{List}
use lib.Dec.{ltb}
use lib.ListN.{length, take, drop, replicate, length-map}
use lib.Seq.{take_at, drop_at}
use borrow.Author.Tests.{eq-eqb}
use Rattle.refusals.specs.Meaning.{none, refused, ROOM}
use Rattle.answers.specs.Meaning.{from_number, succeed}
use Rattle.answers.specs.declared.Answer.{Answer}
use Rattle.situations.specs.Meaning.{fault, answers_of}
use Rattle.defaults.specs.Meaning.{unwritten, default_answer}
use Rattle.tables.specs.Meaning.{Table, WellFormed, Consistent, says, table_bytes, table_of, read_of}
use Rattle.accepting.proofs.TableEncoding.{write_table}
use Rattle.formula.specs.Meaning.{table_size}
use Rattle.nodes.specs.Meaning.{evaluate_of}
use Rattle.running.proofs.Heights.{evaluate-columns}
use Rattle.compiler.specs.Meaning.{Compiled, refuse_compiled, compile_of}
use Rattle.growth.specs.Meaning.{answer_at, growth_of}
use Rattle.listing.specs.Meaning.{Written}
use Rattle.untable.specs.Meaning.{table_back, untable_of}
use Rattle.recovering.specs.Meaning.{Lists, answered, Alike}
use Rattle.recovering.proofs.Listed as listed
use Rattle.recovering.proofs.OnlyList.{lists_only}
use Rattle.recovering.proofs.Evaluated as evaluated
use Rattle.recovering.proofs.Replies as replies
use Rattle.recovering.proofs.AlikeArrays as alike
use Rattle.promises.specs.Meaning.{Accepts, Compiles, nodes_written, GivesBack, lent_back, bytes_back}
use Rattle.promises.proofs.Demand2Tables.{accepted_exactly, tree_says}
use Rattle.promises.proofs.Defaults.{as_before_at_most}

-- What evaluating an array answers, in a word that takes a situation's answers.
pub answers_evaluated : (nodes s : List ℕ) → (fault s).number ≡ 0 → (evaluate_of nodes s).answer ≡ answer_at nodes (answers_of s)
answers_evaluated = evaluated.evaluate-answers

-- Arrays that get the same reply at every situation of n columns are given back alike: the same reply, and the same lent bytes.
pub back_alike :
    (nodes others : List ℕ) (n : ℕ) →
    Alike nodes others n →
    (lent : List ℕ) →
    (untable_of nodes n (length lent) ≡ untable_of others n (length lent)) × (lent_back nodes n lent ≡ lent_back others n lent)
unfolding lent_back
back_alike nodes others n e lent = (
  alike.untable-alike nodes others n e (length lent),
  alike.written-alike nodes others n e (length lent) lent,
)

module _ (nodes : List ℕ) (n : ℕ) (lent : List ℕ) (given : GivesBack nodes n lent) where
  abbrev bytes : List ℕ
  bytes = bytes_back nodes n lent

  abbrev back : Table
  back = table_of (bytes_back nodes n lent)

  -- the array evaluates, few situations get an answer, and the lent buffer is long enough
  fits :
      ((evaluate_of nodes (replicate n 0)).refusal.number ≡ 0)
      × (answered (answer_at nodes) n ≤ 64)
      × (4 + answered (answer_at nodes) n * (n + 4) ≤ length lent)
  unfolding GivesBack
  fits = (replies.given_exactly nodes n (length lent)).0 given

  columns : (1 ≤ n) × (n ≤ 6)
  columns = evaluate-columns nodes n fits.0

  formed : WellFormed (table_back nodes n)
  formed = listed.listed_formed (answer_at nodes) n columns.1 columns.0 fits.1

  replied_length : (untable_of nodes n (length lent)).length ≡ 4 + answered (answer_at nodes) n * (n + 4)
  replied_length = ap (λ (x : Written). x.length) (replies.untable-given nodes n (length lent) fits.0 fits.1 fits.2)

  table_length : length (table_bytes (table_back nodes n)) ≡ (untable_of nodes n (length lent)).length
  table_length = listed.listed-bytes (answer_at nodes) n columns.1 ∙ sym replied_length

  front : bytes ≡ table_bytes (table_back nodes n)
  unfolding GivesBack lent_back bytes_back
  front =
      rw (replies.written-given (table_back nodes n) (untable_of nodes n (length lent)) lent given)
      (take_at (table_bytes (table_back nodes n)) (drop (length (table_bytes (table_back nodes n))) lent) _ table_length)

  bytes-length : length bytes ≡ 4 + answered (answer_at nodes) n * (n + 4)
  bytes-length = ap length front ∙ table_length ∙ replied_length

  same : back ≡ table_back nodes n
  same = ap table_of front ∙ write_table (table_back nodes n) formed

  same_rows : back.rows ≡ (table_back nodes n).rows
  same_rows = ap (λ (t : Table). t.rows) same

  -- The bytes are the encoding of a well-formed, consistent table of n columns without a default field.
  pub back_encodes : (bytes ≡ table_bytes back) × WellFormed back × Consistent back × (back.columns ≡ n) × (back.default ≡ unwritten)
  back_encodes = (
    front ∙ ap table_bytes (sym same),
    subst WellFormed (sym same) formed,
    subst Consistent (sym same) (listed.listed_consistent (answer_at nodes) n columns.1),
    ap (λ (t : Table). t.columns) same,
    ap (λ (t : Table). t.default) same,
  )

  -- It has one row for every situation with an answer other than silent, with that answer as its outcome, in base-4 order, and no
  -- other row; no other table is such a one.
  pub back_lists : Lists (answer_at nodes) n back.rows
  back_lists = rw same_rows (listed.listed_lists (answer_at nodes) n columns.1)

  pub back_lists_only : (t : Table) → t.columns ≡ n → t.default ≡ unwritten → Lists (answer_at nodes) n t.rows → t ≡ back
  back_lists_only t wide plain lists =
      ap (λ m. record { columns = m; default = t.default; rows = t.rows }) wide
      ∙ ap₂ (λ d rows. record { columns = n; default = d; rows = rows }) plain (lists_only (answer_at nodes) n columns.1 t.rows lists)
      ∙ sym same

  pub back_rows_count : length back.rows ≡ answered (answer_at nodes) n
  back_rows_count = rw same_rows (listed.listed-rows (answer_at nodes) n)

  -- The reply tells how many bytes they are, they fit, and the lent bytes behind them are as they were.
  pub back_length :
      ((untable_of nodes n (length lent)).length ≡ length bytes)
      × (length bytes ≡ 4 + length back.rows * (n + 4))
      × (length bytes ≤ length lent)
  back_length = (
    replied_length ∙ sym bytes-length,
    bytes-length ∙ ap (λ rows. 4 + rows * (n + 4)) (sym back_rows_count),
    rw bytes-length fits.2,
  )

  pub back_rest : drop (length bytes) (lent_back nodes n lent) ≡ drop (length bytes) lent
  unfolding GivesBack lent_back
  back_rest =
      rw (front, replies.written-given (table_back nodes n) (untable_of nodes n (length lent)) lent given)
      (drop_at (table_bytes (table_back nodes n)) (drop (length (table_bytes (table_back nodes n))) lent) _ refl)

  -- What the table says of a situation of n columns is what the array answers, and evaluating the array succeeds there.
  pub back_answers : (s : List Answer) → length s ≡ n → says back s ≡ answer_at nodes s
  back_answers s long = ap (λ t. says t s) same ∙ listed.listed-says (answer_at nodes) n columns.1 s long

  pub back_says : (s : List ℕ) → (fault s).number ≡ 0 → length s ≡ n → evaluate_of nodes s ≡ succeed (says back (answers_of s))
  back_says s h long =
      evaluated.evaluate_anywhere nodes s h (rw long fits.0)
      ∙ ap succeed (sym (back_answers (answers_of s) (length-map s from_number ∙ long)))

  -- The bytes are accepted as a table. Compiling them is refused where there is less room than the formula says, and not otherwise; at
  -- most 4,223 nodes are needed.
  pub back_accepted : Accepts bytes
  back_accepted = (accepted_exactly bytes).1 (back, back_encodes.1, back_encodes.2, sym back_encodes.0)

  pub back_compiles : (room : ℕ) → (compile_of bytes room).refusal ≡ cond (ltb room (table_size back)) (refused ROOM (table_size back)) none
  unfolding Accepts compile_of
  back_compiles room = rw (eq-eqb (read_of bytes).refusal.number 0 back_accepted) (go (ltb room (table_size back)) _ refl)
    where
      go :
          (short : Bool) (y : Compiled) →
          y.refusal ≡ none →
          (cond short (refuse_compiled (refused ROOM (table_size back))) y).refusal ≡ cond short (refused ROOM (table_size back)) none
      go true y e = refl
      go false y e = e

  pub back_size : table_size back ≤ 4223
  back_size = as_before_at_most back (ap default_answer back_encodes.4) back_encodes.1

  -- "It compiles to the same answers": where the bytes compile, the nodes written get the same replies ..
  module _ (more : List ℕ) (compiles : Compiles bytes more) where
    pub back_compiles_alike : Alike (nodes_written bytes more) nodes n
    back_compiles_alike s h long = tree_says bytes more compiles s h (long ∙ sym back_encodes.3) ∙ sym (back_says s h long)

    -- .. "and writing what was so compiled gives the same bytes again": whatever buffer is lent, the reply and the lent bytes are those
    -- that the first array gets.
    pub back_again :
        (other : List ℕ) →
        (untable_of (nodes_written bytes more) n (length other) ≡ untable_of nodes n (length other))
        × (lent_back (nodes_written bytes more) n other ≡ lent_back nodes n other)
    back_again = back_alike (nodes_written bytes more) nodes n back_compiles_alike

    -- The growth check replies to both alike.
    pub back_grows_alike : growth_of (nodes_written bytes more) n ≡ growth_of nodes n
    back_grows_alike = alike.growth-alike (nodes_written bytes more) nodes n back_compiles_alike

-- So where there is room for them, the same bytes.
pub back_same_bytes :
    (nodes : List ℕ) (n : ℕ) (lent : List ℕ) →
    GivesBack nodes n lent →
    (more : List ℕ) →
    Compiles (bytes_back nodes n lent) more →
    (other : List ℕ) →
    length (bytes_back nodes n lent) ≤ length other →
    GivesBack (nodes_written (bytes_back nodes n lent) more) n other
    × (bytes_back (nodes_written (bytes_back nodes n lent) more) n other ≡ bytes_back nodes n lent)
unfolding GivesBack bytes_back
back_same_bytes nodes n lent given more compiles other l = (
  ap (λ (x : Written). x.refusal.number) again.0 ∙ enough,
  ap₂ (λ (x : Written) written. take x.length written) again.0 again.1
      ∙ front nodes n other enough
      ∙ sym (front nodes n lent given),
)
  where
    again :
        (untable_of (nodes_written (bytes_back nodes n lent) more) n (length other) ≡ untable_of nodes n (length other))
        × (lent_back (nodes_written (bytes_back nodes n lent) more) n other ≡ lent_back nodes n other)
    again = back_again nodes n lent given more compiles other

    enough : (untable_of nodes n (length other)).refusal.number ≡ 0
    enough =
        let f = fits nodes n lent given in
        (replies.given_exactly nodes n (length other)).1 (f.0, f.1, rw (bytes-length nodes n lent given) at l)
