-- Words in which the promises are said.
use Rattle.std.specs.Prelude.{ℕ, ◌<◌, ◌≡◌, List, [], ◌∷◌, ◌++◌, T, length, take, replicate}
use borrow.Fn.Kinds.{ParamKind, ResultKind, In, Out, Dens, res_t, ended_of}
use denote.Triple.Clauses.{AtExit}
use contract.Lifetimes.{Lfts, Within}
use borrow.Kind.ShrSlice.{r_shr_s}
use borrow.Table.Referent.{rt_f, f_int}
use Rattle.std.specs.Int.{w8}
use Rattle.refusals.specs.Meaning.{Numbers, none}
use Rattle.answers.specs.declared.Answer.{Answer}
use Rattle.answers.specs.declared.Answer.TheVariants.{Silent, Bury}
use Rattle.situations.specs.declared.Situation.{Situation}
use Rattle.situations.specs.Meaning.{merge_of}
use Rattle.rows.specs.Meaning.{is, any, Row, row, matches}
use Rattle.defaults.specs.Meaning.{unwritten, default_answer}
use Rattle.tables.specs.Meaning.{Table, read_of, table_of}
use Rattle.formula.specs.Meaning.{added_rows, table_nodes}
use Rattle.compiler.specs.Meaning.{compile_of, written_of}
use Rattle.replying.specs.Meaning.{published}
use Rattle.text.specs.declared.pages.Page.{Page}
use Rattle.listing.specs.Meaning as listing
use Rattle.untable.specs.Meaning.{table_back, untable_of}

-- "Prove that any two outcomes allowed by it are equal": the results of a function that lends out no memory to be written.
-- `Post` is the function's own contract: its `ensures`, of the arguments, the result and the arguments at exit.
pub record Determined {n : ℕ} (ps : List (ParamKind n)) (r : ResultKind n) (Post : Out n ps r) : Type 0 where
  pub result :
      (κs : Lfts n) (a : Dens κs ps) (x y : (res_t r κs).Denot) (s t : AtExit (ended_of n ps r) κs) →
      Post κs a x s →
      Post κs a y t →
      x ≡ y

-- The same of a function that hands back a part of the bytes it was lent: what the part's bytes are.
abbrev pub BytesPart : (n j : ℕ) → Within n j → ResultKind n
BytesPart n j ok = r_shr_s (rt_f (f_int w8)) j ok

pub record DeterminedPart {n : ℕ} (ps : List (ParamKind n)) (j : ℕ) (ok : Within n j) (Post : Out n ps (BytesPart n j ok)) : Type 0 where
  pub bytes :
      (κs : Lfts n) (a : Dens κs ps) (x y : (res_t {n = n} (BytesPart n j ok) κs).Denot) (s t : AtExit (ended_of n ps (BytesPart n j ok)) κs) →
      Post κs a x s →
      Post κs a y t →
      x.now ≡ y.now

-- The same of a function that writes into lent memory: what it returns, and the lent bytes at its exit.
pub record DeterminedLent
    {n : ℕ}
    (ps : List (ParamKind n))
    (r : ResultKind n)
    (Post : Out n ps r)
    (exit : (κs : Lfts n) → AtExit (ended_of n ps r) κs → List ℕ) :
    Type 0 where
  pub result :
      (κs : Lfts n) (a : Dens κs ps) (x y : (res_t r κs).Denot) (s t : AtExit (ended_of n ps r) κs) →
      Post κs a x s →
      Post κs a y t →
      x ≡ y
  pub lent :
      (κs : Lfts n) (a : Dens κs ps) (x y : (res_t r κs).Denot) (s t : AtExit (ended_of n ps r) κs) →
      Post κs a x s →
      Post κs a y t →
      exit κs s ≡ exit κs t

-- The same of a function that makes a page on lent memory, and of one that writes on a page: every byte of the buffer that the page is
-- on, which buffer that is (so that it is the lent one in all outcomes or in none), and the next place.
pub record DeterminedMade
    {n : ℕ}
    (ps : List (ParamKind n))
    (r : ResultKind n)
    (Post : Out n ps r)
    (page : (κs : Lfts n) → (res_t r κs).Denot → Page) :
    Type 0 where
  pub lent :
      (κs : Lfts n) (a : Dens κs ps) (x y : (res_t r κs).Denot) (s t : AtExit (ended_of n ps r) κs) →
      Post κs a x s →
      Post κs a y t →
      (page κs x).text.now ≡ (page κs y).text.now
  pub same :
      (κs : Lfts n) (a : Dens κs ps) (x y : (res_t r κs).Denot) (s t : AtExit (ended_of n ps r) κs) →
      Post κs a x s →
      Post κs a y t →
      (page κs x).text.ghost_name ≡ (page κs y).text.ghost_name
  pub next :
      (κs : Lfts n) (a : Dens κs ps) (x y : (res_t r κs).Denot) (s t : AtExit (ended_of n ps r) κs) →
      Post κs a x s →
      Post κs a y t →
      (page κs x).next ≡ (page κs y).next

pub record DeterminedPage
    {n : ℕ}
    (ps : List (ParamKind n))
    (r : ResultKind n)
    (Post : Out n ps r)
    (exit : (κs : Lfts n) → AtExit (ended_of n ps r) κs → Page) :
    Type 0 where
  pub lent :
      (κs : Lfts n) (a : Dens κs ps) (x y : (res_t r κs).Denot) (s t : AtExit (ended_of n ps r) κs) →
      Post κs a x s →
      Post κs a y t →
      (exit κs s).text.now ≡ (exit κs t).text.now
  pub same :
      (κs : Lfts n) (a : Dens κs ps) (x y : (res_t r κs).Denot) (s t : AtExit (ended_of n ps r) κs) →
      Post κs a x s →
      Post κs a y t →
      (exit κs s).text.ghost_name ≡ (exit κs t).text.ghost_name
  pub next :
      (κs : Lfts n) (a : Dens κs ps) (x y : (res_t r κs).Denot) (s t : AtExit (ended_of n ps r) κs) →
      Post κs a x s →
      Post κs a y t →
      (exit κs s).next ≡ (exit κs t).next

-- An entry point asks nothing: its `requires` is met by all arguments. `Pre` is the function's own, as the checker reads it off the source.
pub record AsksNothing {n : ℕ} (ps : List (ParamKind n)) (Pre : In n ps) : Type 0 where
  pub met : (κs : Lfts n) (a : Dens κs ps) → Pre κs a

-- Every situation by value has six bytes for answers.
unfoldable pub SixBytes : Situation → Type 0
SixBytes s = length s.answers ≡ 6

-- A merge that is not refused.
unfoldable pub Merges : Situation → Situation → Type 0
Merges s t = (merge_of s t).refusal.number ≡ 0

-- Bytes that the reader of tables takes.
unfoldable pub Accepts : List ℕ → Type 0
Accepts bytes = (read_of bytes).refusal.number ≡ 0

-- No row of a table matches a situation.
abbrev pub Unmatched : Table → List Answer → Type 0
Unmatched t s = (i : ℕ) → i < length t.rows → T (matches (row t.rows i).cells s) → ⊥

-- A table's default, as an answer, and the rows that it adds.
abbrev pub default_of : Table → Answer
default_of t = default_answer t.default

abbrev pub added_to : Table → List Row
added_to t = added_rows (default_of t) t.columns t.rows

-- A table that the compiler accepts with this lent buffer.
unfoldable pub Compiles : List ℕ → List ℕ → Type 0
Compiles bytes lent = (compile_of bytes (length lent)).refusal.number ≡ 0

-- The nodes that compiling leaves at the front of the lent buffer.
unfoldable pub nodes_written : List ℕ → List ℕ → List ℕ
nodes_written bytes lent = take (compile_of bytes (length lent)).nodes (written_of bytes lent)

-- A call that gives a table of n columns back.
unfoldable pub GivesBack : List ℕ → ℕ → List ℕ → Type 0
GivesBack nodes n lent = (untable_of nodes n (length lent)).refusal.number ≡ 0

-- The lent bytes after the call, and the bytes of the table at their front.
unfoldable pub lent_back : List ℕ → ℕ → List ℕ → List ℕ
lent_back nodes n lent = listing.written_of (table_back nodes n) (untable_of nodes n (length lent)) lent

unfoldable pub bytes_back : List ℕ → ℕ → List ℕ → List ℕ
bytes_back nodes n lent = take (untable_of nodes n (length lent)).length (lent_back nodes n lent)

-- The tables of the examples.
-- The nodes of the table that bytes are, and their number.
unfoldable pub nodes_of : List ℕ → List ℕ
nodes_of t = table_nodes (table_of t)

-- n=1, row 2 gives 2
unfoldable pub keep_at_keep : List ℕ
keep_at_keep = 1 ∷ 0 ∷ 1 ∷ 1 ∷ 2 ∷ 0 ∷ 2 ∷ 2 ∷ 2 ∷ []

-- n=1, row 0 gives 1
unfoldable pub bury_at_silent : List ℕ
bury_at_silent = 1 ∷ 0 ∷ 1 ∷ 1 ∷ 2 ∷ 0 ∷ 2 ∷ 0 ∷ 1 ∷ []

-- n=1, no rows
unfoldable pub no_rows : List ℕ
no_rows = 1 ∷ 0 ∷ 1 ∷ 1 ∷ []

-- n=1, row any gives 3
unfoldable pub clash_at_any : List ℕ
clash_at_any = 1 ∷ 0 ∷ 1 ∷ 1 ∷ 2 ∷ 0 ∷ 2 ∷ 4 ∷ 3 ∷ []

-- L: columns laptop and library
unfoldable pub laptop : List ℕ
laptop = 1 ∷ 0 ∷ 1 ∷ 2 ∷ 2 ∷ 0 ∷ 3 ∷ 1 ∷ 4 ∷ 1 ∷ 2 ∷ 0 ∷ 3 ∷ 2 ∷ 4 ∷ 2 ∷ 2 ∷ 0 ∷ 3 ∷ 3 ∷ 4 ∷ 3 ∷ 2 ∷ 0 ∷ 3 ∷ 0 ∷ 1 ∷ 1 ∷ 2 ∷ 0 ∷ 3 ∷ 0 ∷ 2 ∷ 2 ∷ 2 ∷ 0 ∷ 3 ∷ 0 ∷ 3 ∷ 3 ∷ []

-- The table that its nodes give back: n=2, a row for every situation but silent everywhere.
abbrev pub laptop_back : List ℕ
laptop_back =
    (1 ∷ 0 ∷ 1 ∷ 2 ∷ [])
    ++ (2 ∷ 0 ∷ 3 ∷ 0 ∷ 1 ∷ 1 ∷ [])
    ++ (2 ∷ 0 ∷ 3 ∷ 0 ∷ 2 ∷ 2 ∷ [])
    ++ (2 ∷ 0 ∷ 3 ∷ 0 ∷ 3 ∷ 3 ∷ [])
    ++ (2 ∷ 0 ∷ 3 ∷ 1 ∷ 0 ∷ 1 ∷ [])
    ++ (2 ∷ 0 ∷ 3 ∷ 1 ∷ 1 ∷ 1 ∷ [])
    ++ (2 ∷ 0 ∷ 3 ∷ 1 ∷ 2 ∷ 1 ∷ [])
    ++ (2 ∷ 0 ∷ 3 ∷ 1 ∷ 3 ∷ 1 ∷ [])
    ++ (2 ∷ 0 ∷ 3 ∷ 2 ∷ 0 ∷ 2 ∷ [])
    ++ (2 ∷ 0 ∷ 3 ∷ 2 ∷ 1 ∷ 2 ∷ [])
    ++ (2 ∷ 0 ∷ 3 ∷ 2 ∷ 2 ∷ 2 ∷ [])
    ++ (2 ∷ 0 ∷ 3 ∷ 2 ∷ 3 ∷ 2 ∷ [])
    ++ (2 ∷ 0 ∷ 3 ∷ 3 ∷ 0 ∷ 3 ∷ [])
    ++ (2 ∷ 0 ∷ 3 ∷ 3 ∷ 1 ∷ 3 ∷ [])
    ++ (2 ∷ 0 ∷ 3 ∷ 3 ∷ 2 ∷ 3 ∷ [])
    ++ (2 ∷ 0 ∷ 3 ∷ 3 ∷ 3 ∷ 3 ∷ [])

-- What document 01 prints for the laptop table, each line with its line feed: "columns 2", "rows 6", "nodes 65",
-- "growth no 0 1 column 0 to 2".
abbrev pub laptop_text : List ℕ
laptop_text =
    (99 ∷ 111 ∷ 108 ∷ 117 ∷ 109 ∷ 110 ∷ 115 ∷ 32 ∷ 50 ∷ 10 ∷ [])
    ++ (114 ∷ 111 ∷ 119 ∷ 115 ∷ 32 ∷ 54 ∷ 10 ∷ [])
    ++ (110 ∷ 111 ∷ 100 ∷ 101 ∷ 115 ∷ 32 ∷ 54 ∷ 53 ∷ 10 ∷ [])
    ++ (103 ∷ 114 ∷ 111 ∷ 119 ∷ 116 ∷ 104 ∷ 32 ∷ 110 ∷ 111 ∷ 32 ∷ 48 ∷ 32 ∷ 49 ∷ 32 ∷ 99 ∷ 111 ∷ 108 ∷ 117 ∷ 109 ∷ 110 ∷ 32 ∷ 48 ∷ 32 ∷ 116 ∷ 111 ∷ 32 ∷ 50 ∷ 10 ∷ [])

-- For an input of no bytes: "refused 2 0 0".
abbrev pub empty_text : List ℕ
empty_text = (114 ∷ 101 ∷ 102 ∷ 117 ∷ 115 ∷ 101 ∷ 100 ∷ 32 ∷ 50 ∷ 32 ∷ 48 ∷ 32 ∷ 48 ∷ 10 ∷ [])

-- For the table of one column and no rows: "columns 1", "rows 0", "nodes 1", "growth yes".
abbrev pub no_rows_text : List ℕ
no_rows_text =
    (99 ∷ 111 ∷ 108 ∷ 117 ∷ 109 ∷ 110 ∷ 115 ∷ 32 ∷ 49 ∷ 10 ∷ [])
    ++ (114 ∷ 111 ∷ 119 ∷ 115 ∷ 32 ∷ 48 ∷ 10 ∷ [])
    ++ (110 ∷ 111 ∷ 100 ∷ 101 ∷ 115 ∷ 32 ∷ 49 ∷ 10 ∷ [])
    ++ (103 ∷ 114 ∷ 111 ∷ 119 ∷ 116 ∷ 104 ∷ 32 ∷ 121 ∷ 101 ∷ 115 ∷ 10 ∷ [])

-- A table of 516 bytes: of four columns, silent everywhere gives 1, and 63 rows in which the first column 1 gives 0.
abbrev pub large_table : Table
large_table =
    record {
      columns = 4;
      default = unwritten;
      rows =
          record { cells = replicate 4 (is Silent); outcome = Bury }
          ∷ replicate 63 (record { cells = is Bury ∷ replicate 3 any; outcome = Silent });
    }

-- For it: "columns 4", "rows 64", "nodes 39", "growth no 0 0 0 0 column 0 to 1".
abbrev pub large_text : List ℕ
large_text =
    (99 ∷ 111 ∷ 108 ∷ 117 ∷ 109 ∷ 110 ∷ 115 ∷ 32 ∷ 52 ∷ 10 ∷ [])
    ++ (114 ∷ 111 ∷ 119 ∷ 115 ∷ 32 ∷ 54 ∷ 52 ∷ 10 ∷ [])
    ++ (110 ∷ 111 ∷ 100 ∷ 101 ∷ 115 ∷ 32 ∷ 51 ∷ 57 ∷ 10 ∷ [])
    ++ (103 ∷ 114 ∷ 111 ∷ 119 ∷ 116 ∷ 104 ∷ 32 ∷ 110 ∷ 111 ∷ 32 ∷ 48 ∷ 32 ∷ 48 ∷ 32 ∷ 48 ∷ 32 ∷ 48 ∷ 32 ∷ 99 ∷ 111 ∷ 108 ∷ 117 ∷ 109 ∷ 110 ∷ 32 ∷ 48 ∷ 32 ∷ 116 ∷ 111 ∷ 32 ∷ 49 ∷ 10 ∷ [])

-- Keep where the column is keep, else the default, bury.
unfoldable pub keep_else_bury : List ℕ
keep_else_bury = 1 ∷ 0 ∷ 1 ∷ 1 ∷ 3 ∷ 0 ∷ 1 ∷ 1 ∷ 2 ∷ 0 ∷ 2 ∷ 2 ∷ 2 ∷ []

-- For it: "columns 1", "rows 1", "nodes 30", "growth no 0 column 0 to 2".
abbrev pub keep_else_bury_text : List ℕ
keep_else_bury_text =
    (99 ∷ 111 ∷ 108 ∷ 117 ∷ 109 ∷ 110 ∷ 115 ∷ 32 ∷ 49 ∷ 10 ∷ [])
    ++ (114 ∷ 111 ∷ 119 ∷ 115 ∷ 32 ∷ 49 ∷ 10 ∷ [])
    ++ (110 ∷ 111 ∷ 100 ∷ 101 ∷ 115 ∷ 32 ∷ 51 ∷ 48 ∷ 10 ∷ [])
    ++ (103 ∷ 114 ∷ 111 ∷ 119 ∷ 116 ∷ 104 ∷ 32 ∷ 110 ∷ 111 ∷ 32 ∷ 48 ∷ 32 ∷ 99 ∷ 111 ∷ 108 ∷ 117 ∷ 109 ∷ 110 ∷ 32 ∷ 48 ∷ 32 ∷ 116 ∷ 111 ∷ 32 ∷ 50 ∷ 10 ∷ [])

-- For the table that needs the most nodes: "refused 8 200771 0".
abbrev pub most_text : List ℕ
most_text = (114 ∷ 101 ∷ 102 ∷ 117 ∷ 115 ∷ 101 ∷ 100 ∷ 32 ∷ 56 ∷ 32 ∷ 50 ∷ 48 ∷ 48 ∷ 55 ∷ 55 ∷ 49 ∷ 32 ∷ 48 ∷ 10 ∷ [])

-- The numbers of a batch's refusal, which stand beside its counts.
pub record WeekReplied (r : Numbers) : Type 0 where
  pub success : r.number ≡ 0 → r ≡ none
  pub refused : (r.number ≡ 0 → ⊥) → T (published r.number)
  pub second : r.second ≡ 0
