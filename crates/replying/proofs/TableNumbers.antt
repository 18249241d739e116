-- The numbers of the checks in reading a table, one after another.
use Prim.Native.Nat.{ℕ, zero, suc, ◌+◌, ◌-◌, ◌≤◌, ◌<◌}
use mathlib.Core.Path.{◌≡◌, refl}
use mathlib.Core.Bool.{Bool, true, false, cond}
use mathlib.Core.List.{List}
use lib.Dec.{ltb, eqb}
use lib.ListN.{length, drop, get_or}
use borrow.Author.Tests.{eqb-true, ltb-true}
use native.Mathlib.Omega.{arith}
use Rattle.refusals.specs.Meaning.{Numbers, none, refused, after, SHORT, START, TAG, LEN, VALUE, ROWS, OVERLAP, ROOM}
use Rattle.fields.specs.Meaning.{short_header, short_value, first_above}
use Rattle.situations.specs.Meaning.{outside}
use Rattle.rows.specs.Meaning.{row_width, row_count, pair_fault, overlap_of, overlap_in, disagree_at, first_overlap}
use Rattle.faults.specs.Meaning.{columns_of, other_tag, row_too_many, other_length, cells_at, value_fault, columns_fault, row_fault}
use Rattle.defaults.specs.Meaning.{has_default, default_fault}
use Rattle.tables.specs.Meaning.{TableRead, behind_columns, rows_start, rows_part, table_of, refuse_table, accept_table, rows_from, fields_of, read_of}
use Rattle.formula.specs.Meaning.{table_size}
use Rattle.compiler.specs.Meaning.{Compiled, refuse_compiled, compile_of}
use Rattle.accepting.proofs.BelowOverlap.{fields_of-small}
use Rattle.replying.proofs.ReplyLaws.{either, Published, numbers-none, numbers-overlap, numbers-cond, first-each, replied_success, replied_numbers, replied_refuse, replied_after}
use Rattle.replying.specs.Meaning.{Replied}

columns_fault-numbers : (t : List ℕ) → Published (columns_fault t)
unfolding columns_fault
columns_fault-numbers t =
    numbers-cond (eqb (length t) 0) START 0 tt
    (numbers-cond (short_header t) SHORT 0 tt
    (numbers-cond (other_tag 1 t) START 0 tt
    (numbers-cond (other_length 1 t) LEN 0 tt
    (numbers-cond (short_value 1 t) SHORT 0 tt
    (numbers-cond (outside (columns_of t)) VALUE 3 tt numbers-none)))))

default_fault-numbers : (part : List ℕ) → Published (default_fault part)
unfolding default_fault
default_fault-numbers part =
    either Published (has_default part) _ none
    (numbers-cond (short_header part) SHORT 4 tt
    (numbers-cond (other_length 1 part) LEN 4 tt
    (numbers-cond (short_value 1 part) SHORT 4 tt
    (numbers-cond (ltb 3 (get_or part 3 0)) VALUE 7 tt numbers-none))))
    numbers-none

row_fault-numbers : (left n at : ℕ) (rows : List ℕ) → Published (row_fault left n at rows)
unfolding row_fault value_fault
row_fault-numbers left n at rows =
    let k = first_above 4 (cells_at n rows) in
    numbers-cond (short_header rows) SHORT at tt
    (numbers-cond (other_tag 2 rows) TAG at tt
    (numbers-cond (row_too_many left) ROWS at tt
    (numbers-cond (other_length (n + 1) rows) LEN at tt
    (numbers-cond (short_value (n + 1) rows) SHORT at tt
    (numbers-cond (ltb k n) VALUE (at + (3 + k)) tt
    (numbers-cond (ltb 3 (get_or rows (3 + n) 0)) VALUE (at + (3 + n)) tt numbers-none))))))

-- a pair of rows is refused by OVERLAP or not at all
first_overlap-each :
    (P : Numbers → Type 0) →
    P none →
    ((later earlier : ℕ) → P (record { number = OVERLAP; place = later; second = earlier })) →
    (n : ℕ) (rows : List ℕ) →
    P (first_overlap n rows)
unfolding overlap_in overlap_of
first_overlap-each P h k n rows =
    first-each P (overlap_of (disagree_at n rows)) h
    (λ later. first-each P (pair_fault (disagree_at n rows) later) h
    (λ earlier. either P (disagree_at n rows later earlier) (record { number = OVERLAP; place = later; second = earlier }) none
    (k later earlier) h) later)
    (row_count n rows)

abbrev pub Read : TableRead → Type 0
Read x = Replied (λ (x : TableRead). x.refusal) refuse_table x

read_refuse : (r : Numbers) → Published r → Read (refuse_table r)
read_refuse = replied_refuse (λ (x : TableRead). x.refusal) refuse_table (λ r. refl)

read_after : (check : Numbers) (x : TableRead) → Published check → Read x → Read (after check refuse_table x)
read_after = replied_after (λ (x : TableRead). x.refusal) refuse_table (λ r. refl)

read_accept : (n rows : ℕ) → Read (accept_table n rows)
read_accept n rows = replied_success (λ (x : TableRead). x.refusal) refuse_table (accept_table n rows) refl

rows_from_read : (left n at : ℕ) (rows : List ℕ) → Read (rows_from left n at rows)
unfolding rows_from
rows_from_read zero n at rows =
    either Read (eqb (length rows) 0) (accept_table n 64) (refuse_table (row_fault zero n at rows)) (read_accept n 64)
    (read_refuse (row_fault zero n at rows) (row_fault-numbers zero n at rows))
rows_from_read (suc left) n at rows =
    let next = rows_from left n (at + row_width n) (drop (row_width n) rows) in
    let check = row_fault (suc left) n at rows in
    either Read (eqb (length rows) 0) (accept_table n (64 - suc left)) (after check refuse_table next) (read_accept n (64 - suc left))
    (read_after check next (row_fault-numbers (suc left) n at rows) (rows_from_read left n (at + row_width n) (drop (row_width n) rows)))

fields_of_read : (t : List ℕ) → Read (fields_of t)
unfolding fields_of
fields_of_read t =
    let rows = rows_from 64 (columns_of t) (rows_start t) (rows_part t) in
    let default = default_fault (behind_columns t) in
    read_after (columns_fault t) (after default refuse_table rows) (columns_fault-numbers t)
    (read_after default rows (default_fault-numbers (behind_columns t)) (rows_from_read 64 (columns_of t) (rows_start t) (rows_part t)))

pub read_of_read : (t : List ℕ) → Read (read_of t)
unfolding read_of
read_of_read t =
    read_after (fields_of t).refusal (after (first_overlap (columns_of t) (rows_part t)) refuse_table (fields_of t))
    (replied_numbers (λ (x : TableRead). x.refusal) refuse_table (fields_of t) (fields_of_read t))
    (read_after (first_overlap (columns_of t) (rows_part t)) (fields_of t)
    (first_overlap-each Published numbers-none numbers-overlap (columns_of t) (rows_part t))
    (fields_of_read t))

-- reading refuses by no number above OVERLAP
abbrev Low : Numbers → Type 0
Low r = r.number ≤ 7

abbrev LowRead : TableRead → Type 0
LowRead x = Low x.refusal

pub read_of-low : (t : List ℕ) → (read_of t).refusal.number ≤ 7
unfolding read_of
read_of-low t =
    let few : Low (fields_of t).refusal = let six = fields_of-small t in omega arith in
    let overlaps : Numbers = first_overlap (columns_of t) (rows_part t) in
    let low : Low overlaps = first_overlap-each Low (omega arith) (λ later earlier. omega arith) (columns_of t) (rows_part t) in
    either LowRead (eqb (fields_of t).refusal.number 0) (after overlaps refuse_table (fields_of t)) (refuse_table (fields_of t).refusal)
    (either LowRead (eqb overlaps.number 0) (fields_of t) (refuse_table overlaps) few low)
    few

-- so ROOM is the compiler's: the table is read, and its count exceeds the room
pub short-room :
    (t : List ℕ) (room : ℕ) →
    (compile_of t room).refusal.number ≡ ROOM →
    ((read_of t).refusal.number ≡ 0) × (room < table_size (table_of t)) × ((compile_of t room).refusal ≡ refused ROOM (table_size (table_of t)))
unfolding compile_of
short-room t room = go (eqb (read_of t).refusal.number 0) refl (ltb room (table_size (table_of t))) refl
  where
    size : ℕ
    size = table_size (table_of t)

    reply : Bool → Bool → Compiled
    reply read short =
        cond read
        (cond short (refuse_compiled (refused ROOM size))
        (record { refusal = none; columns = (read_of t).columns; rows = (read_of t).rows; nodes = size }))
        (refuse_compiled (read_of t).refusal)

    go :
        (b : Bool) →
        eqb (read_of t).refusal.number 0 ≡ b →
        (c : Bool) →
        ltb room size ≡ c →
        (reply b c).refusal.number ≡ ROOM →
        ((read_of t).refusal.number ≡ 0) × (room < size) × ((reply b c).refusal ≡ refused ROOM size)
    go false e c f h = absurd (let low = read_of-low t in omega (arith, h, low))
    go true e true f h = (eqb-true (read_of t).refusal.number 0 e, ltb-true room size f, refl)
    go true e false f h = absurd (omega (arith, h))
