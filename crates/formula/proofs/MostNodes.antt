-- No table needs more than 200,771 nodes, and one needs as many. The own rows of all situations have 196,608 with their joins. A
-- written row has 66 at the most, and the own row of a situation that it matches, which is spared for it, has nearly as many.
use Prim.Native.Nat.{ℕ, zero, suc, ◌+◌, ◌*◌, ◌^◌, ◌≤◌, ◌<◌}
use mathlib.Core.Path.{◌≡◌, refl, ◌∙◌}
use mathlib.Core.Bool.{Bool, true, false, cond}
use mathlib.Core.List.{List, [], ◌∷◌, map}
use lib.ListN.{length, replicate, length-append, length-map, get_or-replicate}
use borrow.Author.Tests.{eq-eqb}
use native.Mathlib.Nat.{mul-le-mul_left, mul-suc, pow-le-pow_right}
use native.Mathlib.Omega.{arith}
use Rattle.answers.specs.Meaning.{number}
use Rattle.answers.specs.declared.Answer.{Answer}
use Rattle.answers.specs.declared.Answer.TheVariants.{Silent, Bury, Keep, Clash}
use Rattle.answers.proofs.Every.{each, all3}
use Rattle.situations.specs.Meaning.{weight, index, situation_at}
use Rattle.situations.proofs.Numbers.{situation_at-length}
use Rattle.situations.proofs.Weights.{weight_power}
use Rattle.base4.specs.Meaning.{situations_from, situations_of}
use Rattle.base4.proofs.Listing.{situations_of-inside, situations_of_at}
use Rattle.rows.specs.Meaning.{Cell, is, any, Row, row, matches}
use Rattle.matching.specs.Meaning.{matched}
use Rattle.matching.proofs.SomeRow.{matched-none}
use Rattle.defaults.specs.Meaning.{written, default_answer}
use Rattle.tables.specs.Meaning.{Table, WellFormed, Consistent}
use Rattle.formula.specs.Meaning.{rows_left, own_row, own_rows, added_rows, table_rows}
use Rattle.formula.specs.Meaning.{selector_size, selector_sizes, total, size_of, row_size, rows_size, table_size}
use Rattle.formula.proofs.Shares.{total-append, total_at, total-most, cell_share, cell_shares, selectors_shares}
use Rattle.formula.proofs.Shares.{share, share_most, row_share, shares, rows_shares}
use Rattle.formula.proofs.Largest.{rows-most}
use Rattle.formula.proofs.Added.{each_row, added_rows_either, added_rows-few, added_rows-wide}
use Rattle.formula.proofs.OwnShares.{own_share, own_shares, column_share, own_shares_most}

-- a situation that a row matches: where the row has any, it has silent
abbrev example : Cell → Answer
example (is a) = a
example any = Silent

matches_example : (cells : List Cell) → matches cells (map example cells) ≡ true
unfolding matches
matches_example [] = refl
matches_example (is a ∷ cells) = rw (eq-eqb (number a) (number a) refl, matches_example cells)
matches_example (any ∷ cells) = matches_example cells

matched-row : (rows : List Row) (i : ℕ) (s : List Answer) → i < length rows → matches (row rows i).cells s ≡ true → matched rows s ≡ true
matched-row rows i s l h = go (matched rows s) refl
  where
    go : (b : Bool) → matched rows s ≡ b → b ≡ true
    go true e = refl
    go false e = absurd (matched-none rows s e i l (rw h tt))

own_share_lem : (d : Answer) (s : List Answer) → 1 ≤ length s → share (own_row d s) ≤ own_share d s
unfolding row_size selector_sizes size_of
own_share_lem d [] l = absurd (omega arith)
own_share_lem d (a ∷ s) l =
    let sizes = selectors_shares d (is a ∷ map is s) in
    omega (arith, share_most (own_row d (a ∷ s)))

-- By how much 64 times a selector's share may pass that of the default's selector in its place. 64 times, since the own row of a
-- situation is spared once, however many of 64 rows match it: each of them is held to a 64th of it.
abbrev over : Answer → ℕ
over Silent = 703
over Bury = 694
over Keep = 695
over Clash = 693

selector-over : (a d j : Answer) → 64 * suc (selector_size a j) ≤ over d + suc (selector_size a d)
unfolding selector_size
selector-over = all3 _ (search arith)

cells_over : (d j : Answer) (cells : List Cell) → 64 * cell_shares j cells ≤ over d * length cells + own_share d (map example cells)
unfolding total cell_share
cells_over d j [] = omega arith
cells_over d j (is a ∷ cells) =
    let rest = cells_over d j cells in omega (arith, selector-over a d j, mul-suc (over d) (length cells))
cells_over d j (any ∷ cells) = let rest = cells_over d j cells in omega (arith, mul-suc (over d) (length cells))

module _ (d : Answer) (rows : List Row) where
  -- the matched situations' own rows are not added
  unfoldable spare : List Answer → ℕ
  spare s = cond (matched rows s) (own_share d s) 0

  own_left :
      (n w m : ℕ) → 1 ≤ n →
      shares (own_rows d rows (situations_from n w m)) + total (map spare (situations_from n w m)) ≤ own_shares d (situations_from n w m)
  unfolding own_rows spare situations_from total
  own_left n w zero l = omega arith
  own_left n w (suc m) l =
      let s : List Answer = situation_at n w in
      let rest : List (List Answer) = situations_from n (suc w) m in
      go (matched rows s) s (own_rows d rows rest) (total (map spare rest)) (own_shares d rest) (own_left n (suc w) m l)
      (own_share_lem d s (rw (situation_at-length n w) l))
    where
      go : (b : Bool) (s : List Answer) (own : List Row) (x y : ℕ) → shares own + x ≤ y → share (own_row d s) ≤ own_share d s →
          shares (cond b own (own_row d s ∷ own)) + (cond b (own_share d s) 0 + x) ≤ own_share d s + y
      go true s own x y h l = omega arith
      go false s own x y h l = omega arith

  abbrev spared : ℕ → ℕ
  spared n = total (map spare (situations_of n))

  added-left : (n : ℕ) → 1 ≤ n → shares (added_rows d n rows) + spared n ≤ own_shares d (situations_of n)
  unfolding total
  added-left n l =
      let own = own_left n 0 (weight n) l in
      added_rows_either d rows n (λ added. shares added + spared n ≤ own_shares d (situations_of n)) (omega arith) own

  spared_most : (s : List Answer) → length s ≤ 6 → matched rows s ≡ true → own_share d s ≤ spared (length s)
  unfolding spare
  spared_most s l h = rw (situations_of_at s l, h) at (total_at spare (situations_of (length s)) (index s) [] (situations_of-inside s l))

  row-over :
      (n : ℕ) → n ≤ 6 →
      (i : ℕ) → i < length rows → length (row rows i).cells ≡ n →
      64 * share (row rows i) ≤ over d * 6 + spared n
  row-over n few i l e =
      let r : Row = row rows i in
      let s : List Answer = map example r.cells in
      let wide : length s ≡ n = length-map r.cells example ∙ e in
      let one = rw wide at (spared_most s (rw wide few) (matched-row rows i s l (matches_example r.cells))) in
      let cells = cells_over d r.outcome r.cells in
      let six : over d * length r.cells ≤ over d * 6 = mul-le-mul_left (over d) (rw e few) in
      row_share r (over d * 6 + spared n) (omega arith) (omega (arith, each (λ d. 128 ≤ over d * 6) (search arith) d))

pub nodes_most : (t : Table) → WellFormed t → table_size t ≤ 200771
unfolding table_size total cell_share selector_size
nodes_most t w =
    let d : Answer = default_answer t.default in
    let n : ℕ = t.columns in
    let k : ℕ = over d * 6 + spared d t.rows n in
    let one : (i : ℕ) → i < length t.rows → 64 * share (row t.rows i) ≤ k =
    λ i l. row-over d t.rows n w.few-columns i l (w.wide i l) in
    let all = total-most share k t.rows (record { cells = []; outcome = Silent }) one in
    let few = mul-le-mul_left k w.few-rows in
    let added = added-left d t.rows n w.some-column in
    let own = own_shares_most d n w.few-columns in
    let sum = each (λ d. 6144 * column_share d + over d * 6 ≤ 200772) (search arith) d in
    let both = total-append share t.rows (added_rows d n t.rows) in
    let most = rows_shares (table_rows t) 200772 (omega arith) (omega arith) in
    omega arith

-- up to three columns no table needs more than without a default: 64 written rows and 64 added ones, of 33 nodes with their joins
pub narrow-most : (t : Table) → WellFormed t → t.columns ≤ 3 → table_size t ≤ 4223
unfolding table_size
narrow-most t w three =
    let d : Answer = default_answer t.default in
    let added : List Row = added_rows d t.columns t.rows in
    let few = added_rows-few d t.rows t.columns in
    let power = weight_power t.columns w.few-columns in
    let situations : 4 ^ t.columns ≤ 4 ^ 3 = pow-le-pow_right {n = 4} (omega arith) three in
    let rows = w.few-rows in
    let both = length-append t.rows added in
    let narrow =
    each_row (λ r. length r.cells ≤ 3) t.rows added (λ i l. rw (w.wide i l) three)
    (λ i l. rw (added_rows-wide d t.rows t.columns i l) three) in
    let most = rows-most 3 (table_rows t) 128 (omega arith) (omega arith) (omega arith) narrow in
    omega arith

-- Six columns, a default of bury, and 64 times a row of six silent cells with the outcome clash.
abbrev clash_row : Row
clash_row = record { cells = replicate 6 (is Silent); outcome = Clash }

abbrev pub worst : Table
worst = record { columns = 6; default = written Bury; rows = replicate 64 clash_row }

worst_row : (i : ℕ) → i < 64 → row worst.rows i ≡ clash_row
worst_row i l = get_or-replicate 64 i clash_row (record { cells = []; outcome = Silent }) l

pub worst_formed : WellFormed worst
worst_formed = record { some-column = omega arith; few-columns = omega arith; few-rows = omega arith; wide = λ i l. rw (worst_row i l) }

pub worst_consistent : Consistent worst
worst_consistent = record { agree = λ i j l m s e p q. rw (worst_row i l, worst_row j m) }

pub nodes_reached : table_size worst ≡ 200771
unfolding table_size rows_size row_size size_of total selector_sizes selector_size rows_left added_rows own_rows matched matches
    situations_from situation_at
nodes_reached = refl
