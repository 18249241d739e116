-- What a row has of its table's nodes: its own and a join. So the table has one node less than its rows' shares come to.
use Prim.Native.Nat.{ℕ, zero, suc, ◌+◌, ◌*◌, ◌/◌, ◌≤◌, ◌<◌}
use mathlib.Core.Path.{◌≡◌, refl}
use mathlib.Core.Bool.{Bool, true, false, cond}
use mathlib.Core.List.{List, [], ◌∷◌, ◌++◌, map}
use lib.ListN.{length, get_or}
use native.Mathlib.Nat.{mul-suc}
use native.Mathlib.Omega.{arith}
use Rattle.answers.specs.declared.Answer.{Answer}
use Rattle.rows.specs.Meaning.{Cell, is, any, Row}
use Rattle.formula.specs.Meaning.{is_silent, rows_left, selector_size, selector_sizes, total, size_of, row_size, rows_size}

-- totals
pub total-append : {A : Type 0} (f : A → ℕ) (l m : List A) → total (map f (l ++ m)) ≡ total (map f l) + total (map f m)
unfolding total
total-append f [] m = omega arith
total-append f (x ∷ l) m = let rest = total-append f l m in omega arith

pub total_at : {A : Type 0} (f : A → ℕ) (l : List A) (i : ℕ) (x : A) → i < length l → f (get_or l i x) ≤ total (map f l)
unfolding total
total_at f [] i x h = absurd (omega arith)
total_at f (y ∷ l) zero x h = omega arith
total_at f (y ∷ l) (suc i) x h = let rest = total_at f l i x (omega arith) in omega arith

-- 64 times each is at most k: then 64 of them are together at most k
pub total-most :
    {A : Type 0} (f : A → ℕ) (k : ℕ) (l : List A) (x : A) →
    ((i : ℕ) → i < length l → 64 * f (get_or l i x) ≤ k) →
    64 * total (map f l) ≤ k * length l
unfolding total
total-most f k [] x h = omega arith
total-most f k (y ∷ l) x h =
    let rest = total-most f k l x (λ i q. h (suc i) (omega (arith, q))) in
    let first = h 0 (omega arith) in
    omega (arith, mul-suc k (length l))

size_of-most : (xs : List ℕ) (m : ℕ) → total xs + length xs ≤ m → 2 ≤ m → size_of xs + 1 ≤ m
unfolding size_of
size_of-most [] m h l = omega arith
size_of-most (x ∷ xs) m h l = omega arith

-- a selector and its meet
unfoldable pub cell_share : Answer → Cell → ℕ
cell_share j (is a) = suc (selector_size a j)
cell_share j any = 0

abbrev pub cell_shares : Answer → List Cell → ℕ
cell_shares j cells = total (map (cell_share j) cells)

pub selectors_shares :
    (j : Answer) (cells : List Cell) →
    total (selector_sizes j cells) + length (selector_sizes j cells) ≡ cell_shares j cells
unfolding selector_sizes total cell_share
selectors_shares j [] = refl
selectors_shares j (is a ∷ cells) = let rest = selectors_shares j cells in omega arith
selectors_shares j (any ∷ cells) = let rest = selectors_shares j cells in omega arith

-- a row and its join; nothing where it is left out
unfoldable pub share : Row → ℕ
share r = cond (is_silent r.outcome) 0 (row_size r + 1)

pub share_most : (r : Row) → share r ≤ row_size r + 1
unfolding share
share_most r = go (is_silent r.outcome)
  where
    go : (b : Bool) → cond b 0 (row_size r + 1) ≤ row_size r + 1
    go true = omega arith
    go false = omega arith

pub row_share : (r : Row) (k : ℕ) → 64 * cell_shares r.outcome r.cells ≤ k → 128 ≤ k → 64 * share r ≤ k
unfolding row_size
row_share r k h l =
    let sizes = selectors_shares r.outcome r.cells in
    let all = size_of-most (selector_sizes r.outcome r.cells) (k / 64) (omega arith) (omega arith) in
    omega (arith, share_most r)

abbrev pub shares : List Row → ℕ
shares rows = total (map share rows)

left_shares : (rows : List Row) → total (map row_size (rows_left rows)) + length (map row_size (rows_left rows)) ≡ shares rows
unfolding rows_left total share
left_shares [] = refl
left_shares (r ∷ rows) = go (is_silent r.outcome) (left_shares rows)
  where
    sum : List Row → ℕ
    sum rows = total (map row_size rows) + length (map row_size rows)

    go : (b : Bool) → sum (rows_left rows) ≡ shares rows →
        sum (cond b (rows_left rows) (r ∷ rows_left rows)) ≡ cond b 0 (row_size r + 1) + shares rows
    go true e = omega arith
    go false e = omega arith

pub rows_shares : (rows : List Row) (m : ℕ) → shares rows ≤ m → 2 ≤ m → rows_size rows + 1 ≤ m
unfolding rows_size
rows_shares rows m h l = size_of-most (map row_size (rows_left rows)) m (rw (left_shares rows) h) l
