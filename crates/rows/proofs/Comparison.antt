-- Two rows compared: cell by cell, and their outcomes.
use Prim.Native.Nat.{ℕ, ◌≤◌, ◌<◌}
use mathlib.Core.Path.{◌≡◌, refl, ap}
use mathlib.Core.Bool.{true, ◌&&◌}
use mathlib.Core.List.{List, [], ◌∷◌, map}
use lib.Dec.{eqb}
use borrow.Author.Tests.{lt-ltb, le-ltb}
use native.Mathlib.Omega.{arith}
use Rattle.std.specs.List.{list_all, zip}
use Rattle.answers.proofs.Claims.{from_number_lem}
use Rattle.rows.specs.Meaning.{cell_of, cells_share, overlap}

-- the tests of two cells
pub cells_share-left : (c d : ℕ) → 4 ≤ c → true ≡ cells_share (cell_of c) (cell_of d)
cells_share-left c d h = rw (le-ltb c 4 h)

pub cells_share-right : (c d : ℕ) → c < 4 → 4 ≤ d → true ≡ cells_share (cell_of c) (cell_of d)
cells_share-right c d h k = rw (lt-ltb c 4 h, le-ltb d 4 k)

pub cells_share_both : (c d : ℕ) → c < 4 → d < 4 → eqb c d ≡ cells_share (cell_of c) (cell_of d)
cells_share_both c d h k = rw (lt-ltb c 4 h, lt-ltb d 4 k, from_number_lem c (omega arith), from_number_lem d (omega arith))

pub ruleset share_laws = (cells_share-left, cells_share-right, cells_share_both)

-- two rows of cells side by side
pub list_all-overlap :
    (p q : List ℕ) →
    list_all (λ x. cells_share (cell_of x.0) (cell_of x.1)) (zip p q) ≡ overlap (map cell_of p) (map cell_of q)
unfolding overlap
list_all-overlap [] q = refl
list_all-overlap (c ∷ p) [] = refl
list_all-overlap (c ∷ p) (d ∷ q) = ap (λ b. cells_share (cell_of c) (cell_of d) && b) (list_all-overlap p q)
