-- Rows match a situation exactly if one of them does.
use Prim.Native.Nat.{ℕ, zero, suc, ◌<◌}
use mathlib.Core.Path.{◌≡◌, refl, subst}
use mathlib.Core.Bool.{Bool, true, false, ◌||◌}
use mathlib.Core.List.{List, [], ◌∷◌}
use lib.Dec.{T}
use lib.ListN.{length}
use native.Mathlib.Omega.{arith}
use Rattle.answers.specs.declared.Answer.{Answer}
use Rattle.rows.specs.Meaning.{Row, row, matches}
use Rattle.matching.specs.Meaning.{matched}

or-false : (a b : Bool) → a || b ≡ false → (a ≡ false) × (b ≡ false)
or-false true b h = absurd (subst T h tt)
or-false false b h = (refl, h)

pub matched-none :
    (rows : List Row) (s : List Answer) →
    matched rows s ≡ false →
    (i : ℕ) →
    i < length rows →
    T (matches (row rows i).cells s) →
    ⊥
unfolding matched
matched-none [] s h i l = absurd (omega (arith, l))
matched-none (r ∷ rows) s h zero l = λ m. subst T (or-false (matches r.cells s) (matched rows s) h).0 m
matched-none (r ∷ rows) s h (suc i) l =
    matched-none rows s (or-false (matches r.cells s) (matched rows s) h).1 i (omega arith)

pub none-matched :
    (rows : List Row) (s : List Answer) →
    ((i : ℕ) → i < length rows → T (matches (row rows i).cells s) → ⊥) →
    matched rows s ≡ false
unfolding matched
none-matched [] s h = refl
none-matched (r ∷ rows) s h =
    go (matches r.cells s) (h 0 (omega arith)) (none-matched rows s (λ i l. h (suc i) (omega (arith, l))))
  where
    go : (b : Bool) → (T b → ⊥) → matched rows s ≡ false → b || matched rows s ≡ false
    go true f e = absurd (f tt)
    go false f e = e
