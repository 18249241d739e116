-- What a table says of a situation is the outcome of any row that matches it, and its default where none does.
use Prim.Native.Nat.{ℕ, zero, suc, ◌<◌}
use mathlib.Core.Path.{◌≡◌, refl, sym, ◌∙◌}
use mathlib.Core.Logic.{◌↔◌, ◌⊎◌, inl, inr, ⊎_elim}
use mathlib.Core.Bool.{Bool, true, false, cond}
use mathlib.Core.List.{List, [], ◌∷◌}
use lib.Dec.{T}
use lib.ListN.{length}
use native.Mathlib.Omega.{arith}
use Rattle.answers.specs.declared.Answer.{Answer}
use Rattle.defaults.specs.Meaning.{default_answer}
use Rattle.rows.specs.Meaning.{Row, row, matches}
use Rattle.tables.specs.Meaning.{Table, rows_say, says, Consistent}

-- without a row that matches rows say the default
pub says_none :
    (d : Answer) (rows : List Row) (s : List Answer) →
    ((i : ℕ) → i < length rows → T (matches (row rows i).cells s) → ⊥) →
    rows_say d rows s ≡ d
unfolding rows_say
says_none d [] s h = refl
says_none d (r ∷ rows) s h =
    go (matches r.cells s) (h 0 (omega arith)) (says_none d rows s (λ i l. h (suc i) (omega arith)))
  where
    go : (b : Bool) → (T b → ⊥) → rows_say d rows s ≡ d → cond b r.outcome (rows_say d rows s) ≡ d
    go true f e = absurd (f tt)
    go false f e = e

-- row i is a row, matches the situation, and gives what is said
pub record Said (d : Answer) (rows : List Row) (s : List Answer) (i : ℕ) : Type 0 where
  pub inside : i < length rows
  pub matched : T (matches (row rows i).cells s)
  pub gives : rows_say d rows s ≡ (row rows i).outcome

module _ (d : Answer) (r : Row) (rows : List Row) (s : List Answer) where
  said_here : matches r.cells s ≡ true → Said d (r ∷ rows) s 0
  unfolding rows_say
  said_here e = record { inside = omega arith; matched = rw e tt; gives = rw e }

  said_later : matches r.cells s ≡ false → (i : ℕ) → Said d rows s i → Said d (r ∷ rows) s (suc i)
  unfolding rows_say
  said_later e i w = record { inside = let l = w.inside in omega arith; matched = w.matched; gives = rw e w.gives }

  none_later :
      matches r.cells s ≡ false →
      ((i : ℕ) → i < length rows → T (matches (row rows i).cells s) → ⊥) →
      (i : ℕ) →
      i < length (r ∷ rows) →
      T (matches (row (r ∷ rows) i).cells s) →
      ⊥
  none_later e f zero l h = rw e at h
  none_later e f (suc i) l h = f i (omega arith) h

-- no row matches, or one does and gives what is said
pub says_either :
    (d : Answer) (rows : List Row) (s : List Answer) →
    ((i : ℕ) → i < length rows → T (matches (row rows i).cells s) → ⊥) ⊎ ((i : ℕ) × Said d rows s i)
says_either d [] s = inl (λ i l h. absurd (omega (arith, l)))
says_either d (r ∷ rows) s = go (matches r.cells s) refl (says_either d rows s)
  where
    go :
        (b : Bool) →
        matches r.cells s ≡ b →
        ((i : ℕ) → i < length rows → T (matches (row rows i).cells s) → ⊥) ⊎ ((i : ℕ) × Said d rows s i) →
        ((i : ℕ) → i < length (r ∷ rows) → T (matches (row (r ∷ rows) i).cells s) → ⊥) ⊎ ((i : ℕ) × Said d (r ∷ rows) s i)
    go true e w = inr (0, said_here d r rows s e)
    go false e (inl f) = inl (none_later d r rows s e f)
    go false e (inr w) = inr (suc w.0, said_later d r rows s e w.0 w.1)

module _ (t : Table) (c : Consistent t) (s : List Answer) (wide : length s ≡ t.columns) where
  abbrev default : Answer
  default = default_answer t.default

  -- any row that matches gives what the table says
  pub says_matching : (i : ℕ) → i < length t.rows → T (matches (row t.rows i).cells s) → (row t.rows i).outcome ≡ says t s
  says_matching i l h =
      ⊎_elim (λ f. absurd (f i l h))
      (λ w. c.agree i w.0 l w.1.inside s wide h w.1.matched ∙ sym w.1.gives)
      (says_either default t.rows s)

  -- it says its default exactly if no row matches or one that matches gives it
  pub says-default :
      (says t s ≡ default)
      ↔ (((i : ℕ) → i < length t.rows → T (matches (row t.rows i).cells s) → ⊥)
      ⊎ ((i : ℕ) × (i < length t.rows) × T (matches (row t.rows i).cells s) × ((row t.rows i).outcome ≡ default)))
  says-default = (
    λ e. ⊎_elim inl (λ w. inr (w.0, w.1.inside, w.1.matched, sym w.1.gives ∙ e)) (says_either default t.rows s),
    ⊎_elim (says_none default t.rows s) (λ w. sym (says_matching w.0 w.1 w.2) ∙ w.3),
  )
