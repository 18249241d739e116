-- Rows as nodes answer what the rows say: the join of what each row says alone, which is what the matching row says, else silent.
use Prim.Native.Nat.{ℕ, suc, ◌+◌, ◌≤◌, ◌<◌}
use mathlib.Core.Path.{◌≡◌, refl}
use mathlib.Core.Logic.{◌⊎◌, inl, inr}
use mathlib.Core.Bool.{Bool, true, false, cond}
use mathlib.Core.List.{List, [], ◌∷◌, map}
use lib.Dec.{T}
use lib.ListN.{length}
use borrow.Author.Tests.{eqb-true, eqb-false}
use native.Mathlib.Omega.{arith}
use Rattle.answers.specs.Meaning.{number, join}
use Rattle.answers.specs.declared.Answer.{Answer}
use Rattle.answers.specs.declared.Answer.TheVariants.{Silent, Bury, Keep, Clash}
use Rattle.answers.proofs.Every.{each}
use Rattle.answers.proofs.Laws.{join_assoc, join-same}
use Rattle.rows.specs.Meaning.{Row, row, matches}
use Rattle.tables.specs.Meaning.{rows_say}
use Rattle.accepting.proofs.Saying.{Said, says_none, says_either}
use Rattle.running.proofs.Leads.{Leads, still, leads_append, leads_constant, leads_join}
use Rattle.formula.specs.Meaning.{is_silent, row_nodes, rows_left, followed, together, rows_nodes}
use Rattle.selection.proofs.Picking.{leads_row}

-- what a row says alone, and all rows together
abbrev pub says_alone : List Answer → Row → Answer
says_alone s r = cond (matches r.cells s) r.outcome Silent

unfoldable pub says_together : List Answer → List Row → Answer
says_together s [] = Silent
says_together s (r ∷ rows) = join (says_alone s r) (says_together s rows)

join_silent : (x : Answer) → join x Silent ≡ x
join_silent = each _ (search refl)

pub silent_is : (a : Answer) → number a ≡ 0 → a ≡ Silent
silent_is Silent h = refl
silent_is Bury h = absurd (omega (arith, h))
silent_is Keep h = absurd (omega (arith, h))
silent_is Clash h = absurd (omega (arith, h))

-- a silent row says nothing
silent_alone : (s : List Answer) (r : Row) → number r.outcome ≡ 0 → says_alone s r ≡ Silent
silent_alone s r h = rw (silent_is r.outcome h) (same (matches r.cells s))
  where
    same : (b : Bool) → cond b Silent Silent ≡ Silent
    same true = refl
    same false = refl

-- each row has at most six cells, and no more than the situation has columns
unfoldable pub Wide : List Answer → List Row → Type 0
Wide s rows = (i : ℕ) → i < length rows → (length (row rows i).cells ≤ 6) × (length (row rows i).cells ≤ length s)

wide-rest : (s : List Answer) (r : Row) (rows : List Row) → Wide s (r ∷ rows) → Wide s rows
unfolding Wide
wide-rest s r rows w i l = w (suc i) (omega arith)

module _ (height : ℕ) (s : List Answer) (stack : List Answer) (room : length stack + 4 ≤ height) where
  row_leads :
      (r : Row) (deep : List Answer) →
      (number r.outcome ≡ 0 → ⊥) →
      (length r.cells ≤ 6) × (length r.cells ≤ length s) →
      length deep + 3 ≤ height →
      Leads height s (row_nodes r) deep (says_alone s r ∷ deep)
  unfolding row_nodes
  row_leads r deep loud w l = leads_row r.outcome loud 0 r.cells deep (let a = w.0 in omega arith) (let a = w.1 in omega arith) l

  -- the further rows
  rows_lead :
      (rows : List Row) (x : Answer) →
      Wide s rows →
      Leads height s (followed 7 (map row_nodes (rows_left rows))) (x ∷ stack) (join x (says_together s rows) ∷ stack)
  unfolding rows_left followed says_together Wide
  rows_lead [] x w = rw (join_silent x) still
  rows_lead (r ∷ rows) x w = go (is_silent r.outcome) refl (λ y. rows_lead rows y (wide-rest s r rows w))
    where
      go :
          (b : Bool) →
          is_silent r.outcome ≡ b →
          ((y : Answer) → Leads height s (followed 7 (map row_nodes (rows_left rows))) (y ∷ stack) (join y (says_together s rows) ∷ stack)) →
          Leads height s (followed 7 (map row_nodes (cond b (rows_left rows) (r ∷ rows_left rows)))) (x ∷ stack)
          (join x (join (says_alone s r) (says_together s rows)) ∷ stack)
      go true e again = rw (silent_alone s r (eqb-true (number r.outcome) 0 e)) (again x)
      go false e again =
          rw (← join_assoc x (says_alone s r) (says_together s rows))
          (leads_append (row_leads r (x ∷ stack) (eqb-false (number r.outcome) 0 e) (w 0 (omega arith)) (omega arith))
          (leads_append {xs = 7 ∷ []} leads_join (again (join x (says_alone s r)))))

  -- all rows
  pub all_lead : (rows : List Row) → Wide s rows → Leads height s (rows_nodes rows) stack (says_together s rows ∷ stack)
  unfolding rows_nodes rows_left together says_together Wide
  all_lead [] w = leads_constant Silent (omega arith)
  all_lead (r ∷ rows) w = go (is_silent r.outcome) refl (all_lead rows (wide-rest s r rows w))
    where
      go :
          (b : Bool) →
          is_silent r.outcome ≡ b →
          Leads height s (together 7 0 (map row_nodes (rows_left rows))) stack (says_together s rows ∷ stack) →
          Leads height s (together 7 0 (map row_nodes (cond b (rows_left rows) (r ∷ rows_left rows)))) stack
          (join (says_alone s r) (says_together s rows) ∷ stack)
      go true e again = rw (silent_alone s r (eqb-true (number r.outcome) 0 e)) again
      go false e again =
          leads_append (row_leads r stack (eqb-false (number r.outcome) 0 e) (w 0 (omega arith)) (omega arith))
          (rows_lead rows (says_alone s r) (wide-rest s r rows w))

-- Rows that match one situation agree.
unfoldable pub Agree : List Answer → List Row → Type 0
Agree s rows =
    (i j : ℕ) →
    i < length rows →
    j < length rows →
    T (matches (row rows i).cells s) →
    T (matches (row rows j).cells s) →
    (row rows i).outcome ≡ (row rows j).outcome

agree-rest : (s : List Answer) (r : Row) (rows : List Row) → Agree s (r ∷ rows) → Agree s rows
unfolding Agree
agree-rest s r rows a i j l k = a (suc i) (suc j) (omega arith) (omega arith)

-- together they say what the matching row says
pub together-says : (s : List Answer) (rows : List Row) → Agree s rows → says_together s rows ≡ rows_say Silent rows s
unfolding says_together rows_say Agree
together-says s [] a = refl
together-says s (r ∷ rows) a = go (matches r.cells s) refl (together-says s rows (agree-rest s r rows a)) (says_either Silent rows s)
  where
    go :
        (b : Bool) →
        matches r.cells s ≡ b →
        says_together s rows ≡ rows_say Silent rows s →
        ((i : ℕ) → i < length rows → T (matches (row rows i).cells s) → ⊥) ⊎ ((i : ℕ) × Said Silent rows s i) →
        join (cond b r.outcome Silent) (says_together s rows) ≡ cond b r.outcome (rows_say Silent rows s)
    go false e h m = h
    go true e h (inl f) = rw (h, says_none Silent rows s f) (join_silent r.outcome)
    go true e h (inr z) =
        let same : (row rows z.0).outcome ≡ r.outcome =
        a (suc z.0) 0 (let l = z.1.inside in omega arith) (omega arith) z.1.matched (rw e tt) in
        rw (h, z.1.gives, same) (join-same r.outcome)
