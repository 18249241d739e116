-- Two profiles that know the same nodes: where the one with fewer places is never full, both answer alike (run-places).
use Prim.Native.Nat.{ℕ, suc, ◌+◌, ◌≤◌}
use mathlib.Core.Path.{◌≡◌, refl}
use mathlib.Core.Bool.{Bool, true, false, cond}
use mathlib.Core.List.{List, [], ◌∷◌}
use lib.Dec.{ltb, eqb}
use lib.ListN.{length}
use borrow.Author.Tests.{lt-ltb, ltb-true, eqb-true}
use native.Mathlib.Omega.{arith}
use Rattle.refusals.specs.Meaning.{refused, COLUMN, DEEP}
use Rattle.answers.specs.declared.Answer.{Answer}
use Rattle.answers.specs.declared.Answer.TheVariants.{Silent}
use Rattle.answers.specs.Meaning.{Reply}
use Rattle.nodes.specs.declared.Node.{Node}
use Rattle.nodes.specs.declared.Node.TheVariants.{Constant, Negate, Turn, Meet, Join, Column, Foreign}
use Rattle.nodes.specs.declared.Profile.{Profile}
use Rattle.nodes.specs.Meaning.{node_of, to, stop, climb_push, climb, act, reply_after, run}

module _ (few many : Profile) (joins : few.joins ≡ many.joins) (room : few.places ≤ many.places) where
  push_places :
      (height : ℕ) →
      ((climb_push few.places height).fault ≡ DEEP → ⊥) →
      climb_push few.places height ≡ climb_push many.places height
  push_places height = go (ltb height few.places) refl
    where
      go :
          (t : Bool) →
          ltb height few.places ≡ t →
          ((cond t (to (height + 1)) (stop DEEP)).fault ≡ DEEP → ⊥) →
          cond t (to (height + 1)) (stop DEEP) ≡ climb_push many.places height
      go true e x = rw (lt-ltb height many.places (omega (arith, ltb-true height few.places e)))
      go false e x = absurd (x refl)

  climb-places :
      (n : ℕ) (node : Node) (height : ℕ) → ((climb few n node height).fault ≡ DEEP → ⊥) → climb few n node height ≡ climb many n node height
  unfolding climb
  climb-places n (Constant a) height x = push_places height x
  climb-places n (Column k) height x = go (ltb k n) x
    where
      go :
          (t : Bool) →
          ((cond t (climb_push few.places height) (stop COLUMN)).fault ≡ DEEP → ⊥) →
          cond t (climb_push few.places height) (stop COLUMN) ≡ cond t (climb_push many.places height) (stop COLUMN)
      go true x = push_places height x
      go false x = refl
  climb-places n Negate height x = refl
  climb-places n Turn height x = refl
  climb-places n Meet height x = refl
  climb-places n Join height x = rw joins
  climb-places n Foreign height x = refl

  -- where the few places are enough, or another refusal comes before a push onto them
  pub run-places :
      (s : List Answer) (place : ℕ) (stack : List Answer) (nodes : List ℕ) →
      ((run few s place stack nodes).refusal.number ≡ DEEP → ⊥) →
      run few s place stack nodes ≡ run many s place stack nodes
  unfolding run
  run-places s place stack [] x = refl
  run-places s place stack (b ∷ nodes) x = go (eqb f 0) refl x (run-places s (suc place) (act s (node_of b) stack) nodes)
    where
      f : ℕ
      f = (climb few (length s) (node_of b) (length stack)).fault

      rest : Profile → Reply
      rest profile = run profile s (suc place) (act s (node_of b) stack) nodes

      go :
          (t : Bool) →
          eqb f 0 ≡ t →
          ((cond t (rest few) (record { refusal = refused f place; answer = Silent })).refusal.number ≡ DEEP → ⊥) →
          (((rest few).refusal.number ≡ DEEP → ⊥) → rest few ≡ rest many) →
          cond t (rest few) (record { refusal = refused f place; answer = Silent })
          ≡ reply_after (refused (climb many (length s) (node_of b) (length stack)).fault place) (rest many)
      go true e x h =
          rw (← climb-places (length s) (node_of b) (length stack) (λ z. omega (arith, z, eqb-true f 0 e)), e) (h x)
      go false e x h = rw (← climb-places (length s) (node_of b) (length stack) x, e)
