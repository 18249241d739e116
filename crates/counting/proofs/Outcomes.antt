-- What it is for a reply to be counted: the tests say what became of a notice.
use Prim.Native.Nat.{ℕ}
use mathlib.Core.Path.{◌≡◌, refl, sym, ap, ◌∙◌}
use mathlib.Core.Logic.{◌↔◌}
use mathlib.Core.Bool.{Bool, true, false, cond, not}
use native.Mathlib.Omega.{arith}
use lib.Dec.{eqb}
use borrow.Author.Tests.{eq-eqb, ne_eqb, eqb-true, eqb-false}
use Rattle.answers.specs.declared.Answer.{Answer}
use Rattle.answers.specs.Meaning.{Reply, number, from_number}
use Rattle.answers.proofs.Claims.{number_from}
use Rattle.counts.specs.Meaning.{refused, gave, refused_as}

never : false ≡ true → ⊥
never e = let z : ◌≡◌ {A = ℕ} 0 1 = cc in omega arith

pub refused_exactly : (r : Reply) → (refused r ≡ true) ↔ (r.refusal.number ≡ 0 → ⊥)
refused_exactly r = (λ e z. never (rw (eq-eqb r.refusal.number 0 z) at e), λ h. rw (ne_eqb r.refusal.number 0 h))

pub refused_as_exactly : (k : ℕ) (r : Reply) → (refused_as k r ≡ true) ↔ ((r.refusal.number ≡ 0 → ⊥) × (r.refusal.number ≡ k))
refused_as_exactly k r = (
  λ e. go (eqb r.refusal.number 0) refl e,
  λ h. rw (ne_eqb r.refusal.number 0 h.0) (eq-eqb r.refusal.number k h.1),
)
  where
    go : (b : Bool) → eqb r.refusal.number 0 ≡ b → cond (not b) (eqb r.refusal.number k) false ≡ true →
        (r.refusal.number ≡ 0 → ⊥) × (r.refusal.number ≡ k)
    go true i e = absurd (never e)
    go false i e = (eqb-false r.refusal.number 0 i, eqb-true r.refusal.number k e)

pub gave_exactly : (a : Answer) (r : Reply) → (gave a r ≡ true) ↔ ((r.refusal.number ≡ 0) × (r.answer ≡ a))
gave_exactly a r = (
  λ e. go (eqb r.refusal.number 0) refl e,
  λ h. rw (eq-eqb r.refusal.number 0 h.0) (eq-eqb (number r.answer) (number a) (ap number h.1)),
)
  where
    go : (b : Bool) → eqb r.refusal.number 0 ≡ b → cond (not b) false (eqb (number r.answer) (number a)) ≡ true →
        (r.refusal.number ≡ 0) × (r.answer ≡ a)
    go true i e = (
      eqb-true r.refusal.number 0 i,
      sym (number_from r.answer) ∙ ap from_number (eqb-true (number r.answer) (number a) e) ∙ number_from a,
    )
    go false i e = absurd (never e)
