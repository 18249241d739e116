-- A node that is refused, given its place: how a machine makes a refusal of what `climb` says.
use Prim.Native.Nat.{ℕ}
use mathlib.Core.Path.{◌≡◌, refl, sym, ◌∙◌}
use Rattle.std.specs.Prelude.{Result, Ok, Err, MatchResult, IsErrAnd}
use Rattle.refusals.specs.declared.Kind.{Kind}
use Rattle.refusals.specs.declared.Refusal.{Refusal}

module _ (m : Result ℕ Refusal) (P : Kind → Refusal → Type 0) where
  abbrev Cases : Result ℕ Kind → Type 0
  Cases q = MatchResult q (λ x. m ≡ Ok x) (λ kind. IsErrAnd m (P kind))

  pub placed-ok : (q : Result ℕ Kind) {h : ℕ} → Cases q → m ≡ Ok h → q ≡ Ok h
  placed-ok (Ok x) {h} f e = let z : ◌≡◌ {A = Result ℕ Refusal} (Ok x) (Ok h) = sym f ∙ e in cc
  placed-ok (Err kind) f e = absurd (rw e at f)

  pub placed-err : (q : Result ℕ Kind) {x : Refusal} → Cases q → m ≡ Err x → (kind : Kind) × (q ≡ Err kind) × P kind x
  placed-err (Ok y) {x} f e = absurd (let z : ◌≡◌ {A = Result ℕ Refusal} (Ok y) (Err x) = sym f ∙ e in cc)
  placed-err (Err kind) f e = (kind, refl, rw e at f)
