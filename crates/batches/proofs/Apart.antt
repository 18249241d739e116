-- What code says of a walk is told apart by what is said of it: no two give the same.
use mathlib.Core.Path.{◌≡◌, refl, sym, ap}
use Rattle.std.specs.Prelude.{Option, Some, None}
use Rattle.refusals.specs.declared.Refusal.{Refusal}
use Rattle.refusals.specs.Meaning.{Numbers}
use Rattle.refusals.proofs.Checks.{refusal_counts}
use Rattle.refusals.proofs.Apart.{numbers-apart}
use Rattle.batches.specs.declared.Walked as code
use Rattle.batches.specs.Meaning.{Walked, why, walked}

pub why-apart : (o p : Option Refusal) → why o ≡ why p → o ≡ p
why-apart None None e = refl
why-apart None (Some s) e = absurd (refusal_counts s (sym (ap (λ (n : Numbers). n.number) e)))
why-apart (Some r) None e = absurd (refusal_counts r (ap (λ (n : Numbers). n.number) e))
why-apart (Some r) (Some s) e = ap Some (numbers-apart r s e)

pub walked-apart : (v w : code.Walked) → walked v ≡ walked w → v ≡ w
walked-apart v w e =
    let refused : v.refused ≡ w.refused = why-apart v.refused w.refused (ap (λ (x : Walked). x.refusal) e) in
    let length : v.length ≡ w.length = ap (λ (x : Walked). x.length) e in
    let left : v.left ≡ w.left = ap (λ (x : Walked). x.left) e in
    rw (refused, length, left) refl
