-- What giving a table back replies: the evaluator's refusal, or, by how many situations get an answer, ROWS, ROOM or the bytes' number.
use Prim.Native.Nat.{ℕ, ◌+◌, ◌*◌, ◌≤◌, ◌<◌}
use mathlib.Core.Path.{◌≡◌, refl, ap, subst, sym, ◌∙◌}
use mathlib.Core.Logic.{◌↔◌, ◌⊎◌}
use mathlib.Core.Bool.{Bool, true, false}
use mathlib.Core.List.{List, ◌++◌}
use lib.Dec.{ltb, eqb}
use lib.ListN.{length, drop, replicate}
use borrow.Author.Tests.{lt-ltb, le-ltb, eq-eqb, ne_eqb, eqb-true, eqb-false, ltb-true, ltb-false}
use native.Mathlib.Omega.{arith}
use Rattle.refusals.specs.Meaning.{Numbers, none, refused, ROWS, ROOM, SITUATION}
use Rattle.tables.specs.Meaning.{Table, table_bytes}
use Rattle.nodes.specs.Meaning.{evaluate_of}
use Rattle.running.proofs.Heights.{evaluate-columns}
use Rattle.growth.specs.Meaning.{answer_at}
use Rattle.growing.proofs.Verdicts.{growth_silent}
use Rattle.replying.proofs.NodeNumbers.{evaluate-high, growth-outside, columns-outside}
use Rattle.listing.specs.Meaning.{Written, refuse_written, reply_of, list_of, written_of}
use Rattle.untable.specs.Meaning.{untable_of}
use Rattle.recovering.specs.Meaning.{answered}
use Rattle.recovering.proofs.Listed.{listed-rows, listed-bytes}

module _ (nodes : List ℕ) (n room : ℕ) where
  abbrev check : Numbers
  check = (evaluate_of nodes (replicate n 0)).refusal

  abbrev Fine : Type 0
  Fine = check.number ≡ 0

  abbrev rows : ℕ
  rows = answered (answer_at nodes) n

  abbrev needed : ℕ
  needed = 4 + rows * (n + 4)

  abbrev given : Written
  given = record { refusal = none; length = needed }

  pub untable-refused : (Fine → ⊥) → untable_of nodes n room ≡ refuse_written check
  unfolding untable_of
  untable-refused h = rw (ne_eqb check.number 0 h)

  pub untable-fine : Fine → untable_of nodes n room ≡ reply_of rows needed room
  unfolding untable_of list_of
  untable-fine h =
      let c = evaluate-columns nodes n h in
      rw (
        eq-eqb check.number 0 h,
        listed-rows (answer_at nodes) n,
        listed-bytes (answer_at nodes) n c.1,
        le-ltb n 1 c.0,
        le-ltb 6 n c.1,
      )

  pub untable-rows : Fine → 64 < rows → untable_of nodes n room ≡ refuse_written (refused ROWS rows)
  unfolding reply_of
  untable-rows h l = untable-fine h ∙ (rw (lt-ltb 64 rows l))

  pub untable-room : Fine → rows ≤ 64 → room < needed → untable_of nodes n room ≡ refuse_written (refused ROOM needed)
  unfolding reply_of
  untable-room h l m = untable-fine h ∙ (rw (le-ltb 64 rows l, lt-ltb room needed m))

  pub untable-given : Fine → rows ≤ 64 → needed ≤ room → untable_of nodes n room ≡ given
  unfolding reply_of
  untable-given h l m = untable-fine h ∙ (rw (le-ltb 64 rows l, le-ltb room needed m))

  -- these are all
  pub untable_either :
      (P : Written → Type 0) →
      ((Fine → ⊥) → P (refuse_written check)) →
      (Fine → 64 < rows → P (refuse_written (refused ROWS rows))) →
      (Fine → rows ≤ 64 → room < needed → P (refuse_written (refused ROOM needed))) →
      (Fine → rows ≤ 64 → needed ≤ room → P given) →
      P (untable_of nodes n room)
  untable_either P evaluator many short all =
      go (eqb check.number 0) refl (ltb 64 rows) refl (ltb room needed) refl
    where
      go :
          (b : Bool) →
          eqb check.number 0 ≡ b →
          (c : Bool) →
          ltb 64 rows ≡ c →
          (d : Bool) →
          ltb room needed ≡ d →
          P (untable_of nodes n room)
      go false e c f d g = let h = eqb-false check.number 0 e in subst P (sym (untable-refused h)) (evaluator h)
      go true e true f d g =
          let h = eqb-true check.number 0 e in
          let l = ltb-true 64 rows f in
          subst P (sym (untable-rows h l)) (many h l)
      go true e false f true g =
          let h = eqb-true check.number 0 e in
          let l = ltb-false 64 rows f in
          let m = ltb-true room needed g in
          subst P (sym (untable-room h l m)) (short h l m)
      go true e false f false g =
          let h = eqb-true check.number 0 e in
          let l = ltb-false 64 rows f in
          let m = ltb-false room needed g in
          subst P (sym (untable-given h l m)) (all h l m)

  abbrev number : Written → ℕ
  number x = x.refusal.number

  -- the evaluator refuses by neither number
  high : (Fine → ⊥) → 9 ≤ check.number
  high = evaluate-high nodes (replicate n 0)

  pub given_exactly : ((untable_of nodes n room).refusal.number ≡ 0) ↔ (Fine × (rows ≤ 64) × (needed ≤ room))
  given_exactly = (
    untable_either (λ x. number x ≡ 0 → Fine × (rows ≤ 64) × (needed ≤ room)) (λ h e. absurd (h e))
        (λ h l e. absurd (omega (arith, e)))
        (λ h l m e. absurd (omega (arith, e)))
        (λ h l m e. (h, l, m)),
    λ f. ap number (untable-given f.0 f.1 f.2),
  )

  pub rows_exactly : ((untable_of nodes n room).refusal.number ≡ ROWS) ↔ (Fine × (64 < rows))
  rows_exactly = (
    untable_either (λ x. number x ≡ ROWS → Fine × (64 < rows)) (λ h e. absurd (let k = high h in omega (arith, e, k)))
        (λ h l e. (h, l))
        (λ h l m e. absurd (omega (arith, e)))
        (λ h l m e. absurd (omega (arith, e))),
    λ f. ap number (untable-rows f.0 f.1),
  )

  pub room_exactly : ((untable_of nodes n room).refusal.number ≡ ROOM) ↔ (Fine × (rows ≤ 64) × (room < needed))
  room_exactly = (
    untable_either (λ x. number x ≡ ROOM → Fine × (rows ≤ 64) × (room < needed)) (λ h e. absurd (let k = high h in omega (arith, e, k)))
        (λ h l e. absurd (omega (arith, e)))
        (λ h l m e. (h, l, m))
        (λ h l m e. absurd (omega (arith, e))),
    λ f. ap number (untable-room f.0 f.1 f.2),
  )

  -- SITUATION is that of the number of columns
  pub outside-refused : (n < 1) ⊎ (6 < n) → untable_of nodes n room ≡ refuse_written (refused SITUATION n)
  outside-refused o =
      let e : check ≡ refused SITUATION n = sym (growth_silent nodes n) ∙ growth-outside nodes n o in
      untable-refused (λ z. let k = ap (λ (r : Numbers). r.number) e in omega (arith, z, k)) ∙ ap refuse_written e

  pub outside_exactly : ((untable_of nodes n room).refusal.number ≡ SITUATION) ↔ ((n < 1) ⊎ (6 < n))
  outside_exactly = (
    untable_either (λ x. number x ≡ SITUATION → (n < 1) ⊎ (6 < n))
        (λ h e. columns-outside nodes n (ap (λ (r : Numbers). r.number) (growth_silent nodes n) ∙ e))
        (λ h l e. absurd (omega (arith, e)))
        (λ h l m e. absurd (omega (arith, e)))
        (λ h l m e. absurd (omega (arith, e))),
    λ o. ap number (outside-refused o),
  )

-- what is written: the table's bytes in front, or nothing
module _ (t : Table) (reply : Written) (lent : List ℕ) where
  pub written-given : reply.refusal.number ≡ 0 → written_of t reply lent ≡ table_bytes t ++ drop (length (table_bytes t)) lent
  unfolding written_of
  written-given h = rw (eq-eqb reply.refusal.number 0 h)

  pub written-refused : (reply.refusal.number ≡ 0 → ⊥) → written_of t reply lent ≡ lent
  unfolding written_of
  written-refused h = rw (ne_eqb reply.refusal.number 0 h)
