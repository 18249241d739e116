-- When a table is given back from a node array, and every refusal: exactly when, and with which numbers. Which arrays give back the same
-- bytes, and which lost tables are given back from their nodes.
use Prim.Native.Nat.{ℕ, ◌+◌, ◌*◌, ◌≤◌, ◌<◌}
use mathlib.Core.Path.{◌≡◌, refl, ap, sym, ◌∙◌}
use mathlib.Core.Logic.{◌↔◌, ◌⊎◌, inl, inr}
use mathlib.Core.List.{List}
use lib.ListN.{length, replicate}
use native.Mathlib.Nat.{mul-le-mul}
use native.Mathlib.Omega.{arith}
use Rattle.refusals.specs.Meaning.{refused, ROWS, ROOM, SITUATION}
use Rattle.answers.specs.Meaning.{succeed}
use Rattle.answers.specs.declared.Answer.{Answer}
use Rattle.situations.specs.Meaning.{fault, answers_of}
use Rattle.tables.specs.Meaning.{Table, says, table_of}
use Rattle.nodes.specs.Meaning.{evaluate_of}
use Rattle.running.proofs.Heights.{evaluate-columns}
use Rattle.growth.specs.Meaning.{answer_at}
use Rattle.listing.specs.Meaning.{Written}
use Rattle.untable.specs.Meaning.{table_back, untable_of}
use Rattle.recovering.specs.Meaning.{answered, Alike}
use Rattle.recovering.proofs.Listed.{answered-few, answered-same}
use Rattle.recovering.proofs.Evaluated.{refused_anywhere}
use Rattle.recovering.proofs.Replies as replies
use Rattle.promises.specs.Meaning.{Compiles, nodes_written, GivesBack, lent_back, bytes_back}
use Rattle.promises.proofs.TableBack.{back_answers, back_says}
use Rattle.promises.proofs.Demand3.{nodes_say, nodes_evaluate}

module _ (nodes : List ℕ) (n : ℕ) (lent : List ℕ) where
  abbrev reply : Written
  reply = untable_of nodes n (length lent)

  -- The array evaluates at situations of n columns.
  abbrev Evaluates : Type 0
  Evaluates = (evaluate_of nodes (replicate n 0)).refusal.number ≡ 0

  -- So many situations of n columns get an answer other than silent, and so many bytes a table of as many rows has.
  abbrev rows : ℕ
  rows = answered (answer_at nodes) n

  abbrev needed : ℕ
  needed = 4 + rows * (n + 4)

  -- A table is given back exactly when the array evaluates, at most 64 rows are needed, and the lent buffer has room for their bytes.
  pub given_back_exactly : GivesBack nodes n lent ↔ (Evaluates × (rows ≤ 64) × (needed ≤ length lent))
  unfolding GivesBack
  given_back_exactly = replies.given_exactly nodes n (length lent)

  -- "SITUATION": exactly for a number of columns outside 1 to 6, with that number as its place.
  pub back_situation_exactly : (reply.refusal.number ≡ SITUATION) ↔ ((n < 1) ⊎ (6 < n))
  back_situation_exactly = replies.outside_exactly nodes n (length lent)

  pub back_situation_place : reply.refusal.number ≡ SITUATION → reply.refusal ≡ refused SITUATION n
  back_situation_place h =
      ap (λ (x : Written). x.refusal) (replies.outside-refused nodes n (length lent) (back_situation_exactly.0 h))

  -- "The evaluator's": an array that does not evaluate is refused as evaluating it refuses.
  pub back_evaluator : (Evaluates → ⊥) → reply.refusal ≡ (evaluate_of nodes (replicate n 0)).refusal
  back_evaluator h = ap (λ (x : Written). x.refusal) (replies.untable-refused nodes n (length lent) h)

  -- "Then ROWS (place: rows needed) exactly when more than 64 are needed", so never for up to three columns.
  pub back_rows_exactly : (reply.refusal.number ≡ ROWS) ↔ (Evaluates × (64 < rows))
  back_rows_exactly = replies.rows_exactly nodes n (length lent)

  pub back_rows_place : reply.refusal.number ≡ ROWS → reply.refusal ≡ refused ROWS rows
  back_rows_place h =
      let e = back_rows_exactly.0 h in ap (λ (x : Written). x.refusal) (replies.untable-rows nodes n (length lent) e.0 e.1)

  pub back_rows_never : n ≤ 3 → reply.refusal.number ≡ ROWS → ⊥
  back_rows_never three h =
      let many = (back_rows_exactly.0 h).1 in let few = answered-few (answer_at nodes) n three in omega (arith, many, few)

  -- "Then ROOM (place: bytes needed)", so never with a lent buffer of 644 bytes.
  pub back_room_exactly : (reply.refusal.number ≡ ROOM) ↔ (Evaluates × (rows ≤ 64) × (length lent < needed))
  back_room_exactly = replies.room_exactly nodes n (length lent)

  pub back_room_place : reply.refusal.number ≡ ROOM → reply.refusal ≡ refused ROOM needed
  back_room_place h =
      let e = back_room_exactly.0 h in
      ap (λ (x : Written). x.refusal) (replies.untable-room nodes n (length lent) e.0 e.1 e.2)

  pub back_room_never : 644 ≤ length lent → reply.refusal.number ≡ ROOM → ⊥
  back_room_never large h =
      let e = back_room_exactly.0 h in
      let short = e.2 in
      let few = (evaluate-columns nodes n e.0).1 in
      let width : n + 4 ≤ 10 = omega arith in
      let most : rows * (n + 4) ≤ 64 * 10 = mul-le-mul e.1 width in
      omega (arith, short, most)

  -- An array that evaluates is refused by these two and by no other number.
  pub back_no_other : Evaluates → (GivesBack nodes n lent → ⊥) → (reply.refusal.number ≡ ROWS) ⊎ (reply.refusal.number ≡ ROOM)
  unfolding GivesBack
  back_no_other h =
      replies.untable_either nodes n (length lent)
      (λ x. (x.refusal.number ≡ 0 → ⊥) → (x.refusal.number ≡ ROWS) ⊎ (x.refusal.number ≡ ROOM))
      (λ bad loud. absurd (bad h))
      (λ fine many loud. inl refl)
      (λ fine few short loud. inr refl)
      (λ fine few long loud. absurd (loud refl))

  -- A refused call writes nothing.
  pub back_refused_writes_nothing : (GivesBack nodes n lent → ⊥) → lent_back nodes n lent ≡ lent
  unfolding GivesBack lent_back
  back_refused_writes_nothing = replies.written-refused (table_back nodes n) reply lent

-- The evaluator's refusal is the same at every situation of so many columns.
pub back_refuses_alike :
    (nodes s lent : List ℕ) →
    (fault s).number ≡ 0 →
    ((evaluate_of nodes s).refusal.number ≡ 0 → ⊥) →
    (untable_of nodes (length s) (length lent)).refusal ≡ (evaluate_of nodes s).refusal
back_refuses_alike nodes s lent h bad =
    let e = refused_anywhere nodes s h in
    back_evaluator nodes (length s) lent (rw (ap (λ r. r.number) e) at bad) ∙ sym e

-- Two arrays that give back the same bytes get the same reply at every situation of n columns.
pub back_only :
    (nodes others : List ℕ) (n : ℕ) (lent more : List ℕ) →
    GivesBack nodes n lent →
    GivesBack others n more →
    bytes_back nodes n lent ≡ bytes_back others n more →
    Alike nodes others n
back_only nodes others n lent more given other e s h long =
    back_says nodes n lent given s h long
    ∙ ap (λ bytes. succeed (says (table_of bytes) (answers_of s))) e
    ∙ sym (back_says others n more other s h long)

-- A lost table whose nodes are left.
module _ (bytes more : List ℕ) (compiles : Compiles bytes more) where
  abbrev nodes : List ℕ
  nodes = nodes_written bytes more

  abbrev lost : Table
  lost = table_of bytes

  -- What is given back says what it said, at every situation of its columns ..
  pub back_recovers :
      (lent : List ℕ) →
      GivesBack nodes lost.columns lent →
      (s : List Answer) →
      length s ≡ lost.columns →
      says (table_of (bytes_back nodes lost.columns lent)) s ≡ says lost s
  back_recovers lent given s long = back_answers nodes lost.columns lent given s long ∙ nodes_say bytes more compiles s long

  -- .. and it is given back exactly when it says something other than silent of at most 64 situations, and the bytes of these rows fit.
  pub back_recovered_exactly :
      (lent : List ℕ) →
      GivesBack nodes lost.columns lent
      ↔ ((answered (says lost) lost.columns ≤ 64)
      × (4 + answered (says lost) lost.columns * (lost.columns + 4) ≤ length lent))
  back_recovered_exactly lent =
      let same = answered-same (answer_at nodes) (says lost) lost.columns (nodes_say bytes more compiles) in
      let e = given_back_exactly nodes lost.columns lent in (
        λ h. rw (← same) ((e.0 h).1, (e.0 h).2),
        λ f. e.1 (nodes_evaluate bytes more compiles, rw same f.0, rw same f.1),
      )
