-- Arrays that get the same reply at every situation of n columns give back the same table, with the same reply, and are judged alike.
use Prim.Native.Nat.{ℕ, ◌≤◌}
use mathlib.Core.Path.{◌≡◌, refl, ap, sym, ◌∙◌}
use mathlib.Core.Bool.{Bool, true, false, cond}
use mathlib.Core.List.{List, map}
use lib.Dec.{eqb}
use lib.ListN.{length, replicate, length-replicate, length-map}
use borrow.Author.Tests.{eqb-true, eqb-false}
use Rattle.answers.specs.Meaning.{Reply, number}
use Rattle.answers.specs.declared.Answer.{Answer}
use Rattle.refusals.specs.Meaning.{Numbers, refused, SITUATION}
use Rattle.situations.specs.Meaning.{outside, fault}
use Rattle.tables.specs.Meaning.{Table, table_bytes}
use Rattle.nodes.specs.Meaning.{evaluate_of}
use Rattle.running.proofs.Heights.{evaluate-heights, evaluate-columns}
use Rattle.growth.specs.Meaning.{answer_at, growth_of}
use Rattle.growth.specs.Inside as growth
use Rattle.growth.proofs.SameAnswers.{first_step-same}
use Rattle.growth.proofs.CheckReply.{growth-steps}
use Rattle.replying.proofs.MergeLaws.{numbers-pass}
use Rattle.listing.specs.Meaning.{refuse_written, reply_of, list_of, written_of}
use Rattle.untable.specs.Meaning.{table_back, untable_of}
use Rattle.recovering.specs.Meaning.{Alike}
use Rattle.recovering.proofs.Evaluated.{answers-evaluate}
use Rattle.recovering.proofs.Listed.{table_same}
use Rattle.recovering.proofs.Replies.{given_exactly, written-refused}

module _ (nodes others : List ℕ) (n : ℕ) (alike : Alike nodes others n) where
  answers-alike : 1 ≤ n → n ≤ 6 → (s : List Answer) → length s ≡ n → answer_at nodes s ≡ answer_at others s
  answers-alike some few s long =
      answers-evaluate nodes s (rw long some) (rw long few)
      ∙ ap (λ (r : Reply). r.answer)
      (alike (map number s) (ap (λ (r : Numbers). r.number) (numbers-pass s (rw long some) (rw long few))) (length-map s number ∙ long))
      ∙ sym (answers-evaluate others s (rw long some) (rw long few))

  refused-alike : (evaluate_of nodes (replicate n 0)).refusal ≡ (evaluate_of others (replicate n 0)).refusal
  refused-alike = go (eqb (fault (replicate n 0)).number 0) refl
    where
      go :
          (b : Bool) →
          eqb (fault (replicate n 0)).number 0 ≡ b →
          (evaluate_of nodes (replicate n 0)).refusal ≡ (evaluate_of others (replicate n 0)).refusal
      go true e =
          ap (λ (r : Reply). r.refusal)
          (alike (replicate n 0) (eqb-true (fault (replicate n 0)).number 0 e) (length-replicate {A = ℕ} n 0))
      go false e = rw (evaluate-heights nodes (replicate n 0), evaluate-heights others (replicate n 0), e)

  table_alike : (evaluate_of nodes (replicate n 0)).refusal.number ≡ 0 → table_back nodes n ≡ table_back others n
  table_alike h =
      let c = evaluate-columns nodes n h in table_same (answer_at nodes) (answer_at others) n (answers-alike c.0 c.1)

  list-alike :
      (evaluate_of nodes (replicate n 0)).refusal.number ≡ 0 →
      (room : ℕ) →
      list_of (answer_at nodes) n room ≡ list_of (answer_at others) n room
  unfolding list_of
  list-alike h room =
      ap
      (λ (t : Table).
      cond (outside n) (refuse_written (refused SITUATION n)) (reply_of (length t.rows) (length (table_bytes t)) room))
      (table_alike h)

  pub untable-alike : (room : ℕ) → untable_of nodes n room ≡ untable_of others n room
  unfolding untable_of
  untable-alike room = go (eqb (evaluate_of nodes (replicate n 0)).refusal.number 0) refl
    where
      go :
          (b : Bool) →
          eqb (evaluate_of nodes (replicate n 0)).refusal.number 0 ≡ b →
          untable_of nodes n room ≡ untable_of others n room
      go true e = rw (← refused-alike, e) (list-alike (eqb-true (evaluate_of nodes (replicate n 0)).refusal.number 0 e) room)
      go false e = rw (← refused-alike, e)

  pub written-alike :
      (room : ℕ) (lent : List ℕ) →
      written_of (table_back nodes n) (untable_of nodes n room) lent ≡ written_of (table_back others n) (untable_of others n room) lent
  written-alike room lent = go (eqb (evaluate_of nodes (replicate n 0)).refusal.number 0) refl
    where
      go :
          (b : Bool) →
          eqb (evaluate_of nodes (replicate n 0)).refusal.number 0 ≡ b →
          written_of (table_back nodes n) (untable_of nodes n room) lent ≡ written_of (table_back others n) (untable_of others n room) lent
      go true e = rw (table_alike (eqb-true (evaluate_of nodes (replicate n 0)).refusal.number 0 e), untable-alike room)
      go false e =
          let h = eqb-false (evaluate_of nodes (replicate n 0)).refusal.number 0 e in
          let refused : (untable_of nodes n room).refusal.number ≡ 0 → ⊥ = λ z. h ((given_exactly nodes n room).0 z).0 in
          written-refused (table_back nodes n) (untable_of nodes n room) lent refused
          ∙ sym (written-refused (table_back others n) (untable_of others n room) lent (rw (untable-alike room) at refused))

  -- they are judged alike
  pub growth-alike : growth_of nodes n ≡ growth_of others n
  unfolding growth_of
  growth-alike = go (eqb (evaluate_of nodes (replicate n 0)).refusal.number 0) refl
    where
      go : (b : Bool) → eqb (evaluate_of nodes (replicate n 0)).refusal.number 0 ≡ b → growth_of nodes n ≡ growth_of others n
      go true e =
          let h = eqb-true (evaluate_of nodes (replicate n 0)).refusal.number 0 e in
          let c = evaluate-columns nodes n h in
          growth-steps nodes n h
          ∙ ap (growth.reply_of n) (first_step-same (answer_at nodes) (answer_at others) n (answers-alike c.0 c.1))
          ∙ sym (growth-steps others n (rw refused-alike at h))
      go false e = rw (← refused-alike, e)
