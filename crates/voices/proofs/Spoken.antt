-- The reply to a notice and a voice, from what the reader of notices gives and from what the root is told.
use Prim.Native.Nat.{ℕ, ◌≤◌, ◌<◌}
use mathlib.Core.Path.{◌≡◌, refl, sym, ap, ◌∙◌}
use mathlib.Core.Bool.{Bool, true, false, cond}
use mathlib.Core.List.{List}
use lib.Dec.{ltb}
use lib.ListN.{length}
use borrow.Author.Tests.{lt-ltb, le-ltb}
use Rattle.std.specs.Prelude.{Result, Ok, Err}
use Rattle.refusals.specs.declared.Refusal.{Refusal}
use Rattle.refusals.specs.declared.Kind.TheVariants.{Tail}
use Rattle.refusals.specs.Meaning.{numbers, refusal_at}
use Rattle.refusals.specs.Meaning as refusal
use Rattle.refusals.proofs.Checks.{refusal_counts}
use Rattle.answers.specs.declared.Answer.{Answer}
use Rattle.notices.specs.Meaning.{Noticed}
use Rattle.notices.specs.Meaning as notice
use Rattle.notices.proofs.Found.{Found, read_rest-found}
use Rattle.sets.specs.Meaning.{answers_in, answer_set, meet_of}
use Rattle.sets.proofs.Handed.{meet_handed}
use Rattle.trees.specs.Meaning.{Policy, may_say, Read, made, refused, and_then, policy_at}
use Rattle.policies.specs.Meaning.{told}
use Rattle.voices.specs.declared.Possible.{Possible}
use Rattle.voices.specs.Meaning.{Heard, read_voice, unheard, heard, hear_of, may_answer}

-- what a notice with this reply leaves of the voice's
of_notice : (x : notice.Reading) (y : Read Policy) → ((notice.noticed x).refusal.number ≡ 0 → ⊥) →
    unheard (notice.noticed x).refusal ≡ heard x y
of_notice (notice.facts fs) y h = absurd (h refl)
of_notice (notice.refused r) y h = refl

pub heard-notice : (n v : List ℕ) (q : Result Possible Refusal) (x : Refusal) →
    record { refusal = numbers x; facts = 0 } ≡ notice.notice_of n → q ≡ Err x → may_answer q ≡ hear_of n v
heard-notice n v q x e i =
    ap may_answer i ∙ ap (λ (w : Noticed). unheard w.refusal) e
    ∙ of_notice (notice.read_facts n) (read_voice v) (λ z. refusal_counts x (ap (λ (w : Noticed). w.refusal.number) e ∙ z))

-- An accepted notice's facts are those found in it.
accepted : (n : List ℕ) (x : notice.Reading) (y : Read Policy) → Found 32 n x → (notice.noticed x).refusal.number ≡ 0 →
    heard (notice.facts (notice.facts_in 32 n)) y ≡ heard x y
accepted n (notice.facts fs) y h z = ap (λ (l : List notice.Fact). heard (notice.facts l) y) h
accepted n (notice.refused r) y h z = absurd (h z)

-- The reply, from the set that the root is told.
module _ (fs : List notice.Fact) (v : List ℕ) where
  unfoldable reply : Read ℕ → Heard
  reply (made set end) =
      cond (ltb end (length v)) (unheard (refusal.refused refusal.TAIL end))
      (record { refusal = refusal.none; set = set; answer = meet_of (answers_in set) })
  reply (refused r) = unheard r

  reply_told : (x : Read Policy) →
      heard (notice.facts fs) (and_then x (λ p end. cond (ltb end (length v)) (refused (refusal.refused refusal.TAIL end)) (made p end))) ≡
      reply (told fs x)
  unfolding reply told
  reply_told (made p end) = rw (meet_handed (may_say fs p)) (go (ltb end (length v)))
    where
      go : (b : Bool) → heard (notice.facts fs) (cond b (refused (refusal.refused refusal.TAIL end)) (made p end)) ≡
          cond b (unheard (refusal.refused refusal.TAIL end))
          (record { refusal = refusal.none; set = answer_set (may_say fs p); answer = meet_of (may_say fs p) })
      go true = refl
      go false = refl
  reply_told (refused r) = refl

module _ (n v : List ℕ) {w : Noticed} (e : w ≡ notice.notice_of n) (z : w.refusal.number ≡ 0) where
  onward : {x : Read ℕ} → x ≡ told (notice.facts_in 32 n) (policy_at 16 v 0) → reply (notice.facts_in 32 n) v x ≡ hear_of n v
  onward f =
      ap (reply (notice.facts_in 32 n) v) f ∙ sym (reply_told (notice.facts_in 32 n) v (policy_at 16 v 0))
      ∙ accepted n (notice.read_facts n) (read_voice v) (read_rest-found 32 0 0 n) (sym (ap (λ (w : Noticed). w.refusal.number) e) ∙ z)

  pub heard-stop : (q : Result Possible Refusal) (x : Refusal) → refused (numbers x) ≡ told (notice.facts_in 32 n) (policy_at 16 v 0) →
      q ≡ Err x → may_answer q ≡ hear_of n v
  unfolding reply
  heard-stop q x f i = ap may_answer i ∙ onward f

  module _ {set end : ℕ} (f : made set end ≡ told (notice.facts_in 32 n) (policy_at 16 v 0)) where
    pub heard_tail : (x : Refusal) → end < length v → x ≡ refusal_at Tail end → unheard (numbers x) ≡ hear_of n v
    unfolding reply
    heard_tail x l h = rw (← onward f, lt-ltb end (length v) l, h)

    pub heard-done : (p : Possible) → length v ≤ end → p.set ≡ set → p.answer ≡ meet_of (answers_in set) →
        may_answer (Ok p) ≡ hear_of n v
    unfolding reply
    heard-done p l h k = rw (← onward f, le-ltb end (length v) l, h, k)

-- What `speak_set` gives.
pub ruleset voice_laws = (heard-notice, heard-stop, heard_tail, heard-done)
