-- A voice is accepted exactly when it encodes a lawful tree, and that tree is the only one; it answers what the tree may say.
use Prim.Native.Nat.{ℕ, ◌+◌, ◌-◌, ◌≤◌}
use mathlib.Core.Path.{◌≡◌, refl, sym, ap, ap₂, subst, ◌∙◌}
use mathlib.Core.Bool.{Bool, true, false, cond}
use mathlib.Core.List.{List, [], ◌++◌, append-nil}
use native.Mathlib.Omega.{arith}
use lib.Dec.{ltb}
use lib.ListN.{length, length-drop, drop_of_length-le}
use borrow.Author.Tests.{le-ltb, ltb-false}
use Rattle.refusals.specs.Meaning as refusal
use Rattle.fields.specs.Meaning.{Bytes}
use Rattle.notices.specs.Meaning as notice
use Rattle.notices.proofs.Found.{Found, read_rest-found}
use Rattle.sets.specs.Meaning.{answer_set, meet_of}
use Rattle.trees.specs.Meaning.{Policy, may_say, Read, made, refused, and_then, policy_at, PolicyBytes, policy_depth, PolicyFits}
use Rattle.voices.specs.Meaning.{read_voice, heard, hear_of, Lawful}
use Rattle.speaking.proofs.Notices.{read_lawful}
use Rattle.speaking.proofs.Encodings.{policy_writing, policy_writing_lem, policy_writing_only, policy_writing_bytes}
use Rattle.speaking.proofs.WriteRead.{Reads, policy_write_read}
use Rattle.speaking.proofs.ReadWrite.{PolicyRead, Sound, policy_read_write}

module _ {p : Policy} {v : List ℕ} (b : PolicyBytes p v) where
  root : (left : ℕ) → policy_depth p ≤ left → Reads (policy_at left v 0) v p []
  root left d = policy_write_read v b [] left 0 d (sym (append-nil v))

  -- reading a tree's bytes gives the tree
  pub read_voice_lem : policy_depth p ≤ 16 → (end : ℕ) × (read_voice v ≡ made p end)
  read_voice_lem d =
      let r = root 16 d in
      let past : length v - r.next ≡ 0 = sym (length-drop r.next v) ∙ ap (λ (l : List ℕ). length l) r.after in
      (r.next, rw (r.reads, le-ltb r.next (length v) (omega arith)))

pub voice_only : (p q : Policy) (v : List ℕ) → PolicyBytes p v → PolicyBytes q v → p ≡ q
voice_only p q v b c =
    let r = root b (policy_depth p + policy_depth q) (omega arith) in
    let s = root c (policy_depth p + policy_depth q) (omega arith) in
    let z : made p r.next ≡ made q s.next = sym r.reads ∙ s.reads in
    cc

pub encoding_only : (p : Policy) (v w : List ℕ) → PolicyBytes p v → PolicyBytes p w → v ≡ w
encoding_only p v w b c = policy_writing_only b ∙ sym (policy_writing_only c)

pub encoded : (p : Policy) → PolicyFits p → (v : List ℕ) × (PolicyBytes p v × Bytes v)
encoded p h = (policy_writing p, (policy_writing_lem p h, policy_writing_bytes p h))

pub speak_lawful : (fs : List notice.Fact) (p : Policy) (v : List ℕ) → notice.Lawful fs → policy_depth p ≤ 16 → PolicyBytes p v →
    hear_of (notice.bytes_of fs) v ≡ record { refusal = refusal.none; set = answer_set (may_say fs p); answer = meet_of (may_say fs p) }
speak_lawful fs p v h d b = ap₂ heard (read_lawful fs h) (read_voice_lem b d).1

-- what is left of a voice at the end of its root
ended : (n v : List ℕ) (x : notice.Reading) (y : Read Policy) → Found 32 n x → Sound (PolicyRead v 16 0) y →
    (heard x (and_then y (λ p end. cond (ltb end (length v)) (refused (refusal.refused refusal.TAIL end)) (made p end)))).refusal.number
    ≡ 0 →
    (p : Policy) × (Lawful p × PolicyBytes p v)
ended n v (notice.refused r) y f h z = absurd (f z)
ended n v (notice.facts fs) (refused r) f h z = absurd (h z)
ended n v (notice.facts fs) (made p end) f h z = go (ltb end (length v)) refl z
  where
    go : (b : Bool) → ltb end (length v) ≡ b →
        (heard (notice.facts fs) (cond b (refused (refusal.refused refusal.TAIL end)) (made p end))).refusal.number ≡ 0 →
        (p : Policy) × (Lawful p × PolicyBytes p v)
    go true q y = absurd (omega (arith, y))
    go false q y =
        let whole : v ≡ h.written =
        h.stands ∙ ap (λ (l : List ℕ). h.written ++ l) (drop_of_length-le v (ltb-false end (length v) q)) ∙ append-nil h.written
        in
        (p, (record { levels = h.levels; fits = h.fits }, subst (λ (l : List ℕ). PolicyBytes p l) (sym whole) h.encodes))

pub lawful_voice : (n v : List ℕ) → Bytes v → (hear_of n v).refusal.number ≡ 0 → (p : Policy) × (Lawful p × PolicyBytes p v)
lawful_voice n v bytes z = ended n v (notice.read_facts n) (policy_at 16 v 0) (read_rest-found 32 0 0 n) (policy_read_write v bytes 16 0) z

answered : (n : List ℕ) (x : notice.Reading) (p : Policy) (end : ℕ) → Found 32 n x → (notice.noticed x).refusal.number ≡ 0 →
    (heard x (made p end)).refusal.number ≡ 0
answered n (notice.facts fs) p end f z = refl
answered n (notice.refused r) p end f z = absurd (f z)

pub voice_accepted : (n : List ℕ) (p : Policy) (v : List ℕ) → (notice.notice_of n).refusal.number ≡ 0 → policy_depth p ≤ 16 →
    PolicyBytes p v →
    (hear_of n v).refusal.number ≡ 0
voice_accepted n p v z d b =
    let r = read_voice_lem b d in
    rw r.1 (answered n (notice.read_facts n) p r.0 (read_rest-found 32 0 0 n) z)
