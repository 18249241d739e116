-- Demand 2, evaluating and speaking: fewer places answer alike where they are enough; which notices and voices are accepted, and
-- what is answered.
use Prim.Native.Nat.{ℕ, ◌≤◌}
use mathlib.Core.Path.{◌≡◌, refl, ap, subst}
use mathlib.Core.List.{List, []}
use lib.ListN.{length}
use mathlib.Core.Logic.{◌↔◌}
use Rattle.refusals.specs.Meaning.{DEEP, none}
use Rattle.answers.specs.declared.Answer.{Answer}
use Rattle.nodes.specs.Meaning.{full, run}
use Rattle.running.proofs.Leads.{all_nodes}
use Rattle.running.proofs.Places.{run-places}
use Rattle.answers.specs.Meaning.{succeed}
use Rattle.fields.specs.Meaning.{Bytes}
use Rattle.notices.specs.Meaning as notice
use Rattle.sets.specs.Meaning.{answer_set, meet_of}
use Rattle.trees.specs.Meaning.{Policy, may_say, PolicyBytes}
use Rattle.voices.specs.Meaning as voice
use Rattle.speaking.proofs.Notices as notices
use Rattle.speaking.proofs.Voices as voices

-- A machine with fewer places answers as the one with sixteen, unless a push finds them full.
pub fewer_places_alike :
    (places : ℕ) →
    places ≤ 16 →
    (s : List Answer) (nodes : List ℕ) →
    ((run (all_nodes places) s 0 [] nodes).refusal.number ≡ DEEP → ⊥) →
    run (all_nodes places) s 0 [] nodes ≡ run full s 0 [] nodes
fewer_places_alike places room s nodes = run-places (all_nodes places) full refl room s 0 [] nodes

-- Bytes are accepted as a notice exactly when they are the encoding of a lawful list of facts.
pub notice_accepted : (s : List ℕ) → Bytes s →
    ((notice.notice_of s).refusal.number ≡ 0) ↔ ((fs : List notice.Fact) × (notice.Lawful fs × (notice.bytes_of fs ≡ s)))
notice_accepted s bytes = (
  notices.lawful_accepted s bytes,
  λ h. subst (λ (l : List ℕ). (notice.notice_of l).refusal.number ≡ 0) h.1.1
      (ap (λ r. r.refusal.number) (notices.accepted_lawful h.0 h.1.0)),
)

-- The reply to it is the number of its facts.
pub notice-counted : (fs : List notice.Fact) → notice.Lawful fs →
    notice.notice_of (notice.bytes_of fs) ≡ record { refusal = none; facts = length fs }
notice-counted = notices.accepted_lawful

-- The list is the only one.
pub notice-only : (fs gs : List notice.Fact) → notice.Lawful fs → notice.Lawful gs → notice.bytes_of fs ≡ notice.bytes_of gs → fs ≡ gs
notice-only = notices.lawful_only

-- Its encoding is bytes.
pub notice-bytes : (fs : List notice.Fact) → notice.Lawful fs → Bytes (notice.bytes_of fs)
notice-bytes fs h = notices.bytes_of-bytes fs h.fits

-- A fact is looked up among its facts.
pub notice-facts : (fs : List notice.Fact) → notice.Lawful fs → notice.facts_in 32 (notice.bytes_of fs) ≡ fs
notice-facts = notices.found_lawful

-- With an accepted notice, bytes are accepted as a voice exactly when they encode a lawful tree: of at most 16 levels.
pub voice_accepted : (n v : List ℕ) → Bytes v → (notice.notice_of n).refusal.number ≡ 0 →
    ((voice.speak_of n v).refusal.number ≡ 0) ↔ ((p : Policy) × (voice.Lawful p × PolicyBytes p v))
voice_accepted n v bytes z = (
  voices.lawful_voice n v bytes,
  λ h. voices.voice_accepted n h.0 v z h.1.0.levels h.1.1,
)

-- The tree is the only one.
pub voice_only : (p q : Policy) (v : List ℕ) → PolicyBytes p v → PolicyBytes q v → p ≡ q
voice_only = voices.voice_only

-- Every lawful tree has an encoding, which is bytes, and only one.
pub voice_encoded : (p : Policy) → voice.Lawful p → (v : List ℕ) × (PolicyBytes p v × Bytes v)
voice_encoded p h = voices.encoded p h.fits

pub encoding_only : (p : Policy) (v w : List ℕ) → PolicyBytes p v → PolicyBytes p w → v ≡ w
encoding_only = voices.encoding_only

-- The reply to an accepted notice and voice is the set of what the tree may say of the facts, operator by operator on every pair of
-- possible operands, and its meet ..
pub speaks_as_published : (fs : List notice.Fact) (p : Policy) (v : List ℕ) → notice.Lawful fs → voice.Lawful p → PolicyBytes p v →
    voice.hear_of (notice.bytes_of fs) v ≡ record { refusal = none; set = answer_set (may_say fs p); answer = meet_of (may_say fs p) }
speaks_as_published fs p v h i b = voices.speak_lawful fs p v h i.levels b

-- .. which is what the column receives.
pub column_as_published : (fs : List notice.Fact) (p : Policy) (v : List ℕ) → notice.Lawful fs → voice.Lawful p → PolicyBytes p v →
    voice.speak_of (notice.bytes_of fs) v ≡ succeed (meet_of (may_say fs p))
column_as_published fs p v h i b = ap voice.received (speaks_as_published fs p v h i b)
