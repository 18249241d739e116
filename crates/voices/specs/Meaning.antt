-- Voices: a voice is one policy, whose tree answers to the facts of a notice.
use Rattle.std.specs.Prelude.{ℕ, ◌≤◌, cond, List, Result, ltb, length}
use Rattle.refusals.specs.declared.Refusal.{Refusal}
use Rattle.refusals.specs.Meaning.{Numbers, replied}
use Rattle.refusals.specs.Meaning as refusal
use Rattle.answers.specs.declared.Answer.{Answer}
use Rattle.answers.specs.declared.Answer.TheVariants.{Silent}
use Rattle.answers.specs.Meaning.{Reply, succeed}
use Rattle.notices.specs.Meaning as notice
use Rattle.sets.specs.Meaning.{answer_set, meet_of}
use Rattle.trees.specs.Meaning.{Policy, Choice, says, under, may_say, Read, made, refused, and_then, policy_at, policy_depth, PolicyFits}
use Rattle.voices.specs.declared.Possible.{Possible}

-- "A voice is one policy .. The root is level 1 .. level 17 is NEST. After the root, bytes left are TAIL at the first of them."
abbrev pub read_voice : List ℕ → Read Policy
read_voice v =
    and_then (policy_at 16 v 0)
    (λ p end. cond (ltb end (length v)) (refused (refusal.refused refusal.TAIL end)) (made p end))

-- What a voice replies: the set of its possible answers, as a number, and the meet of the set.
pub record Heard : Type 0 where
  pub refusal : Numbers
  pub set : ℕ
  pub answer : Answer

-- "A refusal returns .. answer silent", and any other result number, so the set's, 0.
abbrev pub unheard : Numbers → Heard
unheard r = record { refusal = r; set = 0; answer = Silent }

-- The same of a result.
abbrev pub may_answer : Result Possible Refusal → Heard
may_answer = replied (λ p. record { refusal = refusal.none; set = p.set; answer = p.answer }) unheard

-- "The notice is checked before the voice": then the voice's tree answers to the notice's facts.
-- "a voice answers a set of one to four answers .. The column receives the meet of the set."
abbrev pub heard : notice.Reading → Read Policy → Heard
heard (notice.refused r) voice = unheard r
heard (notice.facts fs) (refused r) = unheard r
heard (notice.facts fs) (made p end) = record { refusal = refusal.none; set = answer_set (may_say fs p); answer = meet_of (may_say fs p) }

abbrev pub hear_of : List ℕ → List ℕ → Heard
hear_of n v = heard (notice.read_facts n) (read_voice v)

-- What the column receives.
abbrev pub received : Heard → Reply
received h = record { refusal = h.refusal; answer = h.answer }

abbrev pub speak_of : List ℕ → List ℕ → Reply
speak_of n v = received (hear_of n v)

-- What document 01 replies under a choice of truth for each comparison on an absent fact.
abbrev pub spoken_under : Choice → notice.Reading → Read Policy → Reply
spoken_under choice (notice.refused r) voice = record { refusal = r; answer = Silent }
spoken_under choice (notice.facts fs) (refused r) = record { refusal = r; answer = Silent }
spoken_under choice (notice.facts fs) (made p end) = succeed (says fs (under fs choice) p)

abbrev pub speak_under : Choice → List ℕ → List ℕ → Reply
speak_under choice n v = spoken_under choice (notice.read_facts n) (read_voice v)

-- "level 17 is NEST": at most 16 levels.
pub record Lawful (p : Policy) : Type 0 where
  pub levels : policy_depth p ≤ 16
  pub fits : PolicyFits p
