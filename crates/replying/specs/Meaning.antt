-- Words for the numbers that a caller gets: which are published, and what a refusal returns besides them.
use Rattle.std.specs.Prelude.{ℕ, ◌≡◌, Bool, false, not, ◌&&◌, ◌||◌, T, ltb, eqb}
use Rattle.refusals.specs.Meaning.{Numbers, none, TAG, LEN, OVERLAP, WEEK}
use Rattle.answers.specs.declared.Answer.TheVariants.{Silent}
use Rattle.answers.specs.Meaning.{Reply}
use Rattle.operands.specs.Meaning.{Related}
use Rattle.notices.specs.Meaning.{Noticed}
use Rattle.growth.specs.Meaning.{Growth, without}
use Rattle.situations.specs.Meaning.{Merged}
use Rattle.situations.specs.declared.Situation.{Situation}

-- "1 SHORT, .. 14 SITUATION, .. 21 FACTS. Number 15 is unused.": the numbers of document 01's replies.
abbrev pub document01 : ℕ → Bool
document01 number = ltb 0 number && ltb number 22 && not (eqb number 15)

-- Every number that is published: those, and of document 02 "28 WEEK".
abbrev pub published : ℕ → Bool
published number = document01 number || eqb number WEEK

-- The numbers that a notice is refused with, SHORT, TAG, LEN, RISE and FACTS, and a voice, CODE, CUT, NEST and TAIL; and 0.
abbrev pub spoken : ℕ → Bool
spoken number = ltb number 2 || eqb number TAG || eqb number LEN || (ltb 15 number && ltb number 22)

-- The numbers that a caller gets, of a reply with its refusal and of what a refusal returns: "Success is 0 with its result, place and
-- second number 0. A refusal returns number, place and second number (0 but for OVERLAP), answer silent, any other result number 0,
-- neither yes nor no from the growth check."
pub record Replied {A : Type 0} (refusal : A → Numbers) (refuse : Numbers → A) (reply : A) : Type 0 where
  pub success : (refusal reply).number ≡ 0 → refusal reply ≡ none
  pub refused : ((refusal reply).number ≡ 0 → ⊥) → T (document01 (refusal reply).number)
  pub second : ((refusal reply).number ≡ OVERLAP → ⊥) → (refusal reply).second ≡ 0
  pub nothing_else : ((refusal reply).number ≡ 0 → ⊥) → reply ≡ refuse (refusal reply)

-- What a refusal returns besides its numbers, where no crate below names it: of an answer, of a containment, of a notice, of the growth
-- check, and of a merge ("a refused merge hands back the first as it came").
abbrev pub refuse_reply : Numbers → Reply
refuse_reply r = record { refusal = r; answer = Silent }

abbrev pub refuse_related : Numbers → Related
refuse_related r = record { refusal = r; contained = false }

abbrev pub refuse_noticed : Numbers → Noticed
refuse_noticed r = record { refusal = r; facts = 0 }

abbrev pub refuse_growth : Numbers → Growth
refuse_growth r = without r 0

abbrev pub hand_back : Situation → Numbers → Merged
hand_back s r = record { refusal = r; situation = s }
