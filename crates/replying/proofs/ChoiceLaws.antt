-- A voice's set and its meet, held against document 01's reply under a choice of truth for each comparison on an absent fact.
use Prim.Native.Nat.{ℕ, ◌≤◌}
use mathlib.Core.Path.{◌≡◌, refl, ap, subst}
use mathlib.Core.Bool.{true}
use mathlib.Core.List.Memᴰ
use mathlib.Core.List.{List, []}
use Rattle.answers.specs.declared.Answer.{Answer}
use Rattle.answers.specs.Meaning.{number, contained, succeed}
use Rattle.notices.specs.Meaning as notice
use Rattle.notices.proofs.Found.{Found, read_rest-found}
use Rattle.sets.specs.Meaning.{set_of, has}
use Rattle.sets.proofs.Numbers.{among_has, has_among}
use Rattle.sets.proofs.Meets.{meet_of-contained, meet_of-greatest}
use Rattle.sets.proofs.Bounds.{set-some, set-most}
use Rattle.trees.specs.Meaning.{Policy, Choice, says, under, always_false, may_say, Read, made, refused}
use Rattle.choosing.proofs.Choices.{says_among, among_says, may_say-some}
use Rattle.voices.specs.Meaning.{read_voice, heard, hear_of, spoken_under, speak_under}
use Rattle.replying.proofs.ReplyLaws.{refuses_loud}
use Rattle.replying.proofs.VoiceNumbers.{Makes, read_voice_makes}

-- The empty set has no member.
has-none : (a : Answer) → has number a 0 ≡ true → ⊥
unfolding set_of
has-none a h = Memᴰ.not-nil (has_among a [] h)

-- A notice and a voice as they were read.
module _ (choice : Choice) where
  heard-refusal : (x : notice.Reading) (y : Read Policy) → (spoken_under choice x y).refusal ≡ (heard x y).refusal
  heard-refusal (notice.refused r) y = refl
  heard-refusal (notice.facts fs) (refused r) = refl
  heard-refusal (notice.facts fs) (made p end) = refl

  heard-contained : (x : notice.Reading) (y : Read Policy) → contained (heard x y).answer (spoken_under choice x y).answer ≡ true
  heard-contained (notice.refused r) y = refl
  heard-contained (notice.facts fs) (refused r) = refl
  heard-contained (notice.facts fs) (made p end) = meet_of-contained (says fs (under fs choice) p) (may_say fs p) (says_among fs choice p)

module _ (a : Answer) where
  heard_choice : (x : notice.Reading) (y : Read Policy) → has number a (heard x y).set ≡ true →
      (choice : Choice) × (spoken_under choice x y ≡ succeed a)
  heard_choice (notice.refused r) y h = absurd (has-none a h)
  heard_choice (notice.facts fs) (refused r) h = absurd (has-none a h)
  heard_choice (notice.facts fs) (made p end) h =
      let c = among_says fs p a (has_among a (may_say fs p) h) in (c.0, ap succeed c.1)

  heard-greatest : (x : notice.Reading) (y : Read Policy) →
      ((choice : Choice) → contained a (spoken_under choice x y).answer ≡ true) → contained a (heard x y).answer ≡ true
  heard-greatest (notice.refused r) y h = h always_false
  heard-greatest (notice.facts fs) (refused r) h = h always_false
  heard-greatest (notice.facts fs) (made p end) h =
      meet_of-greatest a (may_say fs p)
      (λ b i. let c = among_says fs p b i in subst (λ (x : Answer). contained a x ≡ true) c.1 (h c.0))

-- The same where both are accepted: what is refused has a number.
module _ (n : List ℕ) where
  heard_in : (choice : Choice) (x : notice.Reading) (y : Read Policy) → Found 32 n x → Makes y → (heard x y).refusal.number ≡ 0 →
      has number (spoken_under choice x y).answer (heard x y).set ≡ true
  heard_in choice (notice.refused r) y f m z = absurd (f z)
  heard_in choice (notice.facts fs) (refused r) f m z = absurd (refuses_loud r m z)
  heard_in choice (notice.facts fs) (made p end) f m z =
      among_has (says fs (under fs choice) p) (may_say fs p) (says_among fs choice p)

  heard-some : (x : notice.Reading) (y : Read Policy) → Found 32 n x → Makes y → (heard x y).refusal.number ≡ 0 →
      (1 ≤ (heard x y).set) × ((heard x y).set ≤ 15)
  heard-some (notice.refused r) y f m z = absurd (f z)
  heard-some (notice.facts fs) (refused r) f m z = absurd (refuses_loud r m z)
  heard-some (notice.facts fs) (made p end) f m z = (set-some (may_say fs p) (may_say-some fs p), set-most (may_say fs p))

module _ (n v : List ℕ) where
  pub under-refusal : (choice : Choice) → (speak_under choice n v).refusal ≡ (hear_of n v).refusal
  under-refusal choice = heard-refusal choice (notice.read_facts n) (read_voice v)

  pub under_in : (choice : Choice) → (hear_of n v).refusal.number ≡ 0 →
      has number (speak_under choice n v).answer (hear_of n v).set ≡ true
  under_in choice = heard_in n choice (notice.read_facts n) (read_voice v) (read_rest-found 32 0 0 n) (read_voice_makes v)

  pub in_under : (a : Answer) → has number a (hear_of n v).set ≡ true → (choice : Choice) × (speak_under choice n v ≡ succeed a)
  in_under a = heard_choice a (notice.read_facts n) (read_voice v)

  pub set_range : (hear_of n v).refusal.number ≡ 0 → (1 ≤ (hear_of n v).set) × ((hear_of n v).set ≤ 15)
  set_range = heard-some n (notice.read_facts n) (read_voice v) (read_rest-found 32 0 0 n) (read_voice_makes v)

  pub column-contained : (choice : Choice) → contained (hear_of n v).answer (speak_under choice n v).answer ≡ true
  column-contained choice = heard-contained choice (notice.read_facts n) (read_voice v)

  pub column-greatest : (a : Answer) → ((choice : Choice) → contained a (speak_under choice n v).answer ≡ true) →
      contained a (hear_of n v).answer ≡ true
  column-greatest a = heard-greatest a (notice.read_facts n) (read_voice v)
