-- Absent facts (request K1): a comparison on an absent fact may be true or false, a voice answers a set, and its column receives the
-- meet of the set. Here is that set, over all notices and voices, held against document 01's answer under every choice of truth for
-- each such comparison; and the readings taken.
use Prim.Native.Nat.{ℕ, ◌≤◌}
use mathlib.Core.Path.{◌≡◌, refl, ap, ◌∙◌}
use mathlib.Core.Bool.{true, false}
use mathlib.Core.List.{List, [], ◌∷◌, ◌++◌}
use Rattle.refusals.specs.Meaning.{none}
use Rattle.answers.specs.declared.Answer.{Answer}
use Rattle.answers.specs.declared.Answer.TheVariants.{Silent, Keep}
use Rattle.answers.specs.declared.operators.Two.TheVariants.{Join}
use Rattle.answers.specs.Meaning.{number, contained, succeed}
use Rattle.answers.proofs.Every.{each}
use Rattle.notices.specs.declared.Comparison.{Comparison}
use Rattle.notices.specs.declared.Comparison.TheVariants.{Below}
use Rattle.std.specs.Prelude.{None}
use Rattle.notices.specs.Meaning as notice
use Rattle.codes.specs.Meaning.{policy_kind, test_kind}
use Rattle.sets.specs.Meaning.{set_of, has, answer_set, meet_of}
use Rattle.sets.proofs.Numbers.{among_has, has_among}
use Rattle.sets.proofs.Meets.{meet_of-contained, meet_of-greatest}
use Rattle.trees.specs.Meaning.{Policy, constant, two, when, not, comparison, present, says, Choice, under, always_false, may_say, may_hold}
use Rattle.trees.specs.Meaning.{PolicyCertain, Gains, PolicyUnasked, comparison_at, policy_at, PolicyBytes}
use Rattle.voices.specs.Meaning as voice
use Rattle.voices.specs.Meaning.{Heard, hear_of, speak_of, speak_under}
use Rattle.choosing.proofs.Choices.{says_among}
use Rattle.choosing.proofs.Certain.{may_say-certain, certain-says}
use Rattle.choosing.proofs.Gains.{may_say_gains, gains_one}
use Rattle.replying.proofs.ChoiceLaws as choices
use Rattle.replying.proofs.VoiceNumbers.{hear_of_hears}
use Rattle.promises.proofs.Demand2Voices.{speaks_as_published}

-- Which notices and voices are refused, and with which numbers, is as it was: no choice plays a part in reading.
pub refused_as_before : (choice : Choice) (n v : List ℕ) → (speak_under choice n v).refusal ≡ (hear_of n v).refusal
refused_as_before choice n v = choices.under-refusal n v choice

pub column_refused_alike : (n v : List ℕ) → (speak_of n v).refusal ≡ (hear_of n v).refusal
column_refused_alike n v = refl

-- "Prove that for every choice of truth for each absent comparison the answer that document 01's rules give under that choice lies in
-- the set."
pub every_choice_in_set : (choice : Choice) (n v : List ℕ) → (hear_of n v).refusal.number ≡ 0 →
    has number (speak_under choice n v).answer (hear_of n v).set ≡ true
every_choice_in_set choice n v = choices.under_in n v choice

-- Nothing else lies in it: each member is the answer under some choice.
pub every_member_chosen : (n v : List ℕ) (a : Answer) → has number a (hear_of n v).set ≡ true →
    (choice : Choice) × (speak_under choice n v ≡ succeed a)
every_member_chosen = choices.in_under

-- "a set of one to four answers"; in a refusal the set's number is 0 and the answer silent.
pub set_one_to_four : (n v : List ℕ) → (hear_of n v).refusal.number ≡ 0 → (1 ≤ (hear_of n v).set) × ((hear_of n v).set ≤ 15)
set_one_to_four = choices.set_range

pub refused_without_set : (n v : List ℕ) → ((hear_of n v).refusal.number ≡ 0 → ⊥) → ((hear_of n v).set ≡ 0) × ((hear_of n v).answer ≡ Silent)
refused_without_set n v h =
    let e = (hear_of_hears n v).nothing_else h in (ap (λ (x : Heard). x.set) e, ap (λ (x : Heard). x.answer) e)

-- "The column receives the meet of the set": what it receives is contained in the answer under every choice ..
pub column_in_every_choice : (choice : Choice) (n v : List ℕ) → contained (speak_of n v).answer (speak_under choice n v).answer ≡ true
column_in_every_choice choice n v = choices.column-contained n v choice

-- .. and is the greatest answer that is.
pub column-greatest : (n v : List ℕ) (a : Answer) → ((choice : Choice) → contained a (speak_under choice n v).answer ≡ true) →
    contained a (speak_of n v).answer ≡ true
column-greatest = choices.column-greatest

-- Where no comparison meets an absent fact, the set is document 01's one answer, and the column receives it.
meet-alone : (a : Answer) → meet_of (a ∷ []) ≡ a
meet-alone = each _ (search refl)

pub certain_as_before : (fs : List notice.Fact) (p : Policy) (v : List ℕ) →
    notice.Lawful fs → voice.Lawful p → PolicyBytes p v → PolicyCertain fs p →
    hear_of (notice.bytes_of fs) v
    ≡ record {
      refusal = none;
      set = answer_set (says fs (under fs always_false) p ∷ []);
      answer = says fs (under fs always_false) p;
    }
certain_as_before fs p v h i b c =
    speaks_as_published fs p v h i b ∙ rw (may_say-certain fs always_false p c, meet-alone (says fs (under fs always_false) p))

pub certain_column_as_before : (fs : List notice.Fact) (p : Policy) (v : List ℕ) →
    notice.Lawful fs → voice.Lawful p → PolicyBytes p v → PolicyCertain fs p →
    speak_of (notice.bytes_of fs) v ≡ succeed (says fs (under fs always_false) p)
certain_column_as_before fs p v h i b c = ap voice.received (certain_as_before fs p v h i b c)

-- There every choice gives that answer.
pub certain_every_choice : (fs : List notice.Fact) (p : Policy) → PolicyCertain fs p → (choice : Choice) →
    says fs (under fs choice) p ≡ says fs (under fs always_false) p
certain_every_choice fs p c choice = certain-says fs always_false p c (says fs (under fs choice) p) (says_among fs choice p)

-- Facts that arrive only sharpen an answer: where a notice gains facts, the others staying as they are, the set can only lose answers,
-- and what the column receives can only grow. So it is of a voice that does not ask whether what is new is present.
module _ (fs gs : List notice.Fact) (p : Policy) (v : List ℕ) (h : notice.Lawful fs) (k : notice.Lawful gs) (i : voice.Lawful p)
    (b : PolicyBytes p v) (g : Gains fs gs) (u : PolicyUnasked fs gs p) where
  pub more_facts_fewer_answers : (a : Answer) →
      has number a (hear_of (notice.bytes_of gs) v).set ≡ true → has number a (hear_of (notice.bytes_of fs) v).set ≡ true
  more_facts_fewer_answers a =
      rw (speaks_as_published fs p v h i b, speaks_as_published gs p v k i b)
      (λ m. among_has a (may_say fs p) (may_say_gains fs gs g p u a (has_among a (may_say gs p) m)))

  pub more_facts_column_grows : contained (speak_of (notice.bytes_of fs) v).answer (speak_of (notice.bytes_of gs) v).answer ≡ true
  more_facts_column_grows =
      rw (speaks_as_published fs p v h i b, speaks_as_published gs p v k i b)
      (meet_of-greatest (meet_of (may_say fs p)) (may_say gs p) (λ a m. meet_of-contained a (may_say fs p) (may_say_gains fs gs g p u a m)))

-- One fact put in, of which the notice said nothing, is such a gain.
pub one_fact_gained : (fs rest : List notice.Fact) (f : notice.Fact) → notice.seen (fs ++ rest) f.number ≡ None →
    Gains (fs ++ rest) (fs ++ f ∷ rest)
one_fact_gained = gains_one

-- The readings. A comparison on an absent fact is both truths whatever it compares, so `below 0` is; a test for presence is certain.
pub absent_open : (fs : List notice.Fact) (c : Comparison) (fact value : ℕ) → notice.seen fs fact ≡ None →
    may_hold fs (comparison c fact value) ≡ false ∷ true ∷ []
unfolding may_say
absent_open fs c fact value e = rw e

pub below_zero_open : (fs : List notice.Fact) (fact : ℕ) → notice.seen fs fact ≡ None →
    may_hold fs (comparison Below fact 0) ≡ false ∷ true ∷ []
below_zero_open fs fact = absent_open fs Below fact 0

pub present-certain : (fs : List notice.Fact) (fact : ℕ) → may_hold fs (present fact) ≡ notice.present (notice.seen fs fact) ∷ []
unfolding may_say
present-certain fs fact = refl

-- Each occurrence of a comparison is chosen by itself: `keep when c` joined with `keep when not c`, the same absent comparison twice,
-- is silent or keep, and its column silent.
pub chosen_apart : (fs : List notice.Fact) (c : Comparison) (fact value : ℕ) → notice.seen fs fact ≡ None →
    let p = two Join (when (comparison c fact value) (constant Keep)) (when (not (comparison c fact value)) (constant Keep)) in
    (answer_set (may_say fs p) ≡ answer_set (Silent ∷ Keep ∷ [])) × (meet_of (may_say fs p) ≡ Silent)
unfolding may_say set_of
chosen_apart fs c fact value e = rw e (refl, refl)

-- "Example 16 becomes silent": to the empty notice its voice answers keep by document 01's rules, and now silent or keep.
abbrev example16 : List ℕ
example16 = 24 ∷ 40 ∷ 43 ∷ 0 ∷ 7 ∷ 0 ∷ 0 ∷ 0 ∷ 1 ∷ 2 ∷ []

pub example_16 :
    (speak_under always_false [] example16 ≡ succeed Keep)
    × (hear_of [] example16 ≡ record { refusal = none; set = answer_set (Silent ∷ Keep ∷ []); answer = Silent })
    × (speak_of [] example16 ≡ succeed Silent)
unfolding notice.read_rest notice.seen policy_kind test_kind set_of says may_say comparison_at policy_at
example_16 = (refl, refl, refl)
