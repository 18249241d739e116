-- Weekly counts (request K2): a voice's record over a batch, how many of the notices read gave each answer and how many were refused,
-- by number. Here is what the counts say, over all batches and voices; how a batch is read is said in Batches.
use Prim.Native.Nat.{ℕ, ◌+◌, ◌≤◌, ◌<◌}
use mathlib.Core.Path.{◌≡◌, refl, ◌∙◌}
use mathlib.Core.Logic.{◌↔◌}
use mathlib.Core.Bool.{true}
use mathlib.Core.List.{List}
use native.Mathlib.Omega.{arith}
use lib.Dec.{T, eqb}
use lib.ListN.{length, get_or}
use Rattle.refusals.specs.Meaning.{Numbers}
use Rattle.answers.specs.declared.Answer.{Answer}
use Rattle.answers.specs.declared.Answer.TheVariants.{Silent, Bury, Keep, Clash}
use Rattle.answers.specs.Meaning.{Reply}
use Rattle.notices.specs.Meaning as notice
use Rattle.trees.specs.Meaning.{refused}
use Rattle.voices.specs.Meaning.{read_voice, speak_of}
use Rattle.batches.specs.Meaning.{read_batch}
use Rattle.counts.specs.declared.Counts.{Counts}
use Rattle.counts.specs.Meaning as counts
use Rattle.counts.specs.Meaning.{count, gave, refused_as, counts_of}
use Rattle.weeks.specs.Meaning.{replies, week_of}
use Rattle.replying.specs.Meaning.{spoken, refuse_reply}
use Rattle.counting.specs.Meaning.{total, first_number}
use Rattle.counting.proofs.Totals.{five_add_up, numbers-length, numbers_at, numbers_add_up}
use Rattle.counting.proofs.Outcomes.{gave_exactly, refused_exactly, refused_as_exactly}
use Rattle.counting.proofs.Records as records

-- "The five totals add up to the notices read."
pub week_adds_up : (batch voice : List ℕ) →
    let c = (week_of batch voice).counts in
    c.silent + c.bury + c.keep + c.clash + c.refused ≡ length (read_batch batch).notices
week_adds_up batch voice =
    let ns = (read_batch batch).notices in five_add_up (replies voice ns) ∙ records.replies-length voice ns

-- The numbers refused by number add up to the refused.
pub refused_add_up : (batch voice : List ℕ) → total (week_of batch voice).counts.numbers ≡ (week_of batch voice).counts.refused
refused_add_up batch voice =
    let ns = (read_batch batch).notices in numbers_add_up (replies voice ns) (records.replies-numbered voice ns)

-- What a reply is counted as: an answer, where nothing is refused, or the number that is refused with.
pub counted_as_answer : (a : Answer) (r : Reply) → (gave a r ≡ true) ↔ ((r.refusal.number ≡ 0) × (r.answer ≡ a))
counted_as_answer = gave_exactly

pub counted_as_refused : (r : Reply) → (counts.refused r ≡ true) ↔ (r.refusal.number ≡ 0 → ⊥)
counted_as_refused = refused_exactly

pub counted_as_number : (k : ℕ) (r : Reply) → (refused_as k r ≡ true) ↔ ((r.refusal.number ≡ 0 → ⊥) × (r.refusal.number ≡ k))
counted_as_number = refused_as_exactly

-- "each defined by going through the batch and not from the stored sums": every count is the number of notices read with that outcome.
abbrev answer_count : Answer → Counts → ℕ
answer_count Silent c = c.silent
answer_count Bury c = c.bury
answer_count Keep c = c.keep
answer_count Clash c = c.clash

answer-count : (a : Answer) (voice : List ℕ) (ns : List (List ℕ)) →
    answer_count a (counts_of (replies voice ns)) ≡ count (gave a) (replies voice ns)
answer-count Silent voice ns = refl
answer-count Bury voice ns = refl
answer-count Keep voice ns = refl
answer-count Clash voice ns = refl

module _ (batch voice : List ℕ) where
  pub each_answer_counted : (a : Answer) →
      answer_count a (week_of batch voice).counts ≡ count (λ n. gave a (speak_of n voice)) (read_batch batch).notices
  each_answer_counted a =
      let ns = (read_batch batch).notices in
      answer-count a voice ns ∙ records.count_map (gave a) (λ n. speak_of n voice) (λ n. gave a (speak_of n voice)) (λ n. refl) ns

  pub each_refusal_counted : (week_of batch voice).counts.refused ≡ count (λ n. counts.refused (speak_of n voice)) (read_batch batch).notices
  each_refusal_counted =
      records.count_map counts.refused (λ n. speak_of n voice) (λ n. counts.refused (speak_of n voice)) (λ n. refl) (read_batch batch).notices

  -- "and how many were refused, by number": 32 places, and at each how many were refused with that number.
  pub numbers-places : length (week_of batch voice).counts.numbers ≡ 32
  numbers-places = numbers-length 0 32 (replies voice (read_batch batch).notices)

  at_number : (k : ℕ) → k < 32 →
      get_or (week_of batch voice).counts.numbers k 0 ≡ count (refused_as k) (replies voice (read_batch batch).notices)
  at_number k l =
      let e : 0 + k ≡ k = omega arith in
      rw e at (numbers_at 0 32 k (replies voice (read_batch batch).notices) l)

  pub each_number_counted : (k : ℕ) → k < 32 →
      get_or (week_of batch voice).counts.numbers k 0 ≡ count (λ n. refused_as k (speak_of n voice)) (read_batch batch).notices
  each_number_counted k l =
      at_number k l
      ∙ records.count_map (refused_as k) (λ n. speak_of n voice) (λ n. refused_as k (speak_of n voice)) (λ n. refl) (read_batch batch).notices

  -- A number that no notice and no voice is refused with stays 0: so do 15 and 22 to 31, and 0, which is no refusal.
  pub other_numbers_none : (k : ℕ) → k < 32 → (T (spoken k) → ⊥) → get_or (week_of batch voice).counts.numbers k 0 ≡ 0
  other_numbers_none k l h = at_number k l ∙ records.unspoken_none k h voice (read_batch batch).notices

  pub number_15_none : get_or (week_of batch voice).counts.numbers 15 0 ≡ 0
  number_15_none = other_numbers_none 15 (omega arith) (λ h. h)

  pub numbers_from_22_none : (k : ℕ) → 22 ≤ k → k < 32 → get_or (week_of batch voice).counts.numbers k 0 ≡ 0
  numbers_from_22_none k h l = other_numbers_none k l (λ s. let m = records.spoken-small k s in omega (arith, h, m))

  pub number_0_none : get_or (week_of batch voice).counts.numbers 0 0 ≡ 0
  number_0_none = at_number 0 (omega arith) ∙ records.zero-none voice (read_batch batch).notices

-- "A refused voice counts every notice as refused, under the notice's number where that is refused first": each notice by itself ..
pub notice_refused_first : (n voice : List ℕ) (q : Numbers) → notice.read_facts n ≡ notice.refused q → speak_of n voice ≡ refuse_reply q
notice_refused_first = records.unheard-notice

module _ (voice : List ℕ) (r : Numbers) (e : read_voice voice ≡ refused r) where
  pub refused_voice_notice : (n : List ℕ) (fs : List notice.Fact) → notice.read_facts n ≡ notice.facts fs → speak_of n voice ≡ refuse_reply r
  refused_voice_notice = records.unheard_voice voice r e

  -- .. and all of them, counted.
  pub refused_voice : (batch : List ℕ) →
      let c = (week_of batch voice).counts in
      (c.silent ≡ 0) × (c.bury ≡ 0) × (c.keep ≡ 0) × (c.clash ≡ 0) × (c.refused ≡ length (read_batch batch).notices)
  refused_voice batch =
      let ns = (read_batch batch).notices in
      let none = records.unheard-gave voice r e ns in
      (none Silent, none Bury, none Keep, none Clash, records.unheard-refused voice r e ns)

  pub refused_voice_numbers : (batch : List ℕ) (k : ℕ) → k < 32 →
      get_or (week_of batch voice).counts.numbers k 0 ≡ count (λ n. eqb (first_number r n) k) (read_batch batch).notices
  refused_voice_numbers batch k l = at_number batch voice k l ∙ records.unheard_as voice r e (read_batch batch).notices k
