-- Each public function's contract determines what it returns: no two different results satisfy it. Here: speakers, and weekly counts.
use mathlib.Core.Path.{sym, ◌∙◌}
use Rattle.refusals.proofs.Apart.{checked-apart}
use Rattle.batches.proofs.Apart.{walked-apart}
use Rattle.weeks.proofs.Apart.{counted-apart}
use Rattle.promises.specs.Meaning.{Determined}
use Rattle.promises.proofs.Apart.{answered-apart, facts_read-apart, reading-apart, may_answer-apart}
use Rattle.notices.proofs.read_notice as notices-read-notice
use Rattle.notices.proofs.look_up as notices-look-up
use Rattle.notices.proofs.compare as notices-compare
use Rattle.codes.proofs.PolicyKindFromU8.from as codes-policy-kind
use Rattle.codes.proofs.TestKindFromU8.from as codes-test-kind
use denote.RattleType.{RattleType}
use denote.Param.Laws.{Laws, IsCopy}
use mir.Syntax.{Dict}
use Rattle.std.specs.declared.clone.Clone as Clone
use Rattle.sets.specs.declared.Member as Member
use Rattle.sets.proofs.AnswerMember.number as sets-answer-number
use Rattle.sets.proofs.BoolMember.number as sets-truth-number
use Rattle.sets.proofs.SetFromU8.from as sets-from-number
use Rattle.sets.proofs.U8FromSet.from as sets-number
use Rattle.sets.proofs.Set.empty as sets-empty
use Rattle.sets.proofs.Set.union as sets-union
use Rattle.sets.proofs.Set.only as sets-only
use Rattle.sets.proofs.Set.has as sets-has
use Rattle.sets.proofs.apply_one as sets-apply-one
use Rattle.sets.proofs.apply_two as sets-apply-two
use Rattle.sets.proofs.meet as sets-meet
use Rattle.truths.proofs.certain as truths-certain
use Rattle.truths.proofs.negated as truths-negated
use Rattle.truths.proofs.combine as truths-combine
use Rattle.truths.proofs.is_answer as truths-is-answer
use Rattle.truths.proofs.when_held as truths-when-held
use Rattle.leaves.proofs.Hearing.compared_at as leaves-compared-at
use Rattle.leaves.proofs.Hearing.present_at as leaves-present-at
use Rattle.policies.proofs.policy as policies-policy
use Rattle.voices.proofs.speak_set as voices-speak-set
use Rattle.voices.proofs.speak as voices-speak
use Rattle.batches.proofs.check as batches-check
use Rattle.batches.proofs.walk as batches-walk
use Rattle.counts.proofs.none as counts-none
use Rattle.counts.proofs.count_notice as counts-count-notice
use Rattle.weeks.proofs.count_onto as weeks-count-onto
use Rattle.weeks.proofs.count_week as weeks-count-week

pub notices_read_notice_determined : Determined notices-read-notice.Kinds.ps notices-read-notice.Kinds.r notices-read-notice.Reads.Post
notices_read_notice_determined = record { result = λ κs a x y s t p q. facts_read-apart x y (p ∙ sym q) }

pub notices_look_up_determined : Determined notices-look-up.Kinds.ps notices-look-up.Kinds.r notices-look-up.Reads.Post
notices_look_up_determined = record { result = λ κs a x y s t p q. p ∙ sym q }

pub notices_compare_determined : Determined notices-compare.Kinds.ps notices-compare.Kinds.r notices-compare.Reads.Post
notices_compare_determined = record { result = λ κs a x y s t p q. p ∙ sym q }

pub codes_policy_kind_determined : Determined codes-policy-kind.Kinds.ps codes-policy-kind.Kinds.r codes-policy-kind.Reads.Post
codes_policy_kind_determined = record { result = λ κs a x y s t p q. p ∙ sym q }

pub codes_test_kind_determined : Determined codes-test-kind.Kinds.ps codes-test-kind.Kinds.r codes-test-kind.Reads.Post
codes_test_kind_determined = record { result = λ κs a x y s t p q. p ∙ sym q }

pub sets_answer_number_determined : Determined sets-answer-number.Kinds.ps sets-answer-number.Kinds.r sets-answer-number.Reads.Post
sets_answer_number_determined = record { result = λ κs a x y s t p q. p.0 ∙ sym q.0 }

pub sets_truth_number_determined : Determined sets-truth-number.Kinds.ps sets-truth-number.Kinds.r sets-truth-number.Reads.Post
sets_truth_number_determined = record { result = λ κs a x y s t p q. p.0 ∙ sym q.0 }

-- of anything as members
module _ (T : RattleType) (L : Laws T) where
  pub sets_from_number_determined : Determined (sets-from-number.Kinds.ps T L) (sets-from-number.Kinds.r T L) (sets-from-number.Reads.Post T L)
  sets_from_number_determined = record { result = λ κs a x y s t p q. p ∙ sym q }

  pub sets_number_determined : Determined (sets-number.Kinds.ps T L) (sets-number.Kinds.r T L) (sets-number.Reads.Post T L)
  sets_number_determined = record { result = λ κs a x y s t p q. p ∙ sym q }

-- of members of any type
module _
    (T : RattleType) (L : Laws T) (C : IsCopy T) (M : Member.Ghosts T.Denot) (Md : Dict) (K : Clone.Ghosts T.Denot) (Kd : Dict)
  where
    pub sets_empty_determined : Determined (sets-empty.Kinds.ps T L C) (sets-empty.Kinds.r T L C) (sets-empty.Reads.Post T L C M Md K Kd)
    sets_empty_determined = record { result = λ κs a x y s t p q. p ∙ sym q }

    pub sets_only_determined : Determined (sets-only.Kinds.ps T L C) (sets-only.Kinds.r T L C) (sets-only.Reads.Post T L C M Md K Kd)
    sets_only_determined = record { result = λ κs a x y s t p q. p ∙ sym q }

    pub sets_has_determined : Determined (sets-has.Kinds.ps T L C) (sets-has.Kinds.r T L C) (sets-has.Reads.Post T L C M Md K Kd)
    sets_has_determined = record { result = λ κs a x y s t p q. p ∙ sym q }

    pub sets_union_determined : Determined (sets-union.Kinds.ps T L C) (sets-union.Kinds.r T L C) (sets-union.Reads.Post T L C M Md K Kd)
    sets_union_determined = record { result = λ κs a x y s t p q. p ∙ sym q }

pub sets_apply_one_determined : Determined sets-apply-one.Kinds.ps sets-apply-one.Kinds.r sets-apply-one.Reads.Post
sets_apply_one_determined = record { result = λ κs a x y s t p q. p ∙ sym q }

pub sets_apply_two_determined : Determined sets-apply-two.Kinds.ps sets-apply-two.Kinds.r sets-apply-two.Reads.Post
sets_apply_two_determined = record { result = λ κs a x y s t p q. p ∙ sym q }

pub sets_meet_determined : Determined sets-meet.Kinds.ps sets-meet.Kinds.r sets-meet.Reads.Post
sets_meet_determined = record { result = λ κs a x y s t p q. p ∙ sym q }

pub truths_certain_determined : Determined truths-certain.Kinds.ps truths-certain.Kinds.r truths-certain.Reads.Post
truths_certain_determined = record { result = λ κs a x y s t p q. p ∙ sym q }

pub truths_negated_determined : Determined truths-negated.Kinds.ps truths-negated.Kinds.r truths-negated.Reads.Post
truths_negated_determined = record { result = λ κs a x y s t p q. p ∙ sym q }

pub truths_combine_determined : Determined truths-combine.Kinds.ps truths-combine.Kinds.r truths-combine.Reads.Post
truths_combine_determined = record { result = λ κs a x y s t p q. p ∙ sym q }

pub truths_is_answer_determined : Determined truths-is-answer.Kinds.ps truths-is-answer.Kinds.r truths-is-answer.Reads.Post
truths_is_answer_determined = record { result = λ κs a x y s t p q. p ∙ sym q }

pub truths_when_held_determined : Determined truths-when-held.Kinds.ps truths-when-held.Kinds.r truths-when-held.Reads.Post
truths_when_held_determined = record { result = λ κs a x y s t p q. p ∙ sym q }

pub leaves_compared_at_determined : Determined leaves-compared-at.Kinds.ps leaves-compared-at.Kinds.r leaves-compared-at.Reads.Post
leaves_compared_at_determined = record { result = λ κs a x y s t p q. reading-apart x y (p ∙ sym q) }

pub leaves_present_at_determined : Determined leaves-present-at.Kinds.ps leaves-present-at.Kinds.r leaves-present-at.Reads.Post
leaves_present_at_determined = record { result = λ κs a x y s t p q. reading-apart x y (p ∙ sym q) }

pub policies_policy_determined : Determined policies-policy.Kinds.ps policies-policy.Kinds.r policies-policy.Reads.Post
policies_policy_determined = record { result = λ κs a x y s t p q. reading-apart x y (p ∙ sym q) }

pub voices_speak_set_determined : Determined voices-speak-set.Kinds.ps voices-speak-set.Kinds.r voices-speak-set.Reads.Post
voices_speak_set_determined = record { result = λ κs a x y s t p q. may_answer-apart x y (p ∙ sym q) }

pub voices_speak_determined : Determined voices-speak.Kinds.ps voices-speak.Kinds.r voices-speak.Reads.Post
voices_speak_determined = record { result = λ κs a x y s t p q. answered-apart x y (p ∙ sym q) }

pub batches_check_determined : Determined batches-check.Kinds.ps batches-check.Kinds.r batches-check.Reads.Post
batches_check_determined = record { result = λ κs a x y s t p q. checked-apart x y (p ∙ sym q) }

pub batches_walk_determined : Determined batches-walk.Kinds.ps batches-walk.Kinds.r batches-walk.Reads.Post
batches_walk_determined = record { result = λ κs a x y s t p q. walked-apart x y (p ∙ sym q) }

pub counts_none_determined : Determined counts-none.Kinds.ps counts-none.Kinds.r counts-none.Reads.Post
counts_none_determined = record { result = λ κs a x y s t p q. p ∙ sym q }

pub counts_count_notice_determined : Determined counts-count-notice.Kinds.ps counts-count-notice.Kinds.r counts-count-notice.Reads.Post
counts_count_notice_determined = record { result = λ κs a x y s t p q. p ∙ sym q }

pub weeks_count_onto_determined : Determined weeks-count-onto.Kinds.ps weeks-count-onto.Kinds.r weeks-count-onto.Reads.Post
weeks_count_onto_determined = record { result = λ κs a x y s t p q. counted-apart x y (p ∙ sym q) }

pub weeks_count_week_determined : Determined weeks-count-week.Kinds.ps weeks-count-week.Kinds.r weeks-count-week.Reads.Post
weeks_count_week_determined = record { result = λ κs a x y s t p q. counted-apart x y (p ∙ sym q) }
