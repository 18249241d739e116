-- Each public function's contract determines what it returns: no two different results satisfy it. Here: answers and situations.
-- `Post` is the contract itself, as the checker reads it off the source.
use mathlib.Core.Path.{sym, ◌∙◌}
use Rattle.promises.specs.Meaning.{Determined}
use Rattle.promises.proofs.Apart.{answered-apart, related-apart, merged-apart}
use Rattle.refusals.proofs.Apart.{checked-apart}
use Rattle.refusals.proofs.U8FromKind.from as refusals-number
use Rattle.refusals.proofs.Refusal.at as refusals-at
use Rattle.refusals.proofs.none as refusals-none
use Rattle.refusals.proofs.refused as refusals-refused
use Rattle.refusals.proofs.NumbersFromRefusal.from as refusals-numbers
use Rattle.fields.proofs.two as fields-two
use Rattle.fields.proofs.four as fields-four
use Rattle.fields.proofs.short_header as fields-short-header
use Rattle.fields.proofs.tag as fields-tag
use Rattle.fields.proofs.size as fields-size
use Rattle.fields.proofs.short_value as fields-short-value
use Rattle.fields.proofs.first_above as fields-first-above
use Rattle.answers.proofs.U8FromAnswer.from as answers-number
use Rattle.answers.proofs.AnswerFromU8.from as answers-from-number
use Rattle.answers.proofs.contained as answers-contained
use Rattle.answers.proofs.operators.negate as answers-negate
use Rattle.answers.proofs.operators.turn as answers-turn
use Rattle.answers.proofs.operators.floor as answers-floor
use Rattle.answers.proofs.operators.ceiling as answers-ceiling
use Rattle.answers.proofs.operators.meet as answers-meet
use Rattle.answers.proofs.operators.join as answers-join
use Rattle.answers.proofs.operators.truth_meet as answers-truth-meet
use Rattle.answers.proofs.operators.truth_join as answers-truth-join
use Rattle.answers.proofs.operators.implication as answers-implication
use Rattle.answers.proofs.operators.guard as answers-guard
use Rattle.answers.proofs.operators.priority as answers-priority
use Rattle.answers.proofs.operators.replace as answers-replace
use Rattle.answers.proofs.operators.apply_one as answers-apply-one
use Rattle.answers.proofs.operators.apply_two as answers-apply-two
use Rattle.operands.proofs.one as operands-one
use Rattle.operands.proofs.two as operands-two
use Rattle.operands.proofs.replace as operands-replace
use Rattle.operands.proofs.contained as operands-contained
use Rattle.situations.proofs.check as situations-check
use Rattle.situations.proofs.Situation.check as situations-by-value-check
use Rattle.situations.proofs.Situation.merge as situations-merge
use Rattle.base4.proofs.weight as base4-weight
use Rattle.base4.proofs.digit as base4-digit
use Rattle.base4.proofs.situation_at as base4-situation-at
use Rattle.base4.proofs.index as base4-index

pub refusals_number_determined : Determined refusals-number.Kinds.ps refusals-number.Kinds.r refusals-number.Reads.Post
refusals_number_determined = record { result = λ κs a x y s t p q. p ∙ sym q }

pub refusals_at_determined : Determined refusals-at.Kinds.ps refusals-at.Kinds.r refusals-at.Reads.Post
refusals_at_determined = record { result = λ κs a x y s t p q. p ∙ sym q }

pub refusals_none_determined : Determined refusals-none.Kinds.ps refusals-none.Kinds.r refusals-none.Reads.Post
refusals_none_determined = record { result = λ κs a x y s t p q. p ∙ sym q }

pub refusals_refused_determined : Determined refusals-refused.Kinds.ps refusals-refused.Kinds.r refusals-refused.Reads.Post
refusals_refused_determined = record { result = λ κs a x y s t p q. p ∙ sym q }

pub refusals_numbers_determined : Determined refusals-numbers.Kinds.ps refusals-numbers.Kinds.r refusals-numbers.Reads.Post
refusals_numbers_determined = record { result = λ κs a x y s t p q. p ∙ sym q }

pub fields_two_determined : Determined fields-two.Kinds.ps fields-two.Kinds.r fields-two.Reads.Post
fields_two_determined = record { result = λ κs a x y s t p q. p.0 ∙ sym q.0 }

pub fields_four_determined : Determined fields-four.Kinds.ps fields-four.Kinds.r fields-four.Reads.Post
fields_four_determined = record { result = λ κs a x y s t p q. p ∙ sym q }

pub fields_short_header_determined : Determined fields-short-header.Kinds.ps fields-short-header.Kinds.r fields-short-header.Reads.Post
fields_short_header_determined = record { result = λ κs a x y s t p q. p ∙ sym q }

pub fields_tag_determined : Determined fields-tag.Kinds.ps fields-tag.Kinds.r fields-tag.Reads.Post
fields_tag_determined = record { result = λ κs a x y s t p q. p ∙ sym q }

pub fields_size_determined : Determined fields-size.Kinds.ps fields-size.Kinds.r fields-size.Reads.Post
fields_size_determined = record { result = λ κs a x y s t p q. p ∙ sym q }

pub fields_short_value_determined : Determined fields-short-value.Kinds.ps fields-short-value.Kinds.r fields-short-value.Reads.Post
fields_short_value_determined = record { result = λ κs a x y s t p q. p ∙ sym q }

pub fields_first_above_determined : Determined fields-first-above.Kinds.ps fields-first-above.Kinds.r fields-first-above.Reads.Post
fields_first_above_determined = record { result = λ κs a x y s t p q. p ∙ sym q }

pub answers_number_determined : Determined answers-number.Kinds.ps answers-number.Kinds.r answers-number.Reads.Post
answers_number_determined = record { result = λ κs a x y s t p q. p ∙ sym q }

pub answers_from_number_determined : Determined answers-from-number.Kinds.ps answers-from-number.Kinds.r answers-from-number.Reads.Post
answers_from_number_determined = record { result = λ κs a x y s t p q. p ∙ sym q }

pub answers_contained_determined : Determined answers-contained.Kinds.ps answers-contained.Kinds.r answers-contained.Reads.Post
answers_contained_determined = record { result = λ κs a x y s t p q. p ∙ sym q }

pub answers_negate_determined : Determined answers-negate.Kinds.ps answers-negate.Kinds.r answers-negate.Reads.Post
answers_negate_determined = record { result = λ κs a x y s t p q. p ∙ sym q }

pub answers_turn_determined : Determined answers-turn.Kinds.ps answers-turn.Kinds.r answers-turn.Reads.Post
answers_turn_determined = record { result = λ κs a x y s t p q. p ∙ sym q }

pub answers_floor_determined : Determined answers-floor.Kinds.ps answers-floor.Kinds.r answers-floor.Reads.Post
answers_floor_determined = record { result = λ κs a x y s t p q. p ∙ sym q }

pub answers_ceiling_determined : Determined answers-ceiling.Kinds.ps answers-ceiling.Kinds.r answers-ceiling.Reads.Post
answers_ceiling_determined = record { result = λ κs a x y s t p q. p ∙ sym q }

pub answers_meet_determined : Determined answers-meet.Kinds.ps answers-meet.Kinds.r answers-meet.Reads.Post
answers_meet_determined = record { result = λ κs a x y s t p q. p ∙ sym q }

pub answers_join_determined : Determined answers-join.Kinds.ps answers-join.Kinds.r answers-join.Reads.Post
answers_join_determined = record { result = λ κs a x y s t p q. p ∙ sym q }

pub answers_truth_meet_determined : Determined answers-truth-meet.Kinds.ps answers-truth-meet.Kinds.r answers-truth-meet.Reads.Post
answers_truth_meet_determined = record { result = λ κs a x y s t p q. p ∙ sym q }

pub answers_truth_join_determined : Determined answers-truth-join.Kinds.ps answers-truth-join.Kinds.r answers-truth-join.Reads.Post
answers_truth_join_determined = record { result = λ κs a x y s t p q. p ∙ sym q }

pub answers_implication_determined : Determined answers-implication.Kinds.ps answers-implication.Kinds.r answers-implication.Reads.Post
answers_implication_determined = record { result = λ κs a x y s t p q. p ∙ sym q }

pub answers_guard_determined : Determined answers-guard.Kinds.ps answers-guard.Kinds.r answers-guard.Reads.Post
answers_guard_determined = record { result = λ κs a x y s t p q. p ∙ sym q }

pub answers_priority_determined : Determined answers-priority.Kinds.ps answers-priority.Kinds.r answers-priority.Reads.Post
answers_priority_determined = record { result = λ κs a x y s t p q. p ∙ sym q }

pub answers_replace_determined : Determined answers-replace.Kinds.ps answers-replace.Kinds.r answers-replace.Reads.Post
answers_replace_determined = record { result = λ κs a x y s t p q. p ∙ sym q }

pub answers_apply_one_determined : Determined answers-apply-one.Kinds.ps answers-apply-one.Kinds.r answers-apply-one.Reads.Post
answers_apply_one_determined = record { result = λ κs a x y s t p q. p ∙ sym q }

pub answers_apply_two_determined : Determined answers-apply-two.Kinds.ps answers-apply-two.Kinds.r answers-apply-two.Reads.Post
answers_apply_two_determined = record { result = λ κs a x y s t p q. p ∙ sym q }

pub operands_one_determined : Determined operands-one.Kinds.ps operands-one.Kinds.r operands-one.Reads.Post
operands_one_determined = record { result = λ κs a x y s t p q. answered-apart x y (p ∙ sym q) }

pub operands_two_determined : Determined operands-two.Kinds.ps operands-two.Kinds.r operands-two.Reads.Post
operands_two_determined = record { result = λ κs a x y s t p q. answered-apart x y (p ∙ sym q) }

pub operands_replace_determined : Determined operands-replace.Kinds.ps operands-replace.Kinds.r operands-replace.Reads.Post
operands_replace_determined = record { result = λ κs a x y s t p q. answered-apart x y (p ∙ sym q) }

pub operands_contained_determined : Determined operands-contained.Kinds.ps operands-contained.Kinds.r operands-contained.Reads.Post
operands_contained_determined = record { result = λ κs a x y s t p q. related-apart x y (p ∙ sym q) }

pub situations_check_determined : Determined situations-check.Kinds.ps situations-check.Kinds.r situations-check.Reads.Post
situations_check_determined = record { result = λ κs a x y s t p q. checked-apart x y (p ∙ sym q) }

pub situations_by_value_check_determined : Determined situations-by-value-check.Kinds.ps situations-by-value-check.Kinds.r situations-by-value-check.Reads.Post
situations_by_value_check_determined = record { result = λ κs a x y s t p q. checked-apart x y (p ∙ sym q) }

pub situations_merge_determined : Determined situations-merge.Kinds.ps situations-merge.Kinds.r situations-merge.Reads.Post
situations_merge_determined = record { result = λ κs a x y s t p q. merged-apart x y (p ∙ sym q) }

pub base4_weight_determined : Determined base4-weight.Kinds.ps base4-weight.Kinds.r base4-weight.Reads.Post
base4_weight_determined = record { result = λ κs a x y s t p q. p ∙ sym q }

pub base4_digit_determined : Determined base4-digit.Kinds.ps base4-digit.Kinds.r base4-digit.Reads.Post
base4_digit_determined = record { result = λ κs a x y s t p q. p ∙ sym q }

pub base4_situation_at_determined : Determined base4-situation-at.Kinds.ps base4-situation-at.Kinds.r base4-situation-at.Reads.Post
base4_situation_at_determined = record { result = λ κs a x y s t p q. p ∙ sym q }

pub base4_index_determined : Determined base4-index.Kinds.ps base4-index.Kinds.r base4-index.Reads.Post
base4_index_determined = record { result = λ κs a x y s t p q. p ∙ sym q }
