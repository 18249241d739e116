-- The C face: each export's contract determines what it returns, and every lent byte, and asks nothing of its arguments.
use mathlib.Core.Path.{sym, ◌∙◌}
use Rattle.promises.specs.Meaning.{Determined, DeterminedLent, AsksNothing}
use Rattle.carmuspeno.proofs.carm_negate as negate
use Rattle.carmuspeno.proofs.carm_turn as turn
use Rattle.carmuspeno.proofs.carm_floor as floor
use Rattle.carmuspeno.proofs.carm_ceiling as ceiling
use Rattle.carmuspeno.proofs.carm_meet as meet
use Rattle.carmuspeno.proofs.carm_join as join
use Rattle.carmuspeno.proofs.carm_truth_meet as truth-meet
use Rattle.carmuspeno.proofs.carm_truth_join as truth-join
use Rattle.carmuspeno.proofs.carm_implication as implication
use Rattle.carmuspeno.proofs.carm_guard as guard
use Rattle.carmuspeno.proofs.carm_priority as priority
use Rattle.carmuspeno.proofs.carm_replace as replace
use Rattle.carmuspeno.proofs.carm_contained as contained
use Rattle.carmuspeno.proofs.carm_evaluate as evaluate
use Rattle.carmuspeno.proofs.carm_merge as merge
use Rattle.carmuspeno.proofs.carm_read_notice as read-notice
use Rattle.carmuspeno.proofs.carm_speak as speak
use Rattle.carmuspeno.proofs.carm_speak_set as speak-set
use Rattle.carmuspeno.proofs.carm_count_week as count-week
use Rattle.carmuspeno.proofs.carm_untable as untable
use Rattle.carmuspeno.proofs.carm_check_growth as check-growth
use Rattle.carmuspeno.proofs.carm_compile as compile

pub carm_negate_determined : Determined negate.Kinds.ps negate.Kinds.r negate.Reads.Post
carm_negate_determined = record { result = λ κs a x y s t p q. p ∙ sym q }

pub carm_negate_asks_nothing : AsksNothing negate.Kinds.ps negate.Reads.Pre
carm_negate_asks_nothing = record { met = λ κs a. tt }

pub carm_turn_determined : Determined turn.Kinds.ps turn.Kinds.r turn.Reads.Post
carm_turn_determined = record { result = λ κs a x y s t p q. p ∙ sym q }

pub carm_turn_asks_nothing : AsksNothing turn.Kinds.ps turn.Reads.Pre
carm_turn_asks_nothing = record { met = λ κs a. tt }

pub carm_floor_determined : Determined floor.Kinds.ps floor.Kinds.r floor.Reads.Post
carm_floor_determined = record { result = λ κs a x y s t p q. p ∙ sym q }

pub carm_floor_asks_nothing : AsksNothing floor.Kinds.ps floor.Reads.Pre
carm_floor_asks_nothing = record { met = λ κs a. tt }

pub carm_ceiling_determined : Determined ceiling.Kinds.ps ceiling.Kinds.r ceiling.Reads.Post
carm_ceiling_determined = record { result = λ κs a x y s t p q. p ∙ sym q }

pub carm_ceiling_asks_nothing : AsksNothing ceiling.Kinds.ps ceiling.Reads.Pre
carm_ceiling_asks_nothing = record { met = λ κs a. tt }

pub carm_meet_determined : Determined meet.Kinds.ps meet.Kinds.r meet.Reads.Post
carm_meet_determined = record { result = λ κs a x y s t p q. p ∙ sym q }

pub carm_meet_asks_nothing : AsksNothing meet.Kinds.ps meet.Reads.Pre
carm_meet_asks_nothing = record { met = λ κs a. tt }

pub carm_join_determined : Determined join.Kinds.ps join.Kinds.r join.Reads.Post
carm_join_determined = record { result = λ κs a x y s t p q. p ∙ sym q }

pub carm_join_asks_nothing : AsksNothing join.Kinds.ps join.Reads.Pre
carm_join_asks_nothing = record { met = λ κs a. tt }

pub carm_truth_meet_determined : Determined truth-meet.Kinds.ps truth-meet.Kinds.r truth-meet.Reads.Post
carm_truth_meet_determined = record { result = λ κs a x y s t p q. p ∙ sym q }

pub carm_truth_meet_asks_nothing : AsksNothing truth-meet.Kinds.ps truth-meet.Reads.Pre
carm_truth_meet_asks_nothing = record { met = λ κs a. tt }

pub carm_truth_join_determined : Determined truth-join.Kinds.ps truth-join.Kinds.r truth-join.Reads.Post
carm_truth_join_determined = record { result = λ κs a x y s t p q. p ∙ sym q }

pub carm_truth_join_asks_nothing : AsksNothing truth-join.Kinds.ps truth-join.Reads.Pre
carm_truth_join_asks_nothing = record { met = λ κs a. tt }

pub carm_implication_determined : Determined implication.Kinds.ps implication.Kinds.r implication.Reads.Post
carm_implication_determined = record { result = λ κs a x y s t p q. p ∙ sym q }

pub carm_implication_asks_nothing : AsksNothing implication.Kinds.ps implication.Reads.Pre
carm_implication_asks_nothing = record { met = λ κs a. tt }

pub carm_guard_determined : Determined guard.Kinds.ps guard.Kinds.r guard.Reads.Post
carm_guard_determined = record { result = λ κs a x y s t p q. p ∙ sym q }

pub carm_guard_asks_nothing : AsksNothing guard.Kinds.ps guard.Reads.Pre
carm_guard_asks_nothing = record { met = λ κs a. tt }

pub carm_priority_determined : Determined priority.Kinds.ps priority.Kinds.r priority.Reads.Post
carm_priority_determined = record { result = λ κs a x y s t p q. p ∙ sym q }

pub carm_priority_asks_nothing : AsksNothing priority.Kinds.ps priority.Reads.Pre
carm_priority_asks_nothing = record { met = λ κs a. tt }

pub carm_replace_determined : Determined replace.Kinds.ps replace.Kinds.r replace.Reads.Post
carm_replace_determined = record { result = λ κs a x y s t p q. p ∙ sym q }

pub carm_replace_asks_nothing : AsksNothing replace.Kinds.ps replace.Reads.Pre
carm_replace_asks_nothing = record { met = λ κs a. tt }

pub carm_contained_determined : Determined contained.Kinds.ps contained.Kinds.r contained.Reads.Post
carm_contained_determined = record { result = λ κs a x y s t p q. p ∙ sym q }

pub carm_contained_asks_nothing : AsksNothing contained.Kinds.ps contained.Reads.Pre
carm_contained_asks_nothing = record { met = λ κs a. tt }

pub carm_evaluate_determined : Determined evaluate.Kinds.ps evaluate.Kinds.r evaluate.Reads.Post
carm_evaluate_determined = record { result = λ κs a x y s t p q. p ∙ sym q }

pub carm_evaluate_asks_nothing : AsksNothing evaluate.Kinds.ps evaluate.Reads.Pre
carm_evaluate_asks_nothing = record { met = λ κs a. tt }

pub carm_merge_determined : Determined merge.Kinds.ps merge.Kinds.r merge.Reads.Post
carm_merge_determined = record { result = λ κs a x y s t p q. p ∙ sym q }

pub carm_merge_asks_nothing : AsksNothing merge.Kinds.ps merge.Reads.Pre
carm_merge_asks_nothing = record { met = λ κs a. tt }

pub carm_read_notice_determined : Determined read-notice.Kinds.ps read-notice.Kinds.r read-notice.Reads.Post
carm_read_notice_determined = record { result = λ κs a x y s t p q. p ∙ sym q }

pub carm_read_notice_asks_nothing : AsksNothing read-notice.Kinds.ps read-notice.Reads.Pre
carm_read_notice_asks_nothing = record { met = λ κs a. tt }

pub carm_speak_determined : Determined speak.Kinds.ps speak.Kinds.r speak.Reads.Post
carm_speak_determined = record { result = λ κs a x y s t p q. p ∙ sym q }

pub carm_speak_asks_nothing : AsksNothing speak.Kinds.ps speak.Reads.Pre
carm_speak_asks_nothing = record { met = λ κs a. tt }

pub carm_speak_set_determined : Determined speak-set.Kinds.ps speak-set.Kinds.r speak-set.Reads.Post
carm_speak_set_determined = record { result = λ κs a x y s t p q. p ∙ sym q }

pub carm_speak_set_asks_nothing : AsksNothing speak-set.Kinds.ps speak-set.Reads.Pre
carm_speak_set_asks_nothing = record { met = λ κs a. tt }

pub carm_count_week_determined : Determined count-week.Kinds.ps count-week.Kinds.r count-week.Reads.Post
carm_count_week_determined = record { result = λ κs a x y s t p q. p ∙ sym q }

pub carm_count_week_asks_nothing : AsksNothing count-week.Kinds.ps count-week.Reads.Pre
carm_count_week_asks_nothing = record { met = λ κs a. tt }

pub carm_check_growth_determined : Determined check-growth.Kinds.ps check-growth.Kinds.r check-growth.Reads.Post
carm_check_growth_determined = record { result = λ κs a x y s t p q. p ∙ sym q }

pub carm_check_growth_asks_nothing : AsksNothing check-growth.Kinds.ps check-growth.Reads.Pre
carm_check_growth_asks_nothing = record { met = λ κs a. tt }

pub carm_compile_determined : DeterminedLent compile.Kinds.ps compile.Kinds.r compile.Reads.Post (λ κs s. s.1.0.now)
carm_compile_determined = record { result = λ κs a x y s t p q. p.0 ∙ sym q.0; lent = λ κs a x y s t p q. p.1 ∙ sym q.1 }

pub carm_compile_asks_nothing : AsksNothing compile.Kinds.ps compile.Reads.Pre
carm_compile_asks_nothing = record { met = λ κs a. tt }

pub carm_untable_determined : DeterminedLent untable.Kinds.ps untable.Kinds.r untable.Reads.Post (λ κs s. s.1.1.0.now)
carm_untable_determined = record { result = λ κs a x y s t p q. p.0 ∙ sym q.0; lent = λ κs a x y s t p q. p.1 ∙ sym q.1 }

pub carm_untable_asks_nothing : AsksNothing untable.Kinds.ps untable.Reads.Pre
carm_untable_asks_nothing = record { met = λ κs a. tt }
