-- Demand 1, refusals. The numbers that a caller gets, for every reply: with number 0 place and second number are 0; a refusal's number
-- is a published one, never 15, its second number is 0 unless it is OVERLAP, and it returns nothing else. When OVERLAP, ROOM and the
-- growth check's SITUATION are given, and where. What is refused is written nowhere.
use Prim.Native.Nat.{ℕ, ◌+◌, ◌*◌, ◌^◌, ◌<◌}
use mathlib.Core.Path.{refl, ◌≡◌, ap, sym, ◌∙◌}
use mathlib.Core.Bool.{cond}
use mathlib.Core.List.{List, [], ◌∷◌}
use lib.Dec.{ltb, eqb}
use lib.ListN.{length, replicate}
use mathlib.Core.Logic.{◌↔◌, ◌⊎◌}
use borrow.Author.Tests.{eq-eqb, lt-ltb}
use Rattle.refusals.specs.Meaning.{Numbers, none, refused, ROWS, ROOM, SITUATION, OVERLAP, after}
use Rattle.answers.specs.declared.operators.One.{One}
use Rattle.answers.specs.declared.operators.Two.{Two}
use Rattle.answers.specs.Meaning.{Reply, from_number, contained, replace, apply_one, apply_two, succeed}
use Rattle.operands.specs.Meaning.{Related, operand_fault, operands_of, one_of, two_of, replace_of, contained_of}
use Rattle.situations.specs.declared.Situation.{Situation}
use Rattle.situations.specs.Meaning.{Merged, situation_at, fault_of, merge_of, fault}
use Rattle.notices.specs.Meaning.{Noticed, notice_of}
use Rattle.voices.specs.Meaning.{Heard, unheard, hear_of, speak_of}
use Rattle.batches.specs.Meaning.{MOST}
use Rattle.weeks.specs.Meaning.{week_of}
use Rattle.tables.specs.Meaning.{TableRead, table_of, refuse_table, read_of, Table, WellFormed, Consistent, table_bytes, FirstDisagreement}
use Rattle.nodes.specs.Meaning.{evaluate_of, full, heights}
use Rattle.formula.specs.Meaning.{table_size}
use Rattle.compiler.specs.Meaning.{Compiled, refuse_compiled, compile_of, written_of}
use Rattle.steps.specs.Meaning.{first_situation}
use Rattle.growth.specs.Meaning.{Growth, answer_at, without, shown, growth_of}
use Rattle.replying.proofs.ReplyLaws.{either, numbers-refused, replied_success, replied_numbers, replied_refuse, replied_after}
use Rattle.replying.proofs.TableNumbers.{read_of_read, short-room}
use Rattle.replying.proofs.NodeNumbers.{fault_of-numbers, answers-succeed, answers-after, evaluate_of-answers, operand-numbers, columns-outside, growth-outside}
use Rattle.replying.proofs.VoiceNumbers.{notice_of-notices, hear_of_hears, speak_of-answers}
use Rattle.replying.specs.Meaning.{Replied, refuse_reply, refuse_related, refuse_noticed, refuse_growth, hand_back}
use Rattle.counting.proofs.Ends.{accepted_none}
use Rattle.counting.proofs.Stops as stops
use Rattle.accepting.proofs.FirstDisagreements.{first_inconsistent}
use Rattle.accepting.proofs.TableEncoding.{write_table, read_write, read_formed, read_consistent, write_overlap, overlap_write, overlap_formed, overlap_named}
use Rattle.compiler.proofs.CompileReturns.{written-refused}
use Rattle.running.proofs.Heights.{evaluate-heights, evaluate-alike}
use Rattle.growing.proofs.Verdicts as verdicts
use Rattle.situations.proofs.Replies.{merged-refused}
use Rattle.listing.specs.Meaning.{Written, refuse_written}
use Rattle.untable.specs.Meaning.{untable_of}
use Rattle.recovering.specs.Meaning.{answered}
use Rattle.recovering.proofs.Replies.{untable_either}
use Rattle.promises.specs.Meaning.{Accepts, Compiles, WeekReplied}
use Rattle.promises.proofs.Demand2Tables.{accepted_exactly}

-- The operators.
pub one_replied : (operator : One) (p : ℕ) → Replied (λ (x : Reply). x.refusal) refuse_reply (one_of operator p)
unfolding one_of
one_replied operator p =
    let a = apply_one operator (from_number p) in
    answers-after (operand_fault (p ∷ [])) (succeed a) (operand-numbers (p ∷ [])) (answers-succeed a)

pub two_replied : (operator : Two) (p q : ℕ) → Replied (λ (x : Reply). x.refusal) refuse_reply (two_of operator p q)
unfolding two_of
two_replied operator p q =
    let a = apply_two operator (from_number p) (from_number q) in
    answers-after (operand_fault (operands_of operator p q)) (succeed a) (operand-numbers (operands_of operator p q)) (answers-succeed a)

pub replace_replied : (x p q : ℕ) → Replied (λ (x : Reply). x.refusal) refuse_reply (replace_of x p q)
unfolding replace_of
replace_replied x p q =
    let a = replace (from_number x) (from_number p) (from_number q) in
    answers-after (operand_fault (x ∷ p ∷ q ∷ [])) (succeed a) (operand-numbers (x ∷ p ∷ q ∷ [])) (answers-succeed a)

pub contained_replied : (p q : ℕ) → Replied (λ (x : Related). x.refusal) refuse_related (contained_of p q)
unfolding contained_of
contained_replied p q =
    let related : Related = record { refusal = none; contained = contained (from_number p) (from_number q) } in
    replied_after (λ (x : Related). x.refusal) refuse_related (λ r. refl) (operand_fault (p ∷ q ∷ [])) related
    (operand-numbers (p ∷ q ∷ []))
    (replied_success (λ (x : Related). x.refusal) refuse_related related refl)

-- Merging.
pub merge_replied : (s t : Situation) → Replied (λ (x : Merged). x.refusal) (hand_back s) (merge_of s t)
unfolding merge_of
merge_replied s t =
    replied_after (λ (x : Merged). x.refusal) (hand_back s) (λ r. refl) (fault_of s) _ (fault_of-numbers s)
    (replied_after (λ (x : Merged). x.refusal) (hand_back s) (λ r. refl) (fault_of t) _ (fault_of-numbers t)
    (either (Replied (λ (x : Merged). x.refusal) (hand_back s)) (eqb s.length t.length) _ _
    (replied_success (λ (x : Merged). x.refusal) (hand_back s) _ refl)
    (replied_refuse (λ (x : Merged). x.refusal) (hand_back s) (λ r. refl) (refused SITUATION t.length)
    (numbers-refused SITUATION t.length tt))))

-- Notices and voices.
pub notice_replied : (s : List ℕ) → Replied (λ (x : Noticed). x.refusal) refuse_noticed (notice_of s)
notice_replied = notice_of-notices

pub speak_set_replied : (n v : List ℕ) → Replied (λ (x : Heard). x.refusal) unheard (hear_of n v)
speak_set_replied = hear_of_hears

pub speak_replied : (n v : List ℕ) → Replied (λ (x : Reply). x.refusal) refuse_reply (speak_of n v)
speak_replied = speak_of-answers

-- Weekly counts: the numbers as in every reply. "The counts so far are still handed back as a value, the one exception to document 01's
-- zeros": so here is nothing on what a refusal returns besides its numbers.
pub week_replied : (batch voice : List ℕ) → WeekReplied (week_of batch voice).refusal
week_replied batch voice =
    record {
      success = accepted_none MOST 0 batch;
      refused = stops.stop-published MOST batch;
      second = stops.stop-second MOST batch;
    }

-- Reading and compiling tables.
pub read_replied : (bytes : List ℕ) → Replied (λ (x : TableRead). x.refusal) refuse_table (read_of bytes)
read_replied = read_of_read

pub compile_replied : (bytes : List ℕ) (room : ℕ) → Replied (λ (x : Compiled). x.refusal) refuse_compiled (compile_of bytes room)
unfolding compile_of
compile_replied bytes room =
    let size = table_size (table_of bytes) in
    replied_after (λ (x : Compiled). x.refusal) refuse_compiled (λ r. refl) (read_of bytes).refusal _
    (replied_numbers (λ (x : TableRead). x.refusal) refuse_table (read_of bytes) (read_of_read bytes))
    (either (Replied (λ (x : Compiled). x.refusal) refuse_compiled) (ltb room size) _ _
    (replied_refuse (λ (x : Compiled). x.refusal) refuse_compiled (λ r. refl) (refused ROOM size) (numbers-refused ROOM size tt))
    (replied_success (λ (x : Compiled). x.refusal) refuse_compiled _ refl))

-- Evaluating, and the growth check.
pub evaluate_replied : (nodes s : List ℕ) → Replied (λ (x : Reply). x.refusal) refuse_reply (evaluate_of nodes s)
evaluate_replied = evaluate_of-answers

pub growth_replied : (nodes : List ℕ) (n : ℕ) → Replied (λ (x : Growth). x.refusal) refuse_growth (growth_of nodes n)
unfolding growth_of
growth_replied nodes n =
    let w = first_situation (answer_at nodes) n in
    let found = shown (answer_at nodes) (situation_at n w) in
    replied_after (λ (x : Growth). x.refusal) refuse_growth (λ r. refl) (evaluate_of nodes (replicate n 0)).refusal
    (cond (ltb w (4 ^ n)) found (without none 1))
    (replied_numbers (λ (x : Reply). x.refusal) refuse_reply (evaluate_of nodes (replicate n 0)) (evaluate_of-answers nodes (replicate n 0)))
    (either (Replied (λ (x : Growth). x.refusal) refuse_growth) (ltb w (4 ^ n)) found (without none 1)
    (replied_success (λ (x : Growth). x.refusal) refuse_growth found refl)
    (replied_success (λ (x : Growth). x.refusal) refuse_growth (without none 1) refl))

-- Giving a table back.
pub untable_replied : (nodes : List ℕ) (n room : ℕ) → Replied (λ (x : Written). x.refusal) refuse_written (untable_of nodes n room)
untable_replied nodes n room =
    let refuses = replied_refuse (λ (x : Written). x.refusal) refuse_written (λ r. refl) in
    untable_either nodes n room (Replied (λ (x : Written). x.refusal) refuse_written)
    (λ h.
    refuses (evaluate_of nodes (replicate n 0)).refusal
    (replied_numbers (λ (x : Reply). x.refusal) refuse_reply (evaluate_of nodes (replicate n 0)) (evaluate_of-answers nodes (replicate n 0))))
    (λ h l. refuses _ (numbers-refused ROWS (answered (answer_at nodes) n) tt))
    (λ h l m. refuses _ (numbers-refused ROOM (4 + answered (answer_at nodes) n * (n + 4)) tt))
    (λ h l m. replied_success (λ (x : Written). x.refusal) refuse_written _ refl)

-- Bytes are refused by OVERLAP exactly when they are the encoding of a table in which some situation is matched by two rows
-- with different outcomes ..
pub overlap_exactly :
    (bytes : List ℕ) →
    ((read_of bytes).refusal.number ≡ OVERLAP) ↔ ((t : Table) × WellFormed t × (Consistent t → ⊥) × (table_bytes t ≡ bytes))
overlap_exactly bytes = (
  λ h. (
    table_of bytes,
    overlap_formed bytes h,
    first_inconsistent (table_of bytes) (read_of bytes).refusal.place (read_of bytes).refusal.second (overlap_named bytes h),
    overlap_write bytes h,
  ),
  λ e. rw e.3 at (write_overlap e.0 e.1 e.2),
)

-- .. and the rows named are the first that disagree: the smallest later row, then the smallest earlier one.
pub first-overlap :
    (bytes : List ℕ) →
    (read_of bytes).refusal.number ≡ OVERLAP →
    FirstDisagreement (table_of bytes) (read_of bytes).refusal.place (read_of bytes).refusal.second
first-overlap = overlap_named

-- ROOM exactly when the bytes are the encoding of a well-formed, consistent table and its count exceeds the room ..
pub room_exactly :
    (bytes lent : List ℕ) →
    ((compile_of bytes (length lent)).refusal.number ≡ ROOM)
    ↔ ((t : Table) × WellFormed t × Consistent t × (table_bytes t ≡ bytes) × (length lent < table_size t))
unfolding Accepts compile_of
room_exactly bytes lent = (
  λ h. let short = short-room bytes (length lent) h in
      (table_of bytes, read_formed bytes short.0, read_consistent bytes short.0, read_write bytes short.0, short.1),
  λ e. let same : table_of bytes ≡ e.0 = ap table_of (sym e.3) ∙ write_table e.0 e.1 in
      rw (
        eq-eqb (read_of bytes).refusal.number 0 ((accepted_exactly bytes).1 (e.0, e.1, e.2, e.3)),
        lt-ltb (length lent) (table_size (table_of bytes)) (rw same e.4),
      ),
)

-- .. and the place is the count.
pub room-place :
    (bytes lent : List ℕ) →
    (compile_of bytes (length lent)).refusal.number ≡ ROOM →
    (compile_of bytes (length lent)).refusal ≡ refused ROOM (table_size (table_of bytes))
room-place bytes lent h = (short-room bytes (length lent) h).2

-- An array is refused as the situation's check and the stack's heights say. No answer plays a part in either.
pub refused_by_heights :
    (nodes s : List ℕ) → (evaluate_of nodes s).refusal ≡ after (fault s) (λ r. r) (heights full (length s) 0 0 nodes)
refused_by_heights = evaluate-heights

-- So it is refused with the same numbers at all situations of one length, or at none of them.
pub refusals_alike :
    (nodes s t : List ℕ) →
    (fault s).number ≡ 0 →
    (fault t).number ≡ 0 →
    length s ≡ length t →
    (evaluate_of nodes s).refusal ≡ (evaluate_of nodes t).refusal
refusals_alike = evaluate-alike

-- The check refuses with the evaluator's numbers at every situation of so many columns.
pub growth_refuses_alike :
    (nodes s : List ℕ) → (fault s).number ≡ 0 → (growth_of nodes (length s)).refusal ≡ (evaluate_of nodes s).refusal
growth_refuses_alike = verdicts.growth-refusal

-- Its SITUATION says exactly that n is outside 1 to 6, and the place is n.
pub growth_situation_exactly :
    (nodes : List ℕ) (n : ℕ) → ((growth_of nodes n).refusal.number ≡ SITUATION) ↔ ((n < 1) ⊎ (6 < n))
growth_situation_exactly nodes n = (
  columns-outside nodes n,
  λ o. ap (λ (r : Numbers). r.number) (growth-outside nodes n o),
)

pub growth_situation_place :
    (nodes : List ℕ) (n : ℕ) → (growth_of nodes n).refusal.number ≡ SITUATION → (growth_of nodes n).refusal ≡ refused SITUATION n
growth_situation_place nodes n h = growth-outside nodes n (columns-outside nodes n h)

-- A refused call writes nothing into lent memory.
pub refused_writes_nothing : (bytes lent : List ℕ) → (Compiles bytes lent → ⊥) → written_of bytes lent ≡ lent
unfolding Compiles
refused_writes_nothing bytes lent h = sym (written-refused bytes lent h)

-- "A refused merge hands back the first as it came."
pub refused_merge_hands_back : (s t : Situation) → ((merge_of s t).refusal.number ≡ 0 → ⊥) → (merge_of s t).situation ≡ s
refused_merge_hands_back = merged-refused
