-- The numbers of the checks in reading notices and voices, one after another.
use Prim.Native.Nat.{ℕ, zero, suc, ◌+◌}
use mathlib.Core.Path.{refl, ap}
use mathlib.Core.List.{List, []}
use lib.Dec.{ltb, leb, eqb}
use lib.Dec as dec
use lib.ListN.{length, drop, get_or}
use Rattle.refusals.specs.Meaning as refusal
use Rattle.refusals.specs.Meaning.{Numbers, none, after, SHORT, TAG, LEN, RISE, FACTS, CODE, CUT, NEST, TAIL}
use Rattle.fields.specs.Meaning.{tag, size, short_header, short_value, two_at, four_at}
use Rattle.notices.specs.Meaning.{Noticed}
use Rattle.notices.specs.Meaning as notice
use Rattle.codes.specs.declared.PolicyKind.{PolicyKind}
use Rattle.codes.specs.declared.PolicyKind.TheVariants as P
use Rattle.codes.specs.declared.TestKind.{TestKind}
use Rattle.codes.specs.declared.TestKind.TheVariants as T
use Rattle.codes.specs.Meaning.{policy_kind, test_kind}
use Rattle.trees.specs.Meaning.{Policy, Test, Read, made, refused, and_then, comparison, present, comparison_at, present_at}
use Rattle.trees.specs.Meaning.{policy_by, test_by, policy_at, test_at}
use Rattle.voices.specs.Meaning.{Heard, read_voice, unheard, heard, hear_of, received, speak_of}
use Rattle.replying.proofs.ReplyLaws.{either, Published, Refuses, refuses_numbers, numbers-none, numbers-refused}
use Rattle.replying.proofs.ReplyLaws.{replied_success, replied_refuse}
use Rattle.replying.proofs.NodeNumbers.{Answers}
use Rattle.replying.specs.Meaning.{spoken, Replied, refuse_noticed}

-- notices: what holds of the five refusals and of none holds of every check
abbrev ReadsBy : (Numbers → Type 0) → notice.Reading → Type 0
ReadsBy P (notice.facts fs) = Unit {0}
ReadsBy P (notice.refused r) = P r

module _ (P : Numbers → Type 0) (clear : P none)
    (short : (at : ℕ) → P (refusal.refused SHORT at)) (other : (at : ℕ) → P (refusal.refused TAG at))
    (len : (at : ℕ) → P (refusal.refused LEN at)) (rise : (at : ℕ) → P (refusal.refused RISE at))
    (many : (at : ℕ) → P (refusal.refused FACTS at)) where
  fault-each : (left at least : ℕ) (s : List ℕ) → P (notice.fault left at least s)
  unfolding notice.fault
  fault-each left at least s =
      either P (short_header s) _ _ (short at)
      (either P (eqb (tag s) 16) _ _
      (either P (eqb left 0) _ _ (many at)
      (either P (eqb (size s) 6) _ _
      (either P (short_value 6 s) _ _ (short at)
      (either P (ltb (notice.first_fact s).number least) _ _ (rise at) clear))
      (len at)))
      (other at))

  followed_reads : (f : notice.Fact) (x : notice.Reading) → ReadsBy P x → ReadsBy P (notice.followed f x)
  followed_reads f (notice.facts fs) h = tt
  followed_reads f (notice.refused r) h = h

  read_rest-each : (left at least : ℕ) (s : List ℕ) → ReadsBy P (notice.read_rest left at least s)
  unfolding notice.read_rest
  read_rest-each zero at least s =
      either (ReadsBy P) (eqb (length s) 0) (notice.facts []) (notice.refused (notice.fault zero at least s)) tt
      (fault-each zero at least s)
  read_rest-each (suc left) at least s =
      let f = notice.first_fact s in
      let rest = notice.read_rest left (at + 9) (f.number + 1) (drop 9 s) in
      let check = notice.fault (suc left) at least s in
      either (ReadsBy P) (eqb (length s) 0) (notice.facts []) (after check notice.refused (notice.followed f rest)) tt
      (either (ReadsBy P) (eqb check.number 0) (notice.followed f rest) (notice.refused check)
      (followed_reads f rest (read_rest-each left (at + 9) (f.number + 1) (drop 9 s)))
      (fault-each (suc left) at least s))

reads_numbers : (s : List ℕ) → ReadsBy Published (notice.read_facts s)
reads_numbers s =
    read_rest-each Published numbers-none (λ at. numbers-refused SHORT at tt) (λ at. numbers-refused TAG at tt)
    (λ at. numbers-refused LEN at tt) (λ at. numbers-refused RISE at tt) (λ at. numbers-refused FACTS at tt) 32 0 0 s

abbrev pub Notices : Noticed → Type 0
Notices x = Replied (λ (x : Noticed). x.refusal) refuse_noticed x

noticed-notices : (x : notice.Reading) → ReadsBy Published x → Notices (notice.noticed x)
noticed-notices (notice.facts fs) h =
    replied_success (λ (x : Noticed). x.refusal) refuse_noticed (record { refusal = none; facts = length fs }) refl
noticed-notices (notice.refused r) h = replied_refuse (λ (x : Noticed). x.refusal) refuse_noticed (λ r. refl) r h

pub notice_of-notices : (s : List ℕ) → Notices (notice.notice_of s)
notice_of-notices s = noticed-notices (notice.read_facts s) (reads_numbers s)

-- voices: what holds of the four refusals holds of every one
abbrev MakesBy : {A : Type 0} → (Numbers → Type 0) → Read A → Type 0
MakesBy R (made a next) = Unit {0}
MakesBy R (refused r) = R r

then_makes : {A B : Type 0} (R : Numbers → Type 0) (x : Read A) (onward : A → ℕ → Read B) → MakesBy R x →
    ((a : A) (next : ℕ) → MakesBy R (onward a next)) →
    MakesBy R (and_then x onward)
then_makes R (made a next) onward h k = k a next
then_makes R (refused r) onward h k = h

module _ (R : Numbers → Type 0) (code : (at : ℕ) → R (refusal.refused CODE at)) (short : (at : ℕ) → R (refusal.refused CUT at))
    (nest : (at : ℕ) → R (refusal.refused NEST at)) (tail : (at : ℕ) → R (refusal.refused TAIL at)) where
  module _ (policy : ℕ → Read Policy) (test : ℕ → Read Test) (p : (i : ℕ) → MakesBy R (policy i)) (t : (i : ℕ) → MakesBy R (test i)) where
    policy_by_makes : (at : ℕ) (kind : PolicyKind) → MakesBy R (policy_by policy test at kind)
    policy_by_makes at (P.Constant a) = tt
    policy_by_makes at (P.One operator) = then_makes R (policy (at + 1)) _ (p (at + 1)) (λ a end. tt)
    policy_by_makes at (P.Two operator) =
        then_makes R (policy (at + 1)) _ (p (at + 1)) (λ a next. then_makes R (policy next) _ (p next) (λ b end. tt))
    policy_by_makes at P.When =
        then_makes R (test (at + 1)) _ (t (at + 1)) (λ a next. then_makes R (policy next) _ (p next) (λ b end. tt))
    policy_by_makes at P.Foreign = code at

    test_by_makes : (v : List ℕ) (at : ℕ) (kind : TestKind) → MakesBy R (test_by policy test v at kind)
    unfolding comparison_at present_at
    test_by_makes v at T.Not = then_makes R (test (at + 1)) _ (t (at + 1)) (λ a end. tt)
    test_by_makes v at (T.Joint j) =
        then_makes R (test (at + 1)) _ (t (at + 1)) (λ a next. then_makes R (test next) _ (t next) (λ b end. tt))
    test_by_makes v at (T.Comparison c) =
        either (MakesBy R) (ltb (length v) (at + 7)) (refused (refusal.refused CUT at))
        (made (comparison c (two_at v (at + 1)) (four_at v (at + 3))) (at + 7)) (short at) tt
    test_by_makes v at T.Present =
        either (MakesBy R) (ltb (length v) (at + 3)) (refused (refusal.refused CUT at))
        (made (present (two_at v (at + 1))) (at + 3)) (short at) tt
    test_by_makes v at (T.Answers a) = then_makes R (policy (at + 1)) _ (p (at + 1)) (λ a end. tt)
    test_by_makes v at T.Foreign = code at

  trees_make : (left : ℕ) (v : List ℕ) → ((at : ℕ) → MakesBy R (policy_at left v at)) × ((at : ℕ) → MakesBy R (test_at left v at))
  unfolding policy_at test_at
  trees_make zero v = (nest, nest)
  trees_make (suc left) v =
      let below = trees_make left v in (
        λ at. either (MakesBy R) (leb (length v) at) (refused (refusal.refused CUT at)) _ (short at)
            (policy_by_makes (λ i. policy_at left v i) (λ i. test_at left v i) below.0 below.1 at (policy_kind (get_or v at 0))),
        λ at. either (MakesBy R) (leb (length v) at) (refused (refusal.refused CUT at)) _ (short at)
            (test_by_makes (λ i. policy_at left v i) (λ i. test_at left v i) below.0 below.1 v at (test_kind (get_or v at 0))),
      )

  read_voice-each : (v : List ℕ) → MakesBy R (read_voice v)
  read_voice-each v =
      then_makes R (policy_at 16 v 0) _ ((trees_make 16 v).0 0)
      (λ p end. either (MakesBy R) (ltb end (length v)) (refused (refusal.refused TAIL end)) (made p end) (tail end) tt)

abbrev pub Makes : {A : Type 0} → Read A → Type 0
Makes x = MakesBy Refuses x

pub read_voice_makes : (v : List ℕ) → Makes (read_voice v)
read_voice_makes = read_voice-each Refuses (λ at. (tt, refl)) (λ at. (tt, refl)) (λ at. (tt, refl)) (λ at. (tt, refl))

abbrev pub Hears : Heard → Type 0
Hears x = Replied (λ (x : Heard). x.refusal) unheard x

heard_hears : (x : notice.Reading) (y : Read Policy) → ReadsBy Published x → Makes y → Hears (heard x y)
heard_hears (notice.refused r) y h k = replied_refuse (λ (x : Heard). x.refusal) unheard (λ r. refl) r h
heard_hears (notice.facts fs) (refused r) h k =
    replied_refuse (λ (x : Heard). x.refusal) unheard (λ r. refl) r (refuses_numbers r k)
heard_hears (notice.facts fs) (made p end) h k = replied_success (λ (x : Heard). x.refusal) unheard _ refl

pub hear_of_hears : (n v : List ℕ) → Hears (hear_of n v)
hear_of_hears n v = heard_hears (notice.read_facts n) (read_voice v) (reads_numbers n) (read_voice_makes v)

-- what the column receives has the same numbers
received-answers : (x : Heard) → Hears x → Answers (received x)
received-answers x h =
    record { success = h.success; refused = h.refused; second = h.second; nothing_else = λ e. ap received (h.nothing_else e) }

pub speak_of-answers : (n v : List ℕ) → Answers (speak_of n v)
speak_of-answers n v = received-answers (hear_of n v) (hear_of_hears n v)

-- which numbers these are
abbrev Spoken : Numbers → Type 0
Spoken r = dec.T (spoken r.number)

heard-spoken : (x : notice.Reading) (y : Read Policy) → ReadsBy Spoken x → MakesBy Spoken y → Spoken (heard x y).refusal
heard-spoken (notice.refused r) y h k = h
heard-spoken (notice.facts fs) (refused r) h k = k
heard-spoken (notice.facts fs) (made p end) h k = tt

pub speak_of-spoken : (n v : List ℕ) → dec.T (spoken (speak_of n v).refusal.number)
speak_of-spoken n v =
    heard-spoken (notice.read_facts n) (read_voice v)
    (read_rest-each Spoken tt (λ at. tt) (λ at. tt) (λ at. tt) (λ at. tt) (λ at. tt) 32 0 0 n)
    (read_voice-each Spoken (λ at. tt) (λ at. tt) (λ at. tt) (λ at. tt) v)
