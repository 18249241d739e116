-- A batch cut between two fields: what is read of it is what is read of its parts, one behind another.
use Prim.Native.Nat.{ℕ, ◌+◌, ◌-◌, ◌≤◌, ◌<◌}
use mathlib.Core.Path.{◌≡◌, refl, sym, ap, ◌∙◌}
use mathlib.Core.Logic.{◌⊎◌, ⊎_elim}
use mathlib.Core.Bool.{true, cond}
use mathlib.Core.List.{List, [], ◌++◌}
use native.Mathlib.Omega.{arith}
use lib.ListN.{length, drop_of_length-le}
use borrow.Author.Tests.{ne_eqb}
use Rattle.refusals.specs.Meaning.{Numbers, none, WEEK}
use Rattle.batches.specs.Meaning.{fault, Part, due, read_rest}
use Rattle.counting.proofs.Faults.{fault-room, fault-place, fault-full, full_loud}
use Rattle.counting.proofs.Ends.{each-ends, accepted_whole, refused-due, refused_why}
use Rattle.counting.proofs.Parts.{goes_on, each-moved, each_fewer}
use Rattle.counting.specs.Meaning.{behind_these, unread, moved_refusal, moved}

module _ (left : ℕ) (a b : List ℕ) (ok : (read_rest true left 0 a).refusal.number ≡ 0) where
  abbrev A : Part
  A = read_rest true left 0 a

  abbrev B : Part
  B = read_rest true left 0 b

  -- what the rest of a batch is refused with where so many notices are left behind the second part's
  abbrev because : ℕ → Numbers
  because n = cond (due true (length (unread 0 b B))) (fault n B.end (unread 0 b B)) none

  pub cut_onward : read_rest true left 0 (a ++ b) ≡ behind_these A.notices (read_rest true (left - length A.notices) (length a) b)
  cut_onward =
      let e : A.end ≡ length a = omega (arith, accepted_whole left 0 a ok) in
      let d : unread 0 a A ≡ [] = drop_of_length-le a {i = A.end - 0} (omega (arith, e)) in
      goes_on b true left 0 a ok ∙ rw (d, e)

  module _ (few : length A.notices + length B.notices ≤ left) where
    cut_behind : read_rest true (left - length A.notices) (length a) b
        ≡ moved (length a) (record {
          notices = B.notices;
          refusal = because (left - length A.notices - length B.notices);
          end = B.end;
        })
    cut_behind =
        let e : length a ≡ length a + 0 = omega arith in
        ap (λ (at : ℕ). read_rest true (left - length A.notices) at b) e
        ∙ each-moved true (length a) (left - length A.notices) 0 b
        ∙ ap (moved (length a)) (each_fewer true left 0 b (left - length A.notices) (omega arith) (omega arith))

    pub cut_notices : (read_rest true left 0 (a ++ b)).notices ≡ A.notices ++ B.notices
    cut_notices = rw (cut_onward, cut_behind)

    pub cut_end : (read_rest true left 0 (a ++ b)).end ≡ length a + B.end
    cut_end = rw (cut_onward, cut_behind)

    cut_because : (read_rest true left 0 (a ++ b)).refusal
        ≡ moved_refusal (length a) (because (left - length A.notices - length B.notices))
    cut_because = rw (cut_onward, cut_behind)

    -- why the whole is refused is why the second part is, moved ..
    pub cut_refusal : ((length A.notices + length B.notices < left) ⊎ (B.refusal.number ≡ 0)) →
        (read_rest true left 0 (a ++ b)).refusal ≡ moved_refusal (length a) B.refusal
    cut_refusal h =
        let n = left - length A.notices - length B.notices in
        let t = each-ends true left 0 b in
        let same : because n ≡ B.refusal =
        ⊎_elim
        (λ l. rw (fault-room B.end (unread 0 b B) n (left - length B.notices) (omega (arith, l)) (omega (arith, l))) (sym t.why))
        (λ z. rw (t.done z) (sym (t.why ∙ rw (t.done z)))) h in
        cut_because ∙ ap (moved_refusal (length a)) same

    -- .. but that where 1,000,000 notices are read, another notice is one too many.
    pub cut_full : length A.notices + length B.notices ≡ left → (B.refusal.number ≡ 0 → ⊥) →
        ((read_rest true left 0 (a ++ b)).refusal.place ≡ length a + B.refusal.place)
        × (((read_rest true left 0 (a ++ b)).refusal.number ≡ B.refusal.number) ⊎ ((read_rest true left 0 (a ++ b)).refusal.number ≡ WEEK))
    cut_full e loud =
        let none_left : left - length A.notices - length B.notices ≡ 0 = omega (arith, e) in
        let rest = unread 0 b B in
        let full : (read_rest true left 0 (a ++ b)).refusal ≡ moved_refusal (length a) (fault 0 B.end rest) =
        cut_because ∙ rw (none_left, refused-due true left 0 b loud) in
        let why = refused_why true left 0 b loud in
        let here : B.refusal.place ≡ B.end =
        ap (λ (r : Numbers). r.place) (why ∙ fault-place B.end rest (left - length B.notices) (rw (← why) loud)) in
        let there : (fault 0 B.end rest).place ≡ B.end =
        ap (λ (r : Numbers). r.place) (fault-place B.end rest 0 (full_loud B.end rest)) in
        rw (full, ne_eqb (fault 0 B.end rest).number 0 (full_loud B.end rest), here, there) (
          refl,
          rw (why) (fault-full B.end rest (left - length B.notices)),
        )
