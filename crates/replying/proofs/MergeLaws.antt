-- When a merge is accepted, and that its merger can be merged again.
use Prim.Native.Nat.{suc, ◌≤◌}
use mathlib.Core.Path.{◌≡◌, refl, ap, sym, ◌∙◌}
use mathlib.Core.Bool.{Bool, true, false, cond}
use mathlib.Core.List.{List, [], ◌∷◌, map}
use lib.Dec.{eqb}
use lib.ListN.{length, take, drop, length-map}
use lib.Seq.{take_at, length-take-le}
use borrow.Author.Tests.{eqb-true, eqb-false, eq-eqb, le-ltb}
use native.Mathlib.Omega.{arith}
use Rattle.refusals.specs.Meaning.{Numbers, none}
use Rattle.fields.specs.Meaning.{first_above}
use Rattle.answers.specs.Meaning.{number, from_number}
use Rattle.answers.specs.declared.Answer.{Answer}
use Rattle.answers.proofs.Claims.{number_small}
use Rattle.situations.specs.declared.Situation.{Situation}
use Rattle.situations.specs.Meaning.{Merged, answers_of, fault, fault_of, merge, merge_bytes, merge_of, columns}
use Rattle.situations.proofs.Faults.{fault-none, fault-columns, fault_of_slice}
use Rattle.situations.proofs.MergeReply.{faultless_short}
use Rattle.situations.proofs.Merging.{merge-length}
use Rattle.situations.proofs.Replies.{merged-joined, columns-length}

-- a merge is accepted exactly when both pass the check and are equally long
pub record Mergeable (s t : Situation) : Type 0 where
  pub first : (fault_of s).number ≡ 0
  pub second : (fault_of t).number ≡ 0
  pub same : s.length ≡ t.length

abbrev joined : Situation → Situation → Situation
joined s t = record { length = s.length; answers = merge_bytes s.length s.answers t.answers }

merge_cases :
    (P : Merged → Type 0) (b c d : Bool) (first second lengths merged : Merged) →
    (b ≡ false → P first) →
    (c ≡ false → P second) →
    (d ≡ false → P lengths) →
    (b ≡ true → c ≡ true → d ≡ true → P merged) →
    P (cond b (cond c (cond d merged lengths) second) first)
merge_cases P false c d first second lengths merged x y z w = x refl
merge_cases P true false d first second lengths merged x y z w = y refl
merge_cases P true true false first second lengths merged x y z w = z refl
merge_cases P true true true first second lengths merged x y z w = w refl refl refl

pub merges_mergeable : (s t : Situation) → (merge_of s t).refusal.number ≡ 0 → Mergeable s t
unfolding merge_of
merges_mergeable s t =
    merge_cases (λ m. m.refusal.number ≡ 0 → Mergeable s t)
    (eqb (fault_of s).number 0)
    (eqb (fault_of t).number 0)
    (eqb s.length t.length)
    _
    _
    _
    _
    (λ q h. absurd (eqb-false (fault_of s).number 0 q h))
    (λ q h. absurd (eqb-false (fault_of t).number 0 q h))
    (λ q h. absurd (omega (arith, h)))
    (λ q p o h. record {
      first = eqb-true (fault_of s).number 0 q;
      second = eqb-true (fault_of t).number 0 p;
      same = eqb-true s.length t.length o;
    })

mergeable_merges : (s t : Situation) → Mergeable s t → merge_of s t ≡ record { refusal = none; situation = joined s t }
unfolding merge_of
mergeable_merges s t m =
    rw (eq-eqb (fault_of s).number 0 m.first, eq-eqb (fault_of t).number 0 m.second, eq-eqb s.length t.length m.same)

pub mergeable_accepted : (s t : Situation) → Mergeable s t → (merge_of s t).refusal.number ≡ 0
mergeable_accepted s t m = ap (λ (x : Merged). x.refusal.number) (mergeable_merges s t m)

pub merged_itself : (s t : Situation) → (merge_of s t).refusal.number ≡ 0 → (merge_of t t).refusal.number ≡ 0
merged_itself s t h =
    let m = merges_mergeable s t h in mergeable_accepted t t (record { first = m.second; second = m.second; same = refl })

pub merged_lengths :
    (s t : Situation) →
    length s.answers ≡ 6 →
    length t.answers ≡ 6 →
    (merge_of s t).refusal.number ≡ 0 →
    length (columns s) ≡ length (columns t)
merged_lengths s t a b h =
    let j = merged-joined s t a h in
    columns-length s a j.short ∙ j.same ∙ sym (columns-length t b (let short = j.short in let same = j.same in omega arith))

-- answers pass the check, so the merger does
above_numbers : (m : List Answer) → first_above 3 (map number m) ≡ length m
unfolding first_above
above_numbers [] = refl
above_numbers (a ∷ m) = rw (le-ltb 3 (number a) (number_small a)) (ap suc (above_numbers m))

pub numbers-pass : (m : List Answer) → 1 ≤ length m → length m ≤ 6 → fault (map number m) ≡ none
numbers-pass m some few =
    sym
    (fault-none (map number m) {i = length m} (rw (length-map m number) some) (rw (length-map m number) few) (sym (above_numbers m)) refl
    (rw (length-map m number) (omega arith)))

module _ (s t : Situation) (six : length s.answers ≡ 6) (m : Mergeable s t) where
  short : s.length ≤ 6
  short = faultless_short s refl m.first

  slice : (fault (take s.length s.answers)).number ≡ 0
  slice = ap (λ (r : Numbers). r.number) (fault_of_slice s short refl) ∙ m.first

  taken : length (take s.length s.answers) ≡ s.length
  taken = length-take-le s.length s.answers (omega (arith, short))

  abbrev both : List Answer
  both = merge (answers_of (take s.length s.answers)) (answers_of (take s.length t.answers))

  both_long : length both ≡ s.length
  both_long =
      merge-length (answers_of (take s.length s.answers)) (answers_of (take s.length t.answers))
      ∙ length-map (take s.length s.answers) from_number
      ∙ taken

  front : take s.length (joined s t).answers ≡ map number both
  unfolding merge_bytes
  front = take_at (map number both) (drop s.length s.answers) s.length (length-map both number ∙ both_long)

  joined_passes : (fault_of (joined s t)).number ≡ 0
  joined_passes =
      let some : 1 ≤ s.length = rw taken at (fault-columns (take s.length s.answers) slice).0 in
      ap (λ (r : Numbers). r.number)
      (sym (fault_of_slice (joined s t) short refl)
      ∙ ap fault front
      ∙ numbers-pass both (rw both_long some) (rw both_long short))

  pub merger_passes : (fault_of (merge_of s t).situation).number ≡ 0
  merger_passes = rw (mergeable_merges s t m) joined_passes

  pub merger_length : (merge_of s t).situation.length ≡ s.length
  merger_length = ap (λ (x : Merged). x.situation.length) (mergeable_merges s t m)
