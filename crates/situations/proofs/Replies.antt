-- What the reply of a merge says: handed back as it came, or the merger of the columns.
use Prim.Native.Nat.{ℕ, ◌≤◌}
use mathlib.Core.Path.{◌≡◌, refl, ap, ap₂, sym, ◌∙◌}
use mathlib.Core.Bool.{Bool, true, false, cond}
use mathlib.Core.List.{List, map}
use lib.Dec.{eqb}
use lib.ListN.{length, take, drop, length-map, length-append, length-drop}
use lib.Seq.{length-take-le, take_at}
use borrow.Author.Tests.{eqb-true, eqb-false}
use native.Mathlib.Omega.{arith}
use Rattle.answers.specs.Meaning.{number, from_number}
use Rattle.answers.specs.declared.Answer.{Answer}
use Rattle.std.specs.Prelude.{Result, Ok, Err}
use Rattle.refusals.specs.Meaning.{Numbers, none, numbers, checked}
use Rattle.refusals.specs.declared.Refusal.{Refusal}
use Rattle.refusals.proofs.Checks.{check_refused, check_passed, refusal_counts}
use Rattle.situations.specs.declared.Situation.{Situation}
use Rattle.situations.specs.Meaning.{answers_of, columns, fault_of, merge, merge_bytes, merge_of, Merged, merged}
use Rattle.situations.proofs.MergeReply.{faultless_short}
use Rattle.situations.proofs.Merging.{merge-length}
use Rattle.situations.proofs.Numbers.{answers_of-number}

merged-long :
    (n : ℕ) (s t : List ℕ) →
    n ≤ length s →
    length (map number (merge (answers_of (take n s)) (answers_of (take n t)))) ≡ n
merged-long n s t h =
    length-map (merge (answers_of (take n s)) (answers_of (take n t))) number
    ∙ merge-length (answers_of (take n s)) (answers_of (take n t))
    ∙ length-map (take n s) from_number
    ∙ length-take-le n s h

pub merge_bytes-columns :
    (n : ℕ) (s t : List ℕ) →
    n ≤ length s →
    answers_of (take n (merge_bytes n s t)) ≡ merge (answers_of (take n s)) (answers_of (take n t))
unfolding merge_bytes
merge_bytes-columns n s t h =
    let m : List Answer = merge (answers_of (take n s)) (answers_of (take n t)) in
    ap answers_of (take_at (map number m) (drop n s) n (merged-long n s t h)) ∙ answers_of-number m

merge_bytes-length : (n : ℕ) (s t : List ℕ) → n ≤ length s → length (merge_bytes n s t) ≡ length s
unfolding merge_bytes
merge_bytes-length n s t h =
    let m : List Answer = merge (answers_of (take n s)) (answers_of (take n t)) in
    length-append (map number m) (drop n s) ∙ (rw (merged-long n s t h, length-drop) (omega arith))

-- a reply is one of four: the first's fault, the second's, unequal lengths, or the merger
by_tests :
    (P : Merged → Type 0) (b c d : Bool) (first second lengths merged : Merged) →
    (b ≡ false → P first) →
    (c ≡ false → P second) →
    (d ≡ false → P lengths) →
    (b ≡ true → d ≡ true → P merged) →
    P (cond b (cond c (cond d merged lengths) second) first)
by_tests P false c d first second lengths merged x y z w = x refl
by_tests P true false d first second lengths merged x y z w = y refl
by_tests P true true false first second lengths merged x y z w = z refl
by_tests P true true true first second lengths merged x y z w = w refl refl

pub merged-refused : (s t : Situation) → ((merge_of s t).refusal.number ≡ 0 → ⊥) → (merge_of s t).situation ≡ s
unfolding merge_of
merged-refused s t =
    by_tests (λ m. (m.refusal.number ≡ 0 → ⊥) → m.situation ≡ s)
    (eqb (fault_of s).number 0)
    (eqb (fault_of t).number 0)
    (eqb s.length t.length)
    _
    _
    _
    _
    (λ q h. refl)
    (λ q h. refl)
    (λ q h. refl)
    (λ q p h. absurd (h refl))

merged-bytes :
    (s t : Situation) →
    (merge_of s t).refusal.number ≡ 0 →
    (merge_of s t).situation ≡ record { length = s.length; answers = merge_bytes s.length s.answers t.answers }
unfolding merge_of
merged-bytes s t =
    by_tests (λ m. m.refusal.number ≡ 0 → m.situation ≡ record { length = s.length; answers = merge_bytes s.length s.answers t.answers })
    (eqb (fault_of s).number 0)
    (eqb (fault_of t).number 0)
    (eqb s.length t.length)
    _
    _
    _
    _
    (λ q h. absurd (eqb-false (fault_of s).number 0 q h))
    (λ q h. absurd (eqb-false (fault_of t).number 0 q h))
    (λ q h. absurd (omega (arith, h)))
    (λ q p h. refl)

-- what a merge that is not refused has to do with its operands
pub record Joined (s t : Situation) (m : Situation) : Type 0 where
  pub short : s.length ≤ 6
  pub same : s.length ≡ t.length
  pub columns_are : columns m ≡ merge (columns s) (columns t)
  pub six : length m.answers ≡ 6

pub merged-joined : (s t : Situation) → length s.answers ≡ 6 → (merge_of s t).refusal.number ≡ 0 → Joined s t (merge_of s t).situation
unfolding merge_of
merged-joined s t e =
    by_tests (λ m. m.refusal.number ≡ 0 → Joined s t m.situation)
    (eqb (fault_of s).number 0)
    (eqb (fault_of t).number 0)
    (eqb s.length t.length)
    _
    _
    _
    _
    (λ q h. absurd (eqb-false (fault_of s).number 0 q h))
    (λ q h. absurd (eqb-false (fault_of t).number 0 q h))
    (λ q h. absurd (omega (arith, h)))
    (λ q p h. joined (eqb-true (fault_of s).number 0 q) (eqb-true s.length t.length p))
  where
    joined :
        (fault_of s).number ≡ 0 →
        s.length ≡ t.length →
        Joined s t (record { length = s.length; answers = merge_bytes s.length s.answers t.answers })
    joined q p =
        let short : s.length ≤ 6 = faultless_short s refl q in
        record {
          short = short;
          same = p;
          columns_are =
              merge_bytes-columns s.length s.answers t.answers (omega arith)
              ∙ ap (λ n. merge (columns s) (answers_of (take n t.answers))) p;
          six = merge_bytes-length s.length s.answers t.answers (omega arith) ∙ e;
        }

pub columns-length : (s : Situation) → length s.answers ≡ 6 → s.length ≤ 6 → length (columns s) ≡ s.length
columns-length s e h = length-map (take s.length s.answers) from_number ∙ length-take-le s.length s.answers (omega arith)

abbrev reply : Numbers → Situation → Merged
reply r m = record { refusal = r; situation = m }

-- the ways out of a merge whose check has given its refusal
module _ (s t : Situation) {q : Result Unit Refusal} (e : checked q ≡ (merge_of s t).refusal) where
  pub merge-refused : (x : Refusal) → q ≡ Err x → merged (Err (record { refusal = x; situation = s })) ≡ merge_of s t
  merge-refused x i =
      let r : numbers x ≡ (merge_of s t).refusal = check_refused e x i in
      ap₂ reply r (sym (merged-refused s t (λ h. refusal_counts x (ap (λ (n : Numbers). n.number) r ∙ h))))

  module _ (i : q ≡ Ok tt) where
    nothing : none ≡ (merge_of s t).refusal
    nothing = check_passed e tt i

    pub merge-short : length s.answers ≡ 6 → s.length ≤ 6
    merge-short l = (merged-joined s t l (sym (ap (λ (n : Numbers). n.number) nothing))).short

    pub merge-joined :
        {l : List ℕ} →
        l ≡ merge_bytes s.length s.answers t.answers →
        merged (Ok (record { length = s.length; answers = l })) ≡ merge_of s t
    merge-joined p = ap₂ reply nothing (rw p (sym (merged-bytes s t (sym (ap (λ (n : Numbers). n.number) nothing)))))
