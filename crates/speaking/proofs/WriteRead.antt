-- A tree that is written is read back, with what follows it left over.
use Prim.Native.Nat.{ℕ, suc, ◌+◌, ◌-◌, ◌≤◌, ◌<◌, max}
use mathlib.Core.Path.{◌≡◌, refl, sym, ap, ◌∙◌}
use mathlib.Core.List.{List, ◌∷◌, ◌++◌, append_assoc}
use native.Mathlib.Omega.{arith}
use lib.ListN.{length, get_or, drop, length-drop}
use lib.Seq.{get_or-drop, drop-drop}
use borrow.Author.Tests.{lt-leb, le-ltb}
use Rattle.fields.specs.Meaning.{two_at, four_at, two_bytes, four_bytes}
use Rattle.fields.proofs.Numbers.{two_write_read, four_write_read}
use Rattle.notices.specs.declared.Comparison.{Comparison}
use Rattle.codes.specs.declared.PolicyKind.{PolicyKind}
use Rattle.codes.specs.declared.PolicyKind.TheVariants as P
use Rattle.codes.specs.declared.TestKind.{TestKind}
use Rattle.codes.specs.declared.TestKind.TheVariants as T
use Rattle.codes.specs.Meaning.{policy_kind, test_kind}
use Rattle.trees.specs.Meaning.{Policy, Test, one, two, when, not, joint, comparison, present, answers, Read, made, and_then}
use Rattle.trees.specs.Meaning.{comparison_at, present_at, policy_by, test_by, policy_at, test_at, PolicyBytes, TestBytes, write_constant}
use Rattle.trees.specs.Meaning.{write_one, write_two, write_when, write_not, write_joint, write_comparison, write_present}
use Rattle.trees.specs.Meaning.{write_answers, policy_depth, test_depth}
use Rattle.leaves.proofs.Comparisons.{two-after, four-after}

-- What the bytes from an offset on say of the list.
module _ (v : List ℕ) (at : ℕ) {xs : List ℕ} (e : drop at v ≡ xs) where
  byte-after : (i : ℕ) → get_or v (at + i) 0 ≡ get_or xs i 0
  byte-after i = sym (get_or-drop at v i 0) ∙ ap (λ (l : List ℕ). get_or l i 0) e

  rest-after : (i : ℕ) → drop (at + i) v ≡ drop i xs
  rest-after i = sym (drop-drop i at v) ∙ ap (λ (l : List ℕ). drop i l) e

  length-after : length v - at ≡ length xs
  length-after = sym (length-drop at v) ∙ ap (λ (l : List ℕ). length l) e

-- What was read: the tree, and an offset from which the rest follows.
pub record Reads {A : Type 0} (x : Read A) (v : List ℕ) (a : A) (rest : List ℕ) : Type 0 where
  pub next : ℕ
  pub reads : x ≡ made a next
  pub after : drop next v ≡ rest

-- Reading a tree that so many levels suffice for, from an offset where its bytes stand.
abbrev Readable : {A : Type 0} → (ℕ → List ℕ → ℕ → Read A) → (A → ℕ) → List ℕ → A → List ℕ → List ℕ → Type 0
Readable read_at depth v a xs rest = (left at : ℕ) → depth a ≤ left → drop at v ≡ xs ++ rest → Reads (read_at left v at) v a rest

module _ (v : List ℕ) where
  one_reads : {A B : Type 0} (f : A → B) {x : Read A} {a : A} {rest : List ℕ} → Reads x v a rest →
      Reads (and_then x (λ a end. made (f a) end)) v (f a) rest
  one_reads f r = record { next = r.next; reads = rw r.reads; after = r.after }

  two_reads : {A B C : Type 0} (f : A → B → C) {x : Read A} (y : ℕ → Read B) {a : A} {b : B} {mid rest : List ℕ} →
      Reads x v a mid → ((i : ℕ) → drop i v ≡ mid → Reads (y i) v b rest) →
      Reads (and_then x (λ a next. and_then (y next) (λ b end. made (f a b) end))) v (f a b) rest
  two_reads f y r g =
      let s = g r.next r.after in
      record { next = s.next; reads = rw (r.reads, s.reads); after = s.after }

  module _ (left at : ℕ) {code : ℕ} {xs : List ℕ} (e : drop at v ≡ code ∷ xs) where
    code_there : at < length v
    code_there = omega (arith, length-after v at e)

    level : 0 < left → left ≡ suc (left - 1)
    level some = omega arith

    code_is : get_or v at 0 ≡ code
    code_is = ap (λ (i : ℕ). get_or v i 0) (omega arith) ∙ byte-after v at e 0

    policy-step : (kind : PolicyKind) → policy_kind code ≡ kind → 0 < left →
        policy_at left v at ≡ policy_by (λ i. policy_at (left - 1) v i) (λ i. test_at (left - 1) v i) at kind
    unfolding policy_at
    policy-step kind h some = ap (λ (k : ℕ). policy_at k v at) (level some) ∙ rw (lt-leb (length v) at code_there, code_is, h)

    test-step : (kind : TestKind) → test_kind code ≡ kind → 0 < left →
        test_at left v at ≡ test_by (λ i. policy_at (left - 1) v i) (λ i. test_at (left - 1) v i) v at kind
    unfolding policy_at
    test-step kind h some = ap (λ (k : ℕ). test_at k v at) (level some) ∙ rw (lt-leb (length v) at code_there, code_is, h)

  -- One level: the operands are read one level below.
  module _ (left at : ℕ) (rest : List ℕ) {code : ℕ} where
    -- one operand, of a policy or a test
    one_case : {A B : Type 0} (read_at : ℕ → List ℕ → ℕ → Read A) (depth : A → ℕ) (f : A → B) (a : A) (xs : List ℕ) (x : Read B) →
        x ≡ and_then (read_at left v (at + 1)) (λ a end. made (f a) end) → depth a ≤ left → drop at v ≡ (code ∷ xs) ++ rest →
        Readable read_at depth v a xs rest → Reads x v (f a) rest
    one_case read_at depth f a xs x s d e g = rw s (one_reads f (g left (at + 1) d (rest-after v at e 1)))

    -- two operands, the second after the first
    two_case : {A B C : Type 0} (read_a : ℕ → List ℕ → ℕ → Read A) (read_b : ℕ → List ℕ → ℕ → Read B) (depth_a : A → ℕ) (depth_b : B →
        ℕ) (f : A → B → C)
        (a : A) (b : B) (xs ys zs : List ℕ) (x : Read C) →
        x ≡ and_then (read_a left v (at + 1)) (λ a next. and_then (read_b left v next) (λ b end. made (f a b) end)) →
        max (depth_a a) (depth_b b) ≤ left → drop at v ≡ (code ∷ zs) ++ rest → zs ≡ xs ++ ys →
        Readable read_a depth_a v a xs (ys ++ rest) → Readable read_b depth_b v b ys rest → Reads x v (f a b) rest
    two_case read_a read_b depth_a depth_b f a b xs ys zs x s d e j g h =
        rw s
        (two_reads f (λ i. read_b left v i)
        (g left (at + 1) (omega arith) (rest-after v at e 1 ∙ ap (λ (l : List ℕ). l ++ rest) j ∙ append_assoc xs ys rest))
        (λ i j. h left i (omega arith) j))

  -- A fact's number after the code, and a value after that.
  module _ (at n : ℕ) {code : ℕ} {xs : List ℕ} (e : drop at v ≡ code ∷ two_bytes n ++ xs) where
    fact_after : two_at v (at + 1) ≡ n
    fact_after = two-after v at 1 ∙ rw (byte-after v at e 1, byte-after v at e 2) (two_write_read n)

    value_after : (x : ℕ) {ys : List ℕ} → xs ≡ four_bytes x ++ ys → four_at v (at + 3) ≡ x
    value_after x h =
        four-after v at 3 ∙ rw (byte-after v at e 3, byte-after v at e 4, byte-after v at e 5, byte-after v at e 6, h) (four_write_read x)

  comparison_case : (c : Comparison) (n x : ℕ) (at : ℕ) (rest : List ℕ) {code : ℕ} →
      drop at v ≡ code ∷ (two_bytes n ++ four_bytes x) ++ rest → Reads (comparison_at v at c) v (comparison c n x) rest
  unfolding comparison_at
  comparison_case c n x at rest e = record {
    next = at + 7;
    reads =
        rw (
          le-ltb (length v) (at + 7) (omega (arith, length-after v at e)),
          fact_after at n {xs =
              four_bytes x ++ rest} e,
          value_after at n {xs = four_bytes x ++ rest} e x refl,
        );
    after = rest-after v at e 7;
  }

  present_case : (n : ℕ) (at : ℕ) (rest : List ℕ) {code : ℕ} → drop at v ≡ code ∷ two_bytes n ++ rest →
      Reads (present_at v at) v (present n) rest
  unfolding present_at
  present_case n at rest e = record {
    next = at + 3;
    reads = rw (le-ltb (length v) (at + 3) (omega (arith, length-after v at e)), fact_after at n {xs = rest} e);
    after = rest-after v at e 3;
  }

  mutual
    unfolding policy_depth

    pub policy_write_read : {p : Policy} {xs : List ℕ} → PolicyBytes p xs → (rest : List ℕ) → Readable policy_at policy_depth v p xs rest
    policy_write_read (write_constant {code} {a} h) rest left at d e =
        record { next = at + 1; reads = policy-step left at e (P.Constant a) h (omega arith); after = rest-after v at e 1 }
    policy_write_read (write_one {code} {operator} {p} {ps} h b) rest left at d e =
        one_case (left - 1) at rest policy_at policy_depth (one operator) p ps (policy_at left v at)
        (policy-step left at e (P.One operator) h (omega arith)) (omega arith) e (λ k i l j. policy_write_read b rest k i l j)
    policy_write_read (write_two {code} {operator} {p} {q} {ps} {qs} {v = xs} h b c w) rest left at d e =
        two_case (left - 1) at rest policy_at policy_at policy_depth policy_depth (two operator) p q ps qs xs (policy_at left v at)
        (policy-step left at e (P.Two operator) h (omega arith)) (omega arith) e w
        (λ k i l j. policy_write_read b (qs ++ rest) k i l j) (λ k i l j. policy_write_read c rest k i l j)
    policy_write_read (write_when {code} {t} {p} {ts} {ps} {v = xs} h b c w) rest left at d e =
        two_case (left - 1) at rest test_at policy_at test_depth policy_depth when t p ts ps xs (policy_at left v at)
        (policy-step left at e P.When h (omega arith)) (omega arith) e w
        (λ k i l j. test_write_read b (ps ++ rest) k i l j) (λ k i l j. policy_write_read c rest k i l j)

    pub test_write_read : {t : Test} {xs : List ℕ} → TestBytes t xs → (rest : List ℕ) → Readable test_at test_depth v t xs rest
    test_write_read (write_not {code} {t} {ts} h b) rest left at d e =
        one_case (left - 1) at rest test_at test_depth not t ts (test_at left v at)
        (test-step left at e T.Not h (omega arith)) (omega arith) e (λ k i l j. test_write_read b rest k i l j)
    test_write_read (write_joint {code} {j} {t} {u} {ts} {us} {v = xs} h b c w) rest left at d e =
        two_case (left - 1) at rest test_at test_at test_depth test_depth (joint j) t u ts us xs (test_at left v at)
        (test-step left at e (T.Joint j) h (omega arith)) (omega arith) e w
        (λ k i l j. test_write_read b (us ++ rest) k i l j) (λ k i l j. test_write_read c rest k i l j)
    test_write_read (write_comparison {code} {c} {fact = n} {value = x} {v = xs} h w) rest left at d e =
        rw (test-step left at e (T.Comparison c) h (omega arith))
        (comparison_case c n x at rest (e ∙ ap (λ (l : List ℕ). code ∷ l ++ rest) w))
    test_write_read (write_present {code} {fact = n} {v = xs} h w) rest left at d e =
        rw (test-step left at e T.Present h (omega arith)) (present_case n at rest (e ∙ ap (λ (l : List ℕ). code ∷ l ++ rest) w))
    test_write_read (write_answers {code} {a} {p} {ps} h b) rest left at d e =
        one_case (left - 1) at rest policy_at policy_depth (answers a) p ps (test_at left v at)
        (test-step left at e (T.Answers a) h (omega arith)) (omega arith) e (λ k i l j. policy_write_read b rest k i l j)
