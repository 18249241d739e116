-- What is read from bytes is a tree that they encode, of so many levels; where reading is refused, it gives a number.
use Prim.Native.Nat.{ℕ, zero, suc, ◌+◌, ◌≤◌, ◌<◌}
use mathlib.Core.Path.{◌≡◌, refl, sym, ap, ◌∙◌}
use mathlib.Core.Bool.{Bool, true, false, cond}
use mathlib.Core.List.{List, [], ◌∷◌, ◌++◌, append_assoc}
use native.Mathlib.Omega.{arith}
use native.Mathlib.Numerals.{add-one}
use lib.Dec.{leb, ltb}
use lib.ListN.{length, get_or, drop}
use lib.Seq.{drop-cons}
use borrow.Author.Tests.{leb-false, ltb-false}
use Rattle.refusals.specs.Meaning as refusal
use Rattle.fields.specs.Meaning.{two_at, four_at, two_bytes, four_bytes, Bytes}
use Rattle.fields.proofs.Numbers.{two-small, four-small, two_read_write, four_read_write, byte_at}
use Rattle.notices.specs.declared.Comparison.{Comparison}
use Rattle.codes.specs.declared.PolicyKind.{PolicyKind}
use Rattle.codes.specs.declared.PolicyKind.TheVariants as P
use Rattle.codes.specs.declared.TestKind.{TestKind}
use Rattle.codes.specs.declared.TestKind.TheVariants as T
use Rattle.codes.specs.Meaning.{policy_kind, test_kind}
use Rattle.trees.specs.Meaning.{Policy, Test, one, two, when, not, joint, comparison, present, answers, Read, made, refused}
use Rattle.trees.specs.Meaning.{and_then, comparison_at, present_at, policy_by, test_by, policy_at, test_at, PolicyBytes, TestBytes}
use Rattle.trees.specs.Meaning.{write_constant, write_one, write_two, write_when, write_not, write_joint, write_comparison}
use Rattle.trees.specs.Meaning.{write_present, write_answers, policy_depth, test_depth, PolicyFits, TestFits}
use Rattle.leaves.proofs.Comparisons.{two-after, four-after}
use Rattle.speaking.proofs.Codes.{no_turn}

-- What is read is sound in a way, or it is refused with a number.
module _ {A : Type 0} (S : A → ℕ → Type 0) where
  abbrev pub Sound : Read A → Type 0
  Sound (made a end) = S a end
  Sound (refused r) = r.number ≡ 0 → ⊥

  sound_cut : (b : Bool) (at : ℕ) (x : Read A) → (b ≡ false → Sound x) → Sound (cond b (refused (refusal.refused refusal.CUT at)) x)
  sound_cut true at x h = λ z. omega (arith, z)
  sound_cut false at x h = h refl

sound_then : {A B : Type 0} (S : A → ℕ → Type 0) (S' : B → ℕ → Type 0) (onward : A → ℕ → Read B) (x : Read A) → Sound S x →
    ((a : A) (end : ℕ) → S a end → Sound S' (onward a end)) → Sound S' (and_then x onward)
sound_then S S' onward (made a end) h g = g a end h
sound_then S S' onward (refused r) h g = h

module _ (v : List ℕ) where
  -- The tree is of so many levels, it fits, and its bytes stand between the two offsets.
  pub record PolicyRead (left at : ℕ) (p : Policy) (end : ℕ) : Type 0 where
    pub levels : policy_depth p ≤ left
    pub fits : PolicyFits p
    pub written : List ℕ
    pub encodes : PolicyBytes p written
    pub stands : drop at v ≡ written ++ drop end v

  pub record TestRead (left at : ℕ) (t : Test) (end : ℕ) : Type 0 where
    pub levels : test_depth t ≤ left
    pub fits : TestFits t
    pub written : List ℕ
    pub encodes : TestBytes t written
    pub stands : drop at v ≡ written ++ drop end v

module _ (v : List ℕ) (bytes : Bytes v) where
  -- One level: from what is read one level below.
  module _ (left at code : ℕ) (e : drop at v ≡ code ∷ drop (at + 1) v) (policy : ℕ → Read Policy) (test : ℕ → Read Test)
      (g : (i : ℕ) → Sound (PolicyRead v left i) (policy i)) (k : (i : ℕ) → Sound (TestRead v left i) (test i)) where
    -- the code and one piece of writing, and two pieces, one after the other
    headed : (xs rest : List ℕ) → drop (at + 1) v ≡ xs ++ rest → drop at v ≡ (code ∷ xs) ++ rest
    headed xs rest h = e ∙ ap (λ (l : List ℕ). code ∷ l) h

    chained : (xs ys zs rest : List ℕ) → drop (at + 1) v ≡ xs ++ zs → zs ≡ ys ++ rest → drop at v ≡ (code ∷ xs ++ ys) ++ rest
    chained xs ys zs rest h i = headed (xs ++ ys) rest (h ∙ ap (λ (l : List ℕ). xs ++ l) i ∙ sym (append_assoc xs ys rest))

    policy-made : (kind : PolicyKind) → policy_kind code ≡ kind → Sound (PolicyRead v (suc left) at) (policy_by policy test at kind)
    unfolding policy_depth PolicyFits
    policy-made (P.Constant a) h = record { levels = omega arith; fits = tt; written = code ∷ []; encodes = write_constant h; stands = e }
    policy-made (P.One operator) h =
        sound_then (PolicyRead v left (at + 1)) (PolicyRead v (suc left) at) (λ p end. made (one operator p) end)
        (policy (at + 1)) (g (at + 1))
        (λ p end r. record {
          levels = omega (arith, r.levels);
          fits = (no_turn code operator h, r.fits);
          written = code ∷ r.written;
          encodes = write_one h r.encodes;
          stands = headed r.written (drop end v) r.stands;
        })
    policy-made (P.Two operator) h =
        sound_then (PolicyRead v left (at + 1)) (PolicyRead v (suc left) at)
        (λ p next. and_then (policy next) (λ q end. made (two operator p q) end))
        (policy (at + 1)) (g (at + 1))
        (λ p next r. sound_then (PolicyRead v left next) (PolicyRead v (suc left) at) (λ q end. made (two operator p q) end)
        (policy next) (g next)
        (λ q end s. record {
          levels = omega (arith, r.levels, s.levels);
          fits = (r.fits, s.fits);
          written = code ∷ r.written ++ s.written;
          encodes = write_two h r.encodes s.encodes refl;
          stands = chained r.written s.written (drop next v) (drop end v) r.stands s.stands;
        }))
    policy-made P.When h =
        sound_then (TestRead v left (at + 1)) (PolicyRead v (suc left) at) (λ t next. and_then (policy next) (λ p end. made (when t p) end))
        (test (at + 1)) (k (at + 1))
        (λ t next r. sound_then (PolicyRead v left next) (PolicyRead v (suc left) at) (λ p end. made (when t p) end) (policy next) (g next)
        (λ p end s. record {
          levels = omega (arith, r.levels, s.levels);
          fits = (r.fits, s.fits);
          written = code ∷ r.written ++ s.written;
          encodes = write_when h r.encodes s.encodes refl;
          stands = chained r.written s.written (drop next v) (drop end v) r.stands s.stands;
        }))
    policy-made P.Foreign h = λ q. omega (arith, q)

    byte_stands : (i : ℕ) → at + i < length v → drop (at + i) v ≡ get_or v (at + i) 0 ∷ drop (at + (i + 1)) v
    byte_stands i h =
        let n : suc (at + i) ≡ at + (i + 1) = omega arith in
        drop-cons v (at + i) 0 h ∙ ap (λ (j : ℕ). get_or v (at + i) 0 ∷ drop j v) n

    two_stand : at + 3 ≤ length v → drop (at + 1) v ≡ two_bytes (two_at v (at + 1)) ++ drop (at + 3) v
    two_stand h =
        rw (two-after v at 1)
        (byte_stands 1 (omega arith)
        ∙ ap (λ (l : List ℕ). get_or v (at + 1) 0 ∷ l) (byte_stands 2 (omega arith))
        ∙ ap (λ (l : List ℕ). l ++ drop (at + 3) v) (sym (two_read_write (byte_at v bytes (at + 1)) (byte_at v bytes (at + 2)))))

    four_stand : at + 7 ≤ length v → drop (at + 3) v ≡ four_bytes (four_at v (at + 3)) ++ drop (at + 7) v
    four_stand h =
        rw (four-after v at 3)
        (byte_stands 3 (omega arith)
        ∙ ap (λ (l : List ℕ). get_or v (at + 3) 0 ∷ l) (byte_stands 4 (omega arith))
        ∙ ap (λ (l : List ℕ). get_or v (at + 3) 0 ∷ get_or v (at + 4) 0 ∷ l) (byte_stands 5 (omega arith))
        ∙ ap (λ (l : List ℕ). get_or v (at + 3) 0 ∷ get_or v (at + 4) 0 ∷ get_or v (at + 5) 0 ∷ l) (byte_stands 6 (omega arith))
        ∙ ap (λ (l : List ℕ). l ++ drop (at + 7) v)
        (sym (four_read_write (byte_at v bytes (at + 3)) (byte_at v bytes (at + 4)) (byte_at v bytes (at + 5)) (byte_at v bytes (at + 6)))))

    fact_small : two_at v (at + 1) < 65536
    fact_small = rw (two-after v at 1) (two-small (byte_at v bytes (at + 1)) (byte_at v bytes (at + 2)))

    value-small : four_at v (at + 3) < 4294967296
    value-small =
        rw (four-after v at 3)
        (four-small (byte_at v bytes (at + 3)) (byte_at v bytes (at + 4)) (byte_at v bytes (at + 5)) (byte_at v bytes (at + 6)))

    comparison-made : (c : Comparison) → test_kind code ≡ T.Comparison c → Sound (TestRead v (suc left) at) (comparison_at v at c)
    unfolding comparison_at policy_depth PolicyFits
    comparison-made c h =
        sound_cut (TestRead v (suc left) at) (ltb (length v) (at + 7)) at
        (made (comparison c (two_at v (at + 1)) (four_at v (at + 3))) (at + 7))
        (λ z. let l = ltb-false (length v) (at + 7) z in record {
          levels = omega arith;
          fits = (fact_small, value-small);
          written = code ∷ two_bytes (two_at v (at + 1)) ++ four_bytes (four_at v (at + 3));
          encodes = write_comparison h refl;
          stands =
              chained (two_bytes (two_at v (at + 1))) (four_bytes (four_at v (at + 3))) (drop (at + 3) v) (drop (at + 7) v)
              (two_stand (omega arith)) (four_stand l);
        })

    present-made : test_kind code ≡ T.Present → Sound (TestRead v (suc left) at) (present_at v at)
    unfolding present_at policy_depth PolicyFits
    present-made h =
        sound_cut (TestRead v (suc left) at) (ltb (length v) (at + 3)) at (made (present (two_at v (at + 1))) (at + 3))
        (λ z. let l = ltb-false (length v) (at + 3) z in record {
          levels = omega arith;
          fits = fact_small;
          written = code ∷ two_bytes (two_at v (at + 1));
          encodes = write_present h refl;
          stands = headed (two_bytes (two_at v (at + 1))) (drop (at + 3) v) (two_stand l);
        })

    test-made : (kind : TestKind) → test_kind code ≡ kind → Sound (TestRead v (suc left) at) (test_by policy test v at kind)
    unfolding policy_depth PolicyFits
    test-made T.Not h =
        sound_then (TestRead v left (at + 1)) (TestRead v (suc left) at) (λ t end. made (not t) end) (test (at + 1)) (k (at + 1))
        (λ t end r. record {
          levels = omega (arith, r.levels);
          fits = r.fits;
          written = code ∷ r.written;
          encodes = write_not h r.encodes;
          stands = headed r.written (drop end v) r.stands;
        })
    test-made (T.Joint j) h =
        sound_then (TestRead v left (at + 1)) (TestRead v (suc left) at) (λ t next. and_then (test next) (λ u end. made (joint j t u) end))
        (test (at + 1)) (k (at + 1))
        (λ t next r. sound_then (TestRead v left next) (TestRead v (suc left) at) (λ u end. made (joint j t u) end) (test next) (k next)
        (λ u end s. record {
          levels = omega (arith, r.levels, s.levels);
          fits = (r.fits, s.fits);
          written = code ∷ r.written ++ s.written;
          encodes = write_joint h r.encodes s.encodes refl;
          stands = chained r.written s.written (drop next v) (drop end v) r.stands s.stands;
        }))
    test-made (T.Comparison c) h = comparison-made c h
    test-made T.Present h = present-made h
    test-made (T.Answers a) h =
        sound_then (PolicyRead v left (at + 1)) (TestRead v (suc left) at) (λ p end. made (answers a p) end) (policy (at + 1)) (g (at + 1))
        (λ p end r. record {
          levels = omega (arith, r.levels);
          fits = r.fits;
          written = code ∷ r.written;
          encodes = write_answers h r.encodes;
          stands = headed r.written (drop end v) r.stands;
        })
    test-made T.Foreign h = λ q. omega (arith, q)

  code_stands : (at : ℕ) → at < length v → drop at v ≡ get_or v at 0 ∷ drop (at + 1) v
  code_stands at h = rw add-one (drop-cons v at 0 h)

  mutual
    unfolding policy_at

    pub policy_read_write : (left at : ℕ) → Sound (PolicyRead v left at) (policy_at left v at)
    policy_read_write zero at = λ z. omega (arith, z)
    policy_read_write (suc left) at =
        sound_cut (PolicyRead v (suc left) at) (leb (length v) at) at
        (policy_by (λ i. policy_at left v i) (λ i. test_at left v i) at (policy_kind (get_or v at 0)))
        (λ l. policy-made left at (get_or v at 0) (code_stands at (leb-false (length v) at l)) (λ i. policy_at left v i) (λ i. test_at left v i)
        (λ i. policy_read_write left i) (λ i. test_read_write left i) (policy_kind (get_or v at 0)) refl)

    pub test_read_write : (left at : ℕ) → Sound (TestRead v left at) (test_at left v at)
    test_read_write zero at = λ z. omega (arith, z)
    test_read_write (suc left) at =
        sound_cut (TestRead v (suc left) at) (leb (length v) at) at
        (test_by (λ i. policy_at left v i) (λ i. test_at left v i) v at (test_kind (get_or v at 0)))
        (λ l. test-made left at (get_or v at 0) (code_stands at (leb-false (length v) at l)) (λ i. policy_at left v i) (λ i. test_at left v i)
        (λ i. policy_read_write left i) (λ i. test_read_write left i) (test_kind (get_or v at 0)) refl)
