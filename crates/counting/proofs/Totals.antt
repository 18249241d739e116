-- Counts add up: the five totals to the replies, the numbers to the refused, and those of two lists to those of both.
use Prim.Native.Nat.{ℕ, zero, suc, ◌+◌, ◌≤◌, ◌<◌}
use mathlib.Core.Path.{◌≡◌, refl, sym, ap, ap₂, ◌∙◌}
use mathlib.Core.Bool.{Bool, true, false, cond}
use mathlib.Core.List.{List, [], ◌∷◌, ◌++◌}
use native.Mathlib.Omega.{arith}
use lib.Dec.{eqb}
use lib.ListN.{length, get_or, length-append}
use borrow.Author.Tests.{eq-eqb, ne_eqb, eqb-true, eqb-false}
use Rattle.answers.specs.declared.Answer.{Answer}
use Rattle.answers.specs.declared.Answer.TheVariants.{Silent, Bury, Keep, Clash}
use Rattle.answers.specs.Meaning.{Reply, number}
use Rattle.counts.specs.Meaning.{count, refused, gave, refused_as, numbers_from, counts_of, LARGEST, raised, raised_all, plus}
use Rattle.counts.proofs.Raising.{count_most, raised-sum}
use Rattle.counting.specs.Meaning.{total, sums, sum}

-- one more on one side is one more in the sum
one_more : (b : Bool) (m n k : ℕ) → m ≡ n + k → cond b (suc m) m ≡ cond b (suc n) n + k
one_more true m n k e = omega arith
one_more false m n k e = e

module _ {A : Type 0} (test : A → Bool) where
  pub count-append : (xs ys : List A) → count test (xs ++ ys) ≡ count test xs + count test ys
  unfolding count
  count-append [] ys = omega arith
  count-append (x ∷ xs) ys = one_more (test x) (count test (xs ++ ys)) (count test xs) (count test ys) (count-append xs ys)

-- each reply is counted in exactly one of the five
one_of_five : (b : Bool) (a : Answer) (s u k c f n : ℕ) → s + u + k + c + f ≡ n →
    cond (cond b false (eqb (number a) 0)) (suc s) s + cond (cond b false (eqb (number a) 1)) (suc u) u
    + cond (cond b false (eqb (number a) 2)) (suc k) k + cond (cond b false (eqb (number a) 3)) (suc c) c + cond b (suc f) f
    ≡ suc n
one_of_five true a s u k c f n e = omega arith
one_of_five false Silent s u k c f n e = omega arith
one_of_five false Bury s u k c f n e = omega arith
one_of_five false Keep s u k c f n e = omega arith
one_of_five false Clash s u k c f n e = omega arith

pub five_add_up : (rs : List Reply) →
    count (gave Silent) rs + count (gave Bury) rs + count (gave Keep) rs + count (gave Clash) rs + count refused rs ≡ length rs
unfolding count
five_add_up [] = refl
five_add_up (r ∷ rs) =
    one_of_five (refused r) r.answer (count (gave Silent) rs) (count (gave Bury) rs) (count (gave Keep) rs) (count (gave Clash) rs)
    (count refused rs) (length rs) (five_add_up rs)

-- the counts by number: so many places, and what stands at each
pub numbers-length : (n places : ℕ) (rs : List Reply) → length (numbers_from n places rs) ≡ places
unfolding numbers_from
numbers-length n zero rs = refl
numbers-length n (suc places) rs = ap suc (numbers-length (suc n) places rs)

pub numbers_at : (n places k : ℕ) (rs : List Reply) → k < places → get_or (numbers_from n places rs) k 0 ≡ count (refused_as (n + k)) rs
unfolding numbers_from
numbers_at n zero k rs h = absurd (omega arith)
numbers_at n (suc places) zero rs h = ap (λ (m : ℕ). count (refused_as m) rs) (let e : n ≡ n + 0 = omega arith in e)
numbers_at n (suc places) (suc k) rs h =
    numbers_at (suc n) places k rs (omega arith) ∙ ap (λ (m : ℕ). count (refused_as m) rs) (let e : suc n + k ≡ n + suc k = omega arith in e)

-- a reply that is refused with a number among the places raises their total by one, and any other leaves it
module _ (r : Reply) (rs : List Reply) where
  total-same : (n places : ℕ) → ((k : ℕ) → n ≤ k → refused_as k r ≡ false) →
      total (numbers_from n places (r ∷ rs)) ≡ total (numbers_from n places rs)
  unfolding numbers_from count
  total-same n zero h = refl
  total-same n (suc places) h =
      rw (h n (omega arith)) (ap (λ (m : ℕ). count (refused_as n) rs + m) (total-same (suc n) places (λ k l. h k (omega (arith, l)))))

  module _ (e : refused r ≡ true) where
    refused_as_lem : (k : ℕ) → r.refusal.number ≡ k → refused_as k r ≡ true
    refused_as_lem k q = rw e (eq-eqb r.refusal.number k q)

    refused-other : (k : ℕ) → (r.refusal.number ≡ k → ⊥) → refused_as k r ≡ false
    refused-other k d = rw e (ne_eqb r.refusal.number k d)

    next_more : (n places : ℕ) (b : Bool) → eqb r.refusal.number n ≡ b →
        (suc n ≤ r.refusal.number → total (numbers_from (suc n) places (r ∷ rs)) ≡ suc (total (numbers_from (suc n) places rs))) →
        n ≤ r.refusal.number →
        total (numbers_from n (suc places) (r ∷ rs)) ≡ suc (total (numbers_from n (suc places) rs))
    unfolding numbers_from count
    next_more n places true q later h =
        let is : r.refusal.number ≡ n = eqb-true r.refusal.number n q in
        let same = total-same (suc n) places (λ k m. refused-other k (λ z. omega (arith, m, z, is))) in
        rw (refused_as_lem n is, same) (omega arith)
    next_more n places false q later h =
        let isnt : r.refusal.number ≡ n → ⊥ = eqb-false r.refusal.number n q in
        rw (refused-other n isnt, later (omega (arith, isnt))) (omega arith)

    total-more : (n places : ℕ) → n ≤ r.refusal.number → r.refusal.number < n + places →
        total (numbers_from n places (r ∷ rs)) ≡ suc (total (numbers_from n places rs))
    total-more n zero h l = absurd (omega arith)
    total-more n (suc places) h l =
        next_more n places (eqb r.refusal.number n) refl (λ m. total-more (suc n) places m (omega arith)) h

-- every reply that is refused has a number below 32
abbrev pub Numbered : List Reply → Type 0
Numbered [] = Unit
Numbered (r ∷ rs) = (r.refusal.number < 32) × Numbered rs

total-none : (n places : ℕ) → total (numbers_from n places []) ≡ 0
unfolding numbers_from count
total-none n zero = refl
total-none n (suc places) = rw (total-none (suc n) places)

with_this : (r : Reply) (rs : List Reply) (b : Bool) → refused r ≡ b → r.refusal.number < 32 →
    total (numbers_from 0 32 rs) ≡ count refused rs →
    total (numbers_from 0 32 (r ∷ rs)) ≡ cond b (suc (count refused rs)) (count refused rs)
with_this r rs true e h rest = total-more r rs e 0 32 (omega arith) (omega arith) ∙ ap suc rest
with_this r rs false e h rest = total-same r rs 0 32 (λ k l. rw e refl) ∙ rest

pub numbers_add_up : (rs : List Reply) → Numbered rs → total (numbers_from 0 32 rs) ≡ count refused rs
unfolding count
numbers_add_up [] h = total-none 0 32
numbers_add_up (r ∷ rs) h = with_this r rs (refused r) refl h.0 (numbers_add_up rs h.1)

-- counts of two lists
pub numbers-append : (n places : ℕ) (rs ss : List Reply) →
    numbers_from n places (rs ++ ss) ≡ sums (numbers_from n places rs) (numbers_from n places ss)
unfolding numbers_from
numbers-append n zero rs ss = refl
numbers-append n (suc places) rs ss =
    ap₂ (λ (m : ℕ) (l : List ℕ). m ∷ l) (count-append (refused_as n) rs ss) (numbers-append (suc n) places rs ss)

pub counts_append : (rs ss : List Reply) → counts_of (rs ++ ss) ≡ sum (counts_of rs) (counts_of ss)
counts_append rs ss =
    rw (
      count-append (gave Silent) rs ss,
      count-append (gave Bury) rs ss,
      count-append (gave Keep) rs ss,
      count-append (gave Clash) rs ss,
      count-append refused rs ss,
      numbers-append 0 32 rs ss,
    )

-- raised counts are sums, up to the largest number
pub raised_all-sums : (n places : ℕ) (rs ss : List Reply) → length rs + length ss ≤ LARGEST →
    raised_all (numbers_from n places rs) (numbers_from n places ss) ≡ sums (numbers_from n places rs) (numbers_from n places ss)
unfolding numbers_from raised_all
raised_all-sums n zero rs ss h = refl
raised_all-sums n (suc places) rs ss h =
    ap₂ (λ (m : ℕ) (l : List ℕ). m ∷ l)
    (raised-sum (count (refused_as n) rs) (count (refused_as n) ss)
    (omega (arith, count_most (refused_as n) rs, count_most (refused_as n) ss)))
    (raised_all-sums (suc n) places rs ss h)

pub plus-sum : (rs ss : List Reply) → length rs + length ss ≤ LARGEST → plus (counts_of rs) (counts_of ss) ≡ sum (counts_of rs) (counts_of ss)
plus-sum rs ss h =
    rw (by (gave Silent), by (gave Bury), by (gave Keep), by (gave Clash), by refused, raised_all-sums 0 32 rs ss h)
  where
    by : (test : Reply → Bool) → raised (count test rs) (count test ss) ≡ count test rs + count test ss
    by test = raised-sum (count test rs) (count test ss) (omega (arith, count_most test rs, count_most test ss))

pub plus-append : (rs ss : List Reply) → length (rs ++ ss) ≤ LARGEST → plus (counts_of rs) (counts_of ss) ≡ counts_of (rs ++ ss)
plus-append rs ss h = plus-sum rs ss (rw (length-append rs ss) at h) ∙ sym (counts_append rs ss)
