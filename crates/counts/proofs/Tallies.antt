-- One reply counted: an answer, or a refusal.
use Prim.Native.Nat.{ℕ, zero, suc, ◌+◌, ◌≤◌, ◌<◌}
use mathlib.Core.Path.{◌≡◌, refl, ap, sym, ◌∙◌}
use mathlib.Core.Bool.{Bool, true, false, cond}
use mathlib.Core.List.{List, [], ◌∷◌}
use native.Mathlib.Omega.{arith}
use lib.Dec.{ltb, eqb}
use lib.ListN.{set, get_or}
use borrow.Author.Tests.{ltb-true, ltb-false, eq-eqb, ne_eqb}
use Rattle.answers.specs.declared.Answer.{Answer}
use Rattle.answers.specs.declared.Answer.TheVariants.{Silent, Bury, Keep, Clash}
use Rattle.refusals.specs.declared.Refusal.{Refusal}
use Rattle.refusals.specs.Meaning.{numbers, kind_number}
use Rattle.refusals.proofs.Checks.{refusal_counts}
use Rattle.answers.specs.Meaning.{Reply, number, succeed, refuse_answer}
use Rattle.counts.specs.declared.Counts.{Counts}
use Rattle.counts.specs.Meaning.{count, refused_as, numbers_from, counts_of, more, raised, raised_all, plus}
use Rattle.counts.specs.Inside.{answered, tallied}

-- a reply that is refused with none of the numbers listed raises none of them
module _ (r : Reply) where
  unlisted :
      (xs : List ℕ) (n places : ℕ) →
      ((k : ℕ) → n ≤ k → k < n + places → refused_as k r ≡ false) →
      raised_all xs (numbers_from n places (r ∷ [])) ≡ xs
  unfolding raised_all numbers_from count raised
  unlisted [] n places h = refl
  unlisted (x ∷ xs) n zero h = refl
  unlisted (x ∷ xs) n (suc places) h =
      rw (h n (omega arith) (omega arith))
      (ap (λ l. x ∷ l) (unlisted xs (suc n) places (λ k l m. h k (omega (arith, l)) (omega (arith, m)))))

  module _ (f : r.refusal.number ≡ 0 → ⊥) where
    as_number : (k : ℕ) → refused_as k r ≡ eqb r.refusal.number k
    as_number k = rw (ne_eqb r.refusal.number 0 f)

    other : (k : ℕ) → (r.refusal.number ≡ k → ⊥) → refused_as k r ≡ false
    other k e = as_number k ∙ ne_eqb r.refusal.number k e

    -- one that is refused raises the count of its number
    listed :
        (xs : List ℕ) (n places j : ℕ) →
        r.refusal.number ≡ n + j →
        j < places →
        raised_all xs (numbers_from n places (r ∷ [])) ≡ set xs j (more (get_or xs j 0))
    unfolding raised_all numbers_from count raised
    listed [] n places j e l = refl
    listed (x ∷ xs) n zero j e l = absurd (omega arith)
    listed (x ∷ xs) n (suc places) zero e l =
        rw (as_number n, eq-eqb r.refusal.number n (omega arith))
        (ap (λ l. more x ∷ l) (unlisted xs (suc n) places (λ k l m. other k (λ q. omega (arith, l, q, e)))))
    listed (x ∷ xs) n (suc places) (suc j) e l =
        rw (other n (λ q. omega (arith, q, e))) (ap (λ l. x ∷ l) (listed xs (suc n) places j (omega arith) (omega arith)))

    pub reply-refused : (c : Counts) → tallied c r.refusal.number ≡ plus c (counts_of (r ∷ []))
    unfolding count raised
    reply-refused c = rw (ne_eqb number 0 f) (ap with_numbers (go (ltb number 32) refl))
      where
        number : ℕ
        number = r.refusal.number

        with_numbers : List ℕ → Counts
        with_numbers l =
            record { silent = c.silent; bury = c.bury; keep = c.keep; clash = c.clash; refused = more c.refused; numbers = l }

        go :
            (b : Bool) →
            ltb number 32 ≡ b →
            cond b (set c.numbers number (more (get_or c.numbers number 0))) c.numbers
            ≡ raised_all c.numbers (numbers_from 0 32 (r ∷ []))
        go true e = sym (listed c.numbers 0 32 number (omega arith) (ltb-true number 32 e))
        go false e =
            let large = ltb-false number 32 e in sym (unlisted c.numbers 0 32 (λ k l m. other k (λ q. omega (arith, large, m, q))))

  pub reply-answered : (c : Counts) → r.refusal.number ≡ 0 → answered c r.answer ≡ plus c (counts_of (r ∷ []))
  unfolding count raised
  reply-answered c z =
      let none : raised_all c.numbers (numbers_from 0 32 (r ∷ [])) ≡ c.numbers =
      unlisted c.numbers 0 32 (λ k l m. rw (eq-eqb r.refusal.number 0 z)) in
      rw (none, eq-eqb r.refusal.number 0 z) (go r.answer)
    where
      go : (a : Answer) → answered c a ≡ record {
        silent = raised c.silent (cond (eqb (number a) 0) 1 0);
        bury = raised c.bury (cond (eqb (number a) 1) 1 0);
        keep = raised c.keep (cond (eqb (number a) 2) 1 0);
        clash = raised c.clash (cond (eqb (number a) 3) 1 0);
        refused = c.refused;
        numbers = c.numbers;
      }
      go Silent = refl
      go Bury = refl
      go Keep = refl
      go Clash = refl

-- the same of what code counts: an answer that is given, and a refusal
pub answer_counted : (r : Reply) (a : Answer) (c : Counts) → succeed a ≡ r → answered c a ≡ plus c (counts_of (r ∷ []))
answer_counted r a c e = rw (← e) (reply-answered (succeed a) c refl)

pub refusal_counted : (r : Reply) (x : Refusal) (c : Counts) → refuse_answer (numbers x) ≡ r → tallied c (kind_number x.kind) ≡ plus c (counts_of (r ∷ []))
refusal_counted r x c e = rw (← e) (reply-refused (refuse_answer (numbers x)) (refusal_counts x) c)
