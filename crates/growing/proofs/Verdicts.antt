-- What the check's verdict says of any array.
use Prim.Native.Nat.{ℕ, ◌^◌, ◌<◌}
use mathlib.Core.Path.{◌≡◌, refl, ap, subst, sym, ◌∙◌}
use mathlib.Core.Logic.{◌↔◌}
use mathlib.Core.Bool.{Bool, true, false, cond}
use mathlib.Core.List.{List}
use lib.Dec.{ltb, eqb}
use lib.ListN.{length, replicate, length-replicate}
use borrow.Author.Tests.{ltb-true, ltb-false, eqb-true, eq-eqb}
use native.Mathlib.Omega.{arith}
use Rattle.refusals.specs.Meaning.{none}
use Rattle.answers.specs.Meaning.{Reply, from_number}
use Rattle.answers.specs.declared.Answer.{Answer}
use Rattle.answers.proofs.Claims.{from_number_lem}
use Rattle.situations.specs.Meaning.{fault, situation_at}
use Rattle.situations.proofs.Numbers.{situation_at-length}
use Rattle.situations.proofs.Faults.{fault-columns}
use Rattle.situations.proofs.Silent.{silent_sound}
use Rattle.nodes.specs.Meaning.{evaluate_of}
use Rattle.running.proofs.Heights.{evaluate-alike}
use Rattle.running.proofs.Success.{evaluate-fine}
use Rattle.steps.specs.Meaning.{first_column, first_answer, first_situation}
use Rattle.growth.specs.Meaning.{Growth, answer_at, without, shown, growth_of}
use Rattle.growing.specs.Meaning.{Grows, FailingStep, Shows}
use Rattle.growing.proofs.Mergers.{steps_grow, grow_steps}
use Rattle.growing.proofs.Searches.{none-grows, found-fails, found_first, answer-below}

-- the reply of an array that evaluates
module _ (nodes : List ℕ) (n : ℕ) where
  verdict_fine :
      (evaluate_of nodes (replicate n 0)).refusal.number ≡ 0 →
      growth_of nodes n
      ≡ cond (ltb (first_situation (answer_at nodes) n) (4 ^ n)) (shown (answer_at nodes) (situation_at n (first_situation (answer_at nodes) n))) (without none 1)
  unfolding growth_of
  verdict_fine h = rw (eq-eqb (evaluate_of nodes (replicate n 0)).refusal.number 0 h)

  verdict_some : (growth_of nodes n).verdict ≡ 2 → (evaluate_of nodes (replicate n 0)).refusal.number ≡ 0
  unfolding growth_of
  verdict_some v = go (eqb (evaluate_of nodes (replicate n 0)).refusal.number 0) refl
    where
      go : (t : Bool) → eqb (evaluate_of nodes (replicate n 0)).refusal.number 0 ≡ t → (evaluate_of nodes (replicate n 0)).refusal.number ≡ 0
      go true e = eqb-true (evaluate_of nodes (replicate n 0)).refusal.number 0 e
      go false e = absurd (let z : ◌≡◌ {A = ℕ} 0 2 = rw e at v in omega arith)

  module _ (h : (evaluate_of nodes (replicate n 0)).refusal.number ≡ 0) where
    yes_grows : (growth_of nodes n).verdict ≡ 1 → Grows (answer_at nodes) n
    yes_grows v = go (ltb (first_situation (answer_at nodes) n) (4 ^ n)) refl
      where
        v' : (cond (ltb (first_situation (answer_at nodes) n) (4 ^ n)) (shown (answer_at nodes) (situation_at n (first_situation (answer_at nodes) n))) (without none 1)).verdict ≡ 1
        v' = sym (ap (λ (g : Growth). g.verdict) (verdict_fine h)) ∙ v

        go : (t : Bool) → ltb (first_situation (answer_at nodes) n) (4 ^ n) ≡ t → Grows (answer_at nodes) n
        go true e = absurd (let z : ◌≡◌ {A = ℕ} 2 1 = rw e at v' in omega arith)
        go false e = steps_grow (answer_at nodes) n (none-grows (answer_at nodes) n (ltb-false (first_situation (answer_at nodes) n) (4 ^ n) e))

    grows_yes : Grows (answer_at nodes) n → (growth_of nodes n).verdict ≡ 1
    grows_yes g = ap (λ (r : Growth). r.verdict) (verdict_fine h) ∙ go (ltb (first_situation (answer_at nodes) n) (4 ^ n)) refl
      where
        f : List Answer → Answer
        f = answer_at nodes

        w : ℕ
        w = first_situation (answer_at nodes) n

        broken : first_situation (answer_at nodes) n < 4 ^ n → ⊥
        broken l =
            let x : FailingStep f (situation_at n w) (first_column f (situation_at n w)) (from_number (first_answer f (situation_at n w) (first_column f (situation_at n w)))) =
            found-fails f n l in
            x.lost
            (grow_steps f n g (situation_at n w) (first_column f (situation_at n w)) (from_number (first_answer f (situation_at n w) (first_column f (situation_at n w)))) (situation_at-length n w) x.step)

        go :
            (t : Bool) →
            ltb (first_situation (answer_at nodes) n) (4 ^ n) ≡ t →
            (cond (ltb (first_situation (answer_at nodes) n) (4 ^ n)) (shown (answer_at nodes) (situation_at n (first_situation (answer_at nodes) n))) (without none 1)).verdict ≡ 1
        go true e = absurd (broken (ltb-true (first_situation (answer_at nodes) n) (4 ^ n) e))
        go false e = rw e

    -- "Yes exactly when the law holds."
    -- every verdict but a yes is a no
    pub other_no : ((growth_of nodes n).verdict ≡ 1 → ⊥) → (growth_of nodes n).verdict ≡ 2
    other_no v = ap (λ (r : Growth). r.verdict) (verdict_fine h) ∙ go (ltb (first_situation (answer_at nodes) n) (4 ^ n)) refl
      where
        go :
            (t : Bool) →
            ltb (first_situation (answer_at nodes) n) (4 ^ n) ≡ t →
            (cond (ltb (first_situation (answer_at nodes) n) (4 ^ n)) (shown (answer_at nodes) (situation_at n (first_situation (answer_at nodes) n))) (without none 1)).verdict ≡ 2
        go true e = rw e
        go false e = absurd (v (ap (λ (r : Growth). r.verdict) (verdict_fine h) ∙ (rw e)))

    pub yes_exactly : ((growth_of nodes n).verdict ≡ 1) ↔ Grows (answer_at nodes) n
    yes_exactly = (yes_grows, grows_yes)

-- "A no is a true witness, and the first."
module _ (nodes : List ℕ) (n : ℕ) (v : (growth_of nodes n).verdict ≡ 2) where
  no_shown :
      (first_situation (answer_at nodes) n < 4 ^ n)
      × (growth_of nodes n ≡ shown (answer_at nodes) (situation_at n (first_situation (answer_at nodes) n)))
  no_shown = go (ltb (first_situation (answer_at nodes) n) (4 ^ n)) refl
    where
      fine : (evaluate_of nodes (replicate n 0)).refusal.number ≡ 0
      fine = verdict_some nodes n v

      v' : (cond (ltb (first_situation (answer_at nodes) n) (4 ^ n)) (shown (answer_at nodes) (situation_at n (first_situation (answer_at nodes) n))) (without none 1)).verdict ≡ 2
      v' = sym (ap (λ (g : Growth). g.verdict) (verdict_fine nodes n fine)) ∙ v

      go :
          (t : Bool) →
          ltb (first_situation (answer_at nodes) n) (4 ^ n) ≡ t →
          (first_situation (answer_at nodes) n < 4 ^ n)
          × (growth_of nodes n ≡ shown (answer_at nodes) (situation_at n (first_situation (answer_at nodes) n)))
      go true e = (ltb-true (first_situation (answer_at nodes) n) (4 ^ n) e, rw e at (verdict_fine nodes n fine))
      go false e = absurd (let z : ◌≡◌ {A = ℕ} 1 2 = rw e at v' in omega arith)

  pub no_first : Shows (answer_at nodes) n (growth_of nodes n)
  no_first =
      subst (Shows f n) (sym no_shown.1)
      (record {
        situation = s;
        answer = from_number (first_answer f s (first_column f s));
        told-situation = refl;
        told-answer = sym (from_number_lem (first_answer f s (first_column f s)) (let l = answer-below f n no_shown.0 in omega arith));
        first = record { long = situation_at-length n w; fails = found-fails f n no_shown.0; first = found_first f n no_shown.0 };
      })
    where
      f : List Answer → Answer
      f = answer_at nodes

      w : ℕ
      w = first_situation (answer_at nodes) n

      s : List Answer
      s = situation_at n (first_situation (answer_at nodes) n)

-- the check's refusal is the evaluator's
cond-refusal : (t : Bool) (x y : Growth) → x.refusal ≡ none → y.refusal ≡ none → (cond t x y).refusal ≡ none
cond-refusal true x y a b = a
cond-refusal false x y a b = b

pub growth_silent : (nodes : List ℕ) (n : ℕ) → (growth_of nodes n).refusal ≡ (evaluate_of nodes (replicate n 0)).refusal
unfolding growth_of
growth_silent nodes n = go (eqb (evaluate_of nodes (replicate n 0)).refusal.number 0) refl
  where
    go :
        (t : Bool) →
        eqb (evaluate_of nodes (replicate n 0)).refusal.number 0 ≡ t →
        (growth_of nodes n).refusal ≡ (evaluate_of nodes (replicate n 0)).refusal
    go true e =
        let z : (evaluate_of nodes (replicate n 0)).refusal.number ≡ 0 = eqb-true (evaluate_of nodes (replicate n 0)).refusal.number 0 e in
        ap (λ (g : Growth). g.refusal) (verdict_fine nodes n z)
        ∙ cond-refusal (ltb (first_situation (answer_at nodes) n) (4 ^ n)) (shown (answer_at nodes) (situation_at n (first_situation (answer_at nodes) n))) (without none 1) refl refl
        ∙ sym (ap (λ (r : Reply). r.refusal) (evaluate-fine nodes (replicate n 0) z))
    go false e = rw e

pub growth-refusal :
    (nodes s : List ℕ) → (fault s).number ≡ 0 → (growth_of nodes (length s)).refusal ≡ (evaluate_of nodes s).refusal
growth-refusal nodes s h =
    growth_silent nodes (length s)
    ∙ evaluate-alike nodes (replicate (length s) 0) s
    (rw (silent_sound (length s) (fault-columns s h).0 (fault-columns s h).1))
    h
    (length-replicate {A = ℕ} (length s) 0)
