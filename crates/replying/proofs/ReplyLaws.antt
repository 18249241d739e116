-- How the numbers of a reply are read off its definition, test by test.
use Prim.Native.Nat.{ℕ, zero, suc}
use mathlib.Core.Path.{◌≡◌, refl, ap, subst, sym}
use mathlib.Core.Bool.{Bool, true, false, cond}
use lib.Dec.{T, eqb}
use borrow.Author.Tests.{eqb-false}
use Rattle.refusals.specs.Meaning.{Numbers, none, refused, after, first_refusal, OVERLAP}
use Rattle.replying.specs.Meaning.{document01, Replied}

pub either : {A : Type 0} (P : A → Type 0) (b : Bool) (x y : A) → P x → P y → P (cond b x y)
either P true x y h k = h
either P false x y h k = k

-- the three numbers by themselves
abbrev pub Published : Numbers → Type 0
Published r = Replied (λ (x : Numbers). x) (λ (x : Numbers). x) r

pub numbers-none : Published none
numbers-none = record { success = λ e. refl; refused = λ e. absurd (e refl); second = λ e. refl; nothing_else = λ e. refl }

-- a refusal by a published number
abbrev pub Refuses : Numbers → Type 0
Refuses r = T (document01 r.number) × (r.second ≡ 0)

pub refuses_loud : (r : Numbers) → Refuses r → r.number ≡ 0 → ⊥
refuses_loud r h e = subst (λ (k : ℕ). T (document01 k)) e h.0

pub refuses_numbers : (r : Numbers) → Refuses r → Published r
refuses_numbers r h =
    record { success = λ e. absurd (refuses_loud r h e); refused = λ e. h.0; second = λ e. h.1; nothing_else = λ e. refl }

pub numbers-refused : (k p : ℕ) → T (document01 k) → Published (refused k p)
numbers-refused k p h = refuses_numbers (refused k p) (h, refl)

pub numbers-overlap : (later earlier : ℕ) → Published (record { number = OVERLAP; place = later; second = earlier })
numbers-overlap later earlier =
    record {
      success = λ e. absurd (subst (λ (k : ℕ). T (document01 k)) e tt);
      refused = λ e. tt;
      second = λ e. absurd (e refl);
      nothing_else = λ e. refl;
    }

pub numbers-cond : (b : Bool) (k p : ℕ) {r : Numbers} → T (document01 k) → Published r → Published (cond b (refused k p) r)
numbers-cond b k p {r} h n = either Published b (refused k p) r (numbers-refused k p h) n

-- the first of many checks
pub first-each : (P : Numbers → Type 0) (f : ℕ → Numbers) → P none → ((k : ℕ) → P (f k)) → (n : ℕ) → P (first_refusal f n)
unfolding first_refusal
first-each P f h each zero = h
first-each P f h each (suc n) =
    either P (eqb (first_refusal f n).number 0) (f n) (first_refusal f n) (each n) (first-each P f h each n)

-- a reply that is refused with such numbers, that succeeds, and that comes after a check
module _ {A : Type 0} (refusal : A → Numbers) (refuse : Numbers → A) where
  pub replied_success : (x : A) → refusal x ≡ none → Replied refusal refuse x
  replied_success x e =
      record {
        success = λ z. e;
        refused = λ z. absurd (z (ap (λ (r : Numbers). r.number) e));
        second = λ z. ap (λ (r : Numbers). r.second) e;
        nothing_else = λ z. absurd (z (ap (λ (r : Numbers). r.number) e));
      }

  pub replied_numbers : (x : A) → Replied refusal refuse x → Published (refusal x)
  replied_numbers x h = record { success = h.success; refused = h.refused; second = h.second; nothing_else = λ e. refl }

  module _ (same : (r : Numbers) → refusal (refuse r) ≡ r) where
    pub replied_refuse : (r : Numbers) → Published r → Replied refusal refuse (refuse r)
    replied_refuse r h =
        record {
          success = rw (same r) h.success;
          refused = rw (same r) h.refused;
          second = rw (same r) h.second;
          nothing_else = λ e. ap refuse (sym (same r));
        }

    pub replied_after : (check : Numbers) (x : A) → Published check → Replied refusal refuse x → Replied refusal refuse (after check refuse x)
    replied_after check x n h = either (Replied refusal refuse) (eqb check.number 0) x (refuse check) h (replied_refuse check n)

    -- a check whose number alone is known, as a node's
    pub replied_fault :
        (k p : ℕ) (x : A) →
        ((k ≡ 0 → ⊥) → T (document01 k)) →
        Replied refusal refuse x →
        Replied refusal refuse (after (refused k p) refuse x)
    replied_fault k p x n h = go (eqb k 0) refl
      where
        go : (b : Bool) → eqb k 0 ≡ b → Replied refusal refuse (cond b x (refuse (refused k p)))
        go true e = h
        go false e = replied_refuse (refused k p) (numbers-refused k p (n (eqb-false k 0 e)))
