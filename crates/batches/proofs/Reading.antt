-- Reading the fields of a batch, one step at a time.
use Prim.Native.Nat.{ℕ, zero, suc, ◌+◌, ◌-◌, ◌≤◌}
use mathlib.Core.Path.{◌≡◌, refl}
use mathlib.Core.Bool.{Bool, true, false, cond}
use mathlib.Core.List.{List}
use native.Mathlib.Omega.{arith}
use lib.Dec.{eqb}
use lib.ListN.{length, length-drop}
use borrow.Author.Tests.{eqb-true, eqb-false, eq-eqb, ne_eqb}
use Rattle.refusals.specs.Meaning.{none}
use Rattle.batches.specs.Meaning.{Part, first_notice, field_size, behind, fault, stopped, followed, due, read_rest}
use Rattle.batches.proofs.Faults.{Sound, fault-none}

one_less : (n : ℕ) → suc n - 1 ≡ n
one_less n = omega arith

module _ (ended : Bool) (at : ℕ) (s : List ℕ) where
  -- nothing is to be judged yet, or any more
  pub read_left : (left : ℕ) → due ended (length s) ≡ false → read_rest ended left at s ≡ stopped at none
  unfolding read_rest
  read_left zero d = rw d
  read_left (suc left) d = rw d

  pub read_refused :
      (left : ℕ) → due ended (length s) ≡ true → ((fault left at s).number ≡ 0 → ⊥) → read_rest ended left at s ≡ stopped at (fault left at s)
  unfolding read_rest
  read_refused zero d f = rw d
  read_refused (suc left) d f = rw (d, ne_eqb (fault (suc left) at s).number 0 f)

  pub read_more :
      (left : ℕ) →
      due ended (length s) ≡ true →
      (fault left at s).number ≡ 0 →
      read_rest ended left at s ≡ followed (first_notice s) (read_rest ended (left - 1) (at + field_size s) (behind s))
  unfolding read_rest
  read_more zero d f = absurd (let room = (fault-none 0 at s f).room in omega arith)
  read_more (suc left) d f = rw (d, eq-eqb (fault (suc left) at s).number 0 f, one_less left)

-- what holds of all readings, because it holds of the three things that may become of a front
module _ (ended : Bool) (P : ℕ → ℕ → List ℕ → Part → Type 0)
    (waits : (left at : ℕ) (s : List ℕ) → due ended (length s) ≡ false → P left at s (stopped at none))
    (stops : (left at : ℕ) (s : List ℕ) → due ended (length s) ≡ true → ((fault left at s).number ≡ 0 → ⊥) →
    P left at s (stopped at (fault left at s)))
    (reads : (left at : ℕ) (s : List ℕ) → due ended (length s) ≡ true → Sound (suc left) s → (p : Part) →
    P left (at + field_size s) (behind s) p → P (suc left) at s (followed (first_notice s) p)) where
  front-none : (at : ℕ) (s : List ℕ) (d : Bool) → due ended (length s) ≡ d →
      P zero at s (cond d (stopped at (fault zero at s)) (stopped at none))
  front-none at s true e = stops zero at s e (λ z. let r = (fault-none zero at s z).room in omega arith)
  front-none at s false e = waits zero at s e

  front-next : (left at : ℕ) (s : List ℕ) (p : Part) (d f : Bool) → due ended (length s) ≡ d → eqb (fault (suc left) at s).number 0 ≡ f →
      (Sound (suc left) s → P left (at + field_size s) (behind s) p) →
      P (suc left) at s (cond d (cond f (followed (first_notice s) p) (stopped at (fault (suc left) at s))) (stopped at none))
  front-next left at s p true true e z later =
      let h = fault-none (suc left) at s (eqb-true (fault (suc left) at s).number 0 z) in
      reads left at s e h p (later h)
  front-next left at s p true false e z later = stops (suc left) at s e (eqb-false (fault (suc left) at s).number 0 z)
  front-next left at s p false f e z later = waits (suc left) at s e

  pub each_reading : (left at : ℕ) (s : List ℕ) → P left at s (read_rest ended left at s)
  unfolding read_rest
  each_reading zero at s = front-none at s (due ended (length s)) refl
  each_reading (suc left) at s =
      front-next left at s (read_rest ended left (at + field_size s) (behind s)) (due ended (length s))
      (eqb (fault (suc left) at s).number 0) refl refl (λ h. each_reading left (at + field_size s) (behind s))

-- no more notices are read than may come, and what is read ends within the bytes
pub read_few : (ended : Bool) (left at : ℕ) (s : List ℕ) → length (read_rest ended left at s).notices ≤ left
read_few ended =
    each_reading ended (λ left at s p. length p.notices ≤ left) (λ left at s d. omega arith) (λ left at s d f. omega arith)
    (λ left at s d sound p few. omega (arith, few))

pub read_within : (ended : Bool) (left at : ℕ) (s : List ℕ) → (read_rest ended left at s).end ≤ at + length s
read_within ended =
    each_reading ended (λ left at s p. p.end ≤ at + length s) (λ left at s d. omega arith) (λ left at s d f. omega arith)
    (λ left at s d sound p within. omega (arith, within, sound.whole, length-drop (field_size s) s))
