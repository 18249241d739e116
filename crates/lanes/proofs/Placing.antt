-- What stands at a place then, where an operator on words does in every lane what one on answers does.
use Prim.Native.Nat.{ℕ, ◌+◌, ◌≤◌, ◌<◌}
use mathlib.Core.Path.{◌≡◌, refl, ap, ◌∙◌}
use mathlib.Core.Bool.{Bool, true, false}
use mathlib.Core.List.{List}
use lib.Dec.{ltb}
use lib.ListN.{length, get_or}
use borrow.Author.Tests.{ltb-true, ltb-false}
use native.Mathlib.Omega.{arith}
use Rattle.answers.specs.declared.Answer.{Answer}
use Rattle.lanes.specs.Meaning.{pair, Placed, one, two}
use Rattle.lanes.specs.Inside.{Word, OneBy, TwoBy}

module _ (g : ℕ → ℕ → Answer) (start room : ℕ) {old new : List ℕ} where
  -- no such place
  pub placed-short : length old < start + room → new ≡ old → Placed g start room old new
  placed-short l e =
      record { size = ap length e; written = λ h. absurd (omega (arith, h, l)); kept = λ j h. rw e; short = λ h. e }

  -- it is there, or it is not
  pub placed_either : ((start + room ≤ length old) → Placed g start room old new) → (length old < start + room → new ≡ old) → Placed g start room old new
  placed_either there not = go (ltb (length old) (start + room)) refl
    where
      go : (t : Bool) → ltb (length old) (start + room) ≡ t → Placed g start room old new
      go true e = let l = ltb-true (length old) (start + room) e in placed-short l (not l)
      go false e = there (ltb-false (length old) (start + room) e)

module _ (start : ℕ) {old new : List ℕ} where
  -- one operand
  pub one_placed :
      (f : Answer → Answer) (low high : ℕ → ℕ → ℕ) (gives : ℕ → ℕ → ℕ × ℕ → Type 0) →
      ((x p q : ℕ) → x < 64 → pair x (low p q) (high p q) ≡ f (pair x p q)) →
      ((p q : ℕ) (r : ℕ × ℕ) → Word p → Word q → gives p q r → (r.0 ≡ low p q) × (r.1 ≡ high p q)) →
      OneBy gives start old new →
      Placed (one f old start) start 32 old new
  unfolding one
  one_placed f low high gives law words by =
      placed_either (one f old start) start 32
      (λ room.
      let d = by.done room in
      record {
        size = d.size;
        written = λ r k x l m.
            let w = d.written k l in
            let v = words _ _ _ w.0 w.1 w.2 in
            rw (v.0, v.1) (law x _ _ m);
        kept = λ j h. d.kept j (λ q. omega (arith, h q)) (λ q. omega (arith, h (omega (arith, q))));
        short = λ l. absurd (omega (arith, l, room));
      })
      by.short

  -- two operands
  pub two_placed :
      (f : Answer → Answer → Answer) (op : ℕ → ℕ → ℕ) (gives : ℕ → ℕ → ℕ → Type 0) →
      ((x p q r s : ℕ) → pair x (op p r) (op q s) ≡ f (pair x p q) (pair x r s)) →
      ((p q r : ℕ) → Word p → Word q → gives p q r → r ≡ op p q) →
      TwoBy gives start old new →
      Placed (two f old start) start 64 old new
  unfolding two
  two_placed f op gives law word by =
      placed_either (two f old start) start 64
      (λ room.
      let d = by.done room in
      record {
        size = d.size;
        written = λ r k x l m.
            let v = d.written k (omega (arith, l)) in
            let w = d.written (k + 16) (omega (arith, l)) in
            let a : start + k + 16 ≡ start + (k + 16) = omega arith in
            let b : start + k + 32 + 16 ≡ start + (k + 16) + 32 = omega arith in
            rw (a, b, word _ _ _ v.0 v.1 v.2, word _ _ _ w.0 w.1 w.2)
            (law x (get_or old (start + k) 0) (get_or old (start + (k + 16)) 0)
            (get_or old (start + k + 32) 0)
            (get_or old (start + (k + 16) + 32) 0));
        kept = λ j h. d.kept j (λ q. omega (arith, h q));
        short = λ l. absurd (omega (arith, l, room));
      })
      by.short

-- the same answers by another name
pub placed_same :
    {g h : ℕ → ℕ → Answer} {start room : ℕ} {old new : List ℕ} →
    ((k x : ℕ) → k < 16 → x < 64 → g k x ≡ h k x) →
    Placed g start room old new →
    Placed h start room old new
placed_same e p =
    record { size = p.size; written = λ r k x l m. p.written r k x l m ∙ e k x l m; kept = p.kept; short = p.short }
