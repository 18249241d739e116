-- A check that comes first, as code has it: a Result that refuses or goes on.
use Prim.Native.Nat.{ℕ}
use mathlib.Core.Path.{◌≡◌, refl, sym, ap, ◌∙◌}
use mathlib.Core.Bool.{false}
use lib.Dec.{eqb}
use borrow.Author.Tests.{eqb-false}
use Rattle.std.specs.Prelude.{Result, Ok, Err}
use Rattle.refusals.specs.Meaning.{Numbers, none, refused, numbers, checked, after, kind_number, refusal_at}
use Rattle.refusals.specs.declared.Kind.{Kind}
use Rattle.refusals.specs.declared.Kind.TheVariants.{Short, Start, Tag, Len, Value, Rows, Overlap, Room, Node, Column, Under, Deep, End, Situation, Code, Cut, Nest, Tail, Rise, Facts, Week}
use Rattle.refusals.specs.declared.Refusal.{Refusal}

-- no refusal has the number of success
pub kind_refuses : (k : Kind) → eqb (kind_number k) 0 ≡ false
kind_refuses Short = refl
kind_refuses Start = refl
kind_refuses Tag = refl
kind_refuses Len = refl
kind_refuses Value = refl
kind_refuses Rows = refl
kind_refuses Overlap = refl
kind_refuses Room = refl
kind_refuses Node = refl
kind_refuses Column = refl
kind_refuses Under = refl
kind_refuses Deep = refl
kind_refuses End = refl
kind_refuses Situation = refl
kind_refuses Code = refl
kind_refuses Cut = refl
kind_refuses Nest = refl
kind_refuses Tail = refl
kind_refuses Rise = refl
kind_refuses Facts = refl
kind_refuses Week = refl

pub refusal_counts : (r : Refusal) → (numbers r).number ≡ 0 → ⊥
refusal_counts r = eqb-false (kind_number r.kind) 0 (kind_refuses r.kind)

-- a refusal at a place has these three numbers
pub refused_at : {r : Refusal} (k : Kind) (place : ℕ) → r ≡ refusal_at k place → numbers r ≡ refused (kind_number k) place
refused_at k place e = ap numbers e

-- what a check that refuses says, and one that refuses nothing
module _ {A : Type 0} {q : Result A Refusal} {n : Numbers} (e : checked q ≡ n) where
  pub check_refused : (r : Refusal) → q ≡ Err r → numbers r ≡ n
  check_refused r i = sym (ap checked i) ∙ e

  pub check_passed : (a : A) → q ≡ Ok a → none ≡ n
  check_passed a i = sym (ap checked i) ∙ e

-- a check that refuses is the reply
pub after_refusal :
    {B : Type 0} {n : Numbers} (refuse : Numbers → B) (follows : B) (r : Refusal) →
    numbers r ≡ n →
    refuse (numbers r) ≡ after n refuse follows
after_refusal refuse follows r e = rw (← e, kind_refuses r.kind)

-- and one that refuses nothing lets go on
pub after_success :
    {A B : Type 0} {n : Numbers} (refuse : Numbers → B) (follows : B) (r : Result A Refusal) (a : A) →
    checked r ≡ n →
    r ≡ Ok a →
    follows ≡ after n refuse follows
after_success refuse follows r a e q = rw (← e, q)
