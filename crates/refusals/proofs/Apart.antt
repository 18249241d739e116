-- Results are told apart by what is replied: no two results give the same numbers and reply.
use Prim.Native.Nat.{ℕ}
use mathlib.Core.Path.{◌≡◌, refl, sym, ap, ◌∙◌}
use mathlib.Core.Bool.{cond}
use lib.Dec.{eqb}
use Rattle.std.specs.Prelude.{Result, Ok, Err}
use Rattle.refusals.specs.Meaning.{Numbers, none, numbers, checked, replied, kind_number}
use Rattle.refusals.specs.declared.Kind.{Kind}
use Rattle.refusals.specs.declared.Kind.TheVariants.{Short, Start, Tag, Len, Value, Rows, Overlap, Room, Node, Column, Under, Deep, End, Situation, Code, Cut, Nest, Tail, Rise, Facts, Week}
use Rattle.refusals.specs.declared.Refusal.{Refusal}
use Rattle.refusals.proofs.Checks.{refusal_counts}

-- the kind with a number; 0 is none's, and what has no kind is read as the last one
kind_of : ℕ → Kind
kind_of n =
    (cond (eqb n 1) Short
    (cond (eqb n 2) Start
    (cond (eqb n 3) Tag
    (cond (eqb n 4) Len
    (cond (eqb n 5) Value
    (cond (eqb n 6) Rows
    (cond (eqb n 7) Overlap
    (cond (eqb n 8) Room
    (cond (eqb n 9) Node
    (cond (eqb n 10) Column
    (cond (eqb n 11) Under
    (cond (eqb n 12) Deep
    (cond (eqb n 13) End
    (cond (eqb n 14) Situation
    (cond (eqb n 16) Code
    (cond (eqb n 17) Cut
    (cond (eqb n 18) Nest
    (cond (eqb n 19) Tail
    (cond (eqb n 20) Rise
    (cond (eqb n 21) Facts
    Week))))))))))))))))))))

kind_back : (k : Kind) → kind_of (kind_number k) ≡ k
unfolding kind_of
kind_back Short = refl
kind_back Start = refl
kind_back Tag = refl
kind_back Len = refl
kind_back Value = refl
kind_back Rows = refl
kind_back Overlap = refl
kind_back Room = refl
kind_back Node = refl
kind_back Column = refl
kind_back Under = refl
kind_back Deep = refl
kind_back End = refl
kind_back Situation = refl
kind_back Code = refl
kind_back Cut = refl
kind_back Nest = refl
kind_back Tail = refl
kind_back Rise = refl
kind_back Facts = refl
kind_back Week = refl

pub kind_number-apart : (k l : Kind) → kind_number k ≡ kind_number l → k ≡ l
kind_number-apart k l e = sym (kind_back k) ∙ ap kind_of e ∙ kind_back l

pub numbers-apart : (r s : Refusal) → numbers r ≡ numbers s → r ≡ s
numbers-apart r s e =
    let kind : r.kind ≡ s.kind = kind_number-apart r.kind s.kind (ap (λ (n : Numbers). n.number) e) in
    let place : r.place ≡ s.place = ap (λ (n : Numbers). n.place) e in
    let second : r.second ≡ s.second = ap (λ (n : Numbers). n.second) e in
    rw (kind, place, second) refl

pub checked-apart : (q r : Result Unit Refusal) → checked q ≡ checked r → q ≡ r
checked-apart (Ok u) (Ok v) e = refl
checked-apart (Ok u) (Err s) e = absurd (refusal_counts s (sym (ap (λ (n : Numbers). n.number) e)))
checked-apart (Err r) (Ok v) e = absurd (refusal_counts r (ap (λ (n : Numbers). n.number) e))
checked-apart (Err r) (Err s) e = ap Err (numbers-apart r s e)

-- the same of a reply from which its numbers, and the results of those that succeed, can be read off
module _
    {A B : Type 0} (accept : A → B) (refuse : Numbers → B) (numbers_in : B → Numbers)
    (success : (a : A) → numbers_in (accept a) ≡ none)
    (refusal : (n : Numbers) → numbers_in (refuse n) ≡ n)
    (accepted : (a b : A) → accept a ≡ accept b → a ≡ b) where
  pub replied-apart : (q r : Result A Refusal) → replied accept refuse q ≡ replied accept refuse r → q ≡ r
  replied-apart (Ok a) (Ok b) e = ap Ok (accepted a b e)
  replied-apart (Ok a) (Err s) e =
      absurd (refusal_counts s (ap (λ (n : Numbers). n.number) (sym (sym (success a) ∙ ap numbers_in e ∙ refusal (numbers s)))))
  replied-apart (Err r) (Ok b) e =
      absurd (refusal_counts r (ap (λ (n : Numbers). n.number) (sym (refusal (numbers r)) ∙ ap numbers_in e ∙ success b)))
  replied-apart (Err r) (Err s) e =
      ap Err (numbers-apart r s (sym (refusal (numbers r)) ∙ ap numbers_in e ∙ refusal (numbers s)))
