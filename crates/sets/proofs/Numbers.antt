-- A set and its number: what stands in the list is what the number's bits say.
use Prim.Native.Nat.{ℕ, ◌^◌}
use mathlib.Core.Path.{◌≡◌, refl, sym, ap, ◌∙◌}
use mathlib.Core.Logic.{⊎_elim}
use mathlib.Core.Bool.{Bool, true, false, cond, ◌||◌, false≢true}
use mathlib.Core.List.Memᴰ
use mathlib.Core.List.{List, [], ◌∷◌, ◌++◌}
use lib.Dec.{eqb}
use lib.Bits.{bit_or, or_comm, or_self, or_zero_l}
use borrow.Author.Tests.{eqb-true}
use Rattle.words.specs.Meaning.{bit}
use Rattle.words.proofs.Bits.{bit-or, bit-small, either, or_assoc}
use Rattle.answers.specs.declared.Answer.{Answer}
use Rattle.answers.specs.declared.Answer.TheVariants.{Silent, Bury, Keep, Clash}
use Rattle.answers.specs.Meaning.{number, from_number}
use Rattle.answers.proofs.Claims.{number_from}
use Rattle.answers.proofs.Every.{each, all2}
use Rattle.sets.specs.Meaning.{Among, set_of, has, member, members, answer_set, answers_in}
use Rattle.sets.proofs.Members.{Same}
use Rattle.sets.proofs.Folds.{fold-append, fold_same}

module _ {A : Type 0} (number : A → ℕ) where
  pub set-append : (s t : List A) → set_of number (s ++ t) ≡ bit_or (set_of number s) (set_of number t)
  unfolding set_of
  set-append = fold-append bit_or 0 or_assoc or_comm or_self or_zero_l (λ a. 2 ^ number a) (set_of number) refl (λ a s. refl)

  pub set_same : {s t : List A} → Same s t → set_of number s ≡ set_of number t
  unfolding set_of
  set_same = fold_same bit_or 0 or_assoc or_comm or_self or_zero_l (λ a. 2 ^ number a) (set_of number) refl (λ a s. refl)

-- All that there is of a type, each with a number of its own.
pub record Numbered {A : Type 0} (number : A → ℕ) (all : List A) : Type 0 where
  pub complete : (a : A) → Among a all
  pub power : (a b : A) → bit (number a) (2 ^ number b) ≡ cond (eqb (number a) (number b)) 1 0
  pub zero_bit : (a : A) → bit (number a) 0 ≡ 0
  pub alike : (a b : A) → eqb (number a) (number b) ≡ true → a ≡ b
  pub itself : (a : A) → eqb (number a) (number a) ≡ true

module _ {A : Type 0} (number : A → ℕ) (all : List A) (n : Numbered number all) where
  has-cons : (a b : A) (s : List A) → has number a (set_of number (b ∷ s)) ≡ eqb (number a) (number b) || has number a (set_of number s)
  unfolding set_of has
  has-cons a b s = rw (bit-or (number a) (2 ^ number b) (set_of number s), n.power a b) (go (eqb (number a) (number b)))
    where
      go : (here : Bool) → eqb (bit_or (cond here 1 0) (bit (number a) (set_of number s))) 1 ≡ here || has number a (set_of number s)
      go true =
          either (λ x. eqb (bit_or 1 x) 1 ≡ true) (refl, refl) (bit (number a) (set_of number s)) (bit-small (number a) (set_of number s))
      go false = refl

  pub among_set : (a : A) (s : List A) → Among a s → has number a (set_of number s) ≡ true
  among_set a [] x' = elim x' [ ]
  among_set a (b ∷ s) (Memᴰ.head e) = has-cons a b s ∙ rw (← e, n.itself a)
  among_set a (b ∷ s) (Memᴰ.tail i) = has-cons a b s ∙ rw (among_set a s i) (go (eqb (number a) (number b)))
    where
      go : (here : Bool) → here || true ≡ true
      go true = refl
      go false = refl

  pub set_among : (a : A) (s : List A) → has number a (set_of number s) ≡ true → Among a s
  unfolding set_of has
  set_among a [] h = absurd (false≢true (sym (ap (λ x. eqb x 1) (n.zero_bit a)) ∙ h))
  set_among a (b ∷ s) h = go (λ k. set_among a s k) (eqb (number a) (number b)) refl (sym (has-cons a b s) ∙ h)
    where
      go : (has number a (set_of number s) ≡ true → Among a s) →
          (here : Bool) → eqb (number a) (number b) ≡ here → here || has number a (set_of number s) ≡ true → Among a (b ∷ s)
      go later true e k = Memᴰ.head (n.alike a b e)
      go later false e k = Memᴰ.tail (later k)

  -- The members of a number are those whose bits are 1.
  among_members : (a : A) (l : List A) (set : ℕ) → Among a l → has number a set ≡ true → Among a (members number l set)
  among_members a [] set x'' h = elim x'' [ ]
  among_members a (b ∷ l) set (Memᴰ.head e) h =
      Memᴰ.append_left {s = member number b set} (members number l set) (rw (← e, h) (Memᴰ.head refl))
  among_members a (b ∷ l) set (Memᴰ.tail i) h = Memᴰ.append_right (member number b set) (among_members a l set i h)

  members_among : (a : A) (l : List A) (set : ℕ) → Among a (members number l set) → has number a set ≡ true
  members_among a [] set i = absurd (Memᴰ.not-nil i)
  members_among a (b ∷ l) set i =
      ⊎_elim (λ j. go (has number b set) refl j) (λ j. members_among a l set j) (Memᴰ.append_cases (member number b set) i)
    where
      go : (t : Bool) → has number b set ≡ t → Among a (cond t (b ∷ []) []) → has number a set ≡ true
      go true e j = ap (λ x. has number x set) (Memᴰ.eq_of_singleton j) ∙ e
      go false e j = absurd (Memᴰ.not-nil j)

  pub members-same : (s : List A) → Same (members number all (set_of number s)) s
  members-same s = (
    λ a i. set_among a s (members_among a all (set_of number s) i),
    λ a i. among_members a all (set_of number s) (n.complete a) (among_set a s i),
  )

-- Answers are numbered so.
answers-numbered : Numbered number (Silent ∷ Bury ∷ Keep ∷ Clash ∷ [])
answers-numbered =
    record {
      complete = each _ (search (Memᴰ.head, Memᴰ.tail, refl));
      power = all2 _ (search refl);
      zero_bit = each _ (search refl);
      alike = λ a b h. sym (number_from a) ∙ ap from_number (eqb-true (number a) (number b) h) ∙ number_from b;
      itself = each _ (search refl);
    }

pub among_has : (a : Answer) (s : List Answer) → Among a s → has number a (answer_set s) ≡ true
among_has = among_set number _ answers-numbered

pub has_among : (a : Answer) (s : List Answer) → has number a (answer_set s) ≡ true → Among a s
has_among = set_among number _ answers-numbered

pub answers-same : (s : List Answer) → Same (answers_in (answer_set s)) s
answers-same = members-same number _ answers-numbered
