-- Counts raised by counts: by those of no reply, of one more, and from nothing.
use Prim.Native.Nat.{ℕ, zero, suc, ◌+◌, ◌≤◌, ◌<◌}
use mathlib.Core.Path.{◌≡◌, refl, ap, ap₂, ◌∙◌}
use mathlib.Core.Bool.{Bool, true, false, cond}
use mathlib.Core.List.{List, [], ◌∷◌}
use native.Mathlib.Omega.{arith}
use lib.ListN.{length}
use borrow.Author.Tests.{lt-ltb}
use Rattle.answers.specs.declared.Answer.TheVariants.{Silent, Bury, Keep, Clash}
use Rattle.answers.specs.Meaning.{Reply}
use Rattle.counts.specs.declared.Counts.{Counts}
use Rattle.counts.specs.Meaning.{count, refused, gave, refused_as, numbers_from, counts_of, LARGEST, raised, raised_all, plus}

-- by no reply
none-listed : (xs : List ℕ) (n places : ℕ) → raised_all xs (numbers_from n places []) ≡ xs
unfolding raised_all numbers_from count raised
none-listed [] n places = refl
none-listed (x ∷ xs) n zero = refl
none-listed (x ∷ xs) n (suc places) = ap (λ l. x ∷ l) (none-listed xs (suc n) places)

pub plus_none : (c : Counts) → plus c (counts_of []) ≡ c
unfolding count raised
plus_none c =
    ap
    (λ l. record { silent = c.silent; bury = c.bury; keep = c.keep; clash = c.clash; refused = c.refused; numbers = l })
    (none-listed c.numbers 0 32)

-- by one reply more
one_more : (b : Bool) (x k : ℕ) → raised x (cond b (suc k) k) ≡ raised (raised x (cond b 1 0)) k
unfolding raised
one_more true x k = refl
one_more false x k = refl

module _ (r : Reply) (rs : List Reply) where
  counted-more : (test : Reply → Bool) (x : ℕ) → raised x (count test (r ∷ rs)) ≡ raised (raised x (count test (r ∷ []))) (count test rs)
  unfolding count
  counted-more test x = one_more (test r) x (count test rs)

  listed_more :
      (xs : List ℕ) (n places : ℕ) →
      raised_all xs (numbers_from n places (r ∷ rs)) ≡ raised_all (raised_all xs (numbers_from n places (r ∷ []))) (numbers_from n places rs)
  unfolding raised_all numbers_from
  listed_more [] n places = refl
  listed_more (x ∷ xs) n zero = refl
  listed_more (x ∷ xs) n (suc places) = ap₂ (λ y l. y ∷ l) (counted-more (refused_as n) x) (listed_more xs (suc n) places)

  pub plus-more : (c : Counts) → plus c (counts_of (r ∷ rs)) ≡ plus (plus c (counts_of (r ∷ []))) (counts_of rs)
  plus-more c =
      rw (
        counted-more (gave Silent) c.silent,
        counted-more (gave Bury) c.bury,
        counted-more (gave Keep) c.keep,
        counted-more (gave Clash) c.clash,
        counted-more refused c.refused,
        listed_more c.numbers 0 32,
      )

-- from nothing: as long as the counts are numbers of 64 bits
pub raised-sum : (x y : ℕ) → x + y ≤ LARGEST → raised x y ≡ x + y
unfolding raised
raised-sum x zero h = omega arith
raised-sum x (suc y) h =
    let room : x < LARGEST = omega arith in
    rw (lt-ltb x LARGEST room) (raised-sum (suc x) y (omega arith) ∙ omega arith)

pub count_most : {A : Type 0} (test : A → Bool) (xs : List A) → count test xs ≤ length xs
unfolding count
count_most test [] = omega arith
count_most test (x ∷ xs) = go (test x) (count_most test xs)
  where
    go : (b : Bool) {k n : ℕ} → k ≤ n → cond b (suc k) k ≤ suc n
    go true h = omega arith
    go false h = omega arith

module _ (rs : List Reply) (few : length rs ≤ LARGEST) where
  from_none : (test : Reply → Bool) → raised (count test []) (count test rs) ≡ count test rs
  unfolding count
  from_none test = let most = count_most test rs in raised-sum 0 (count test rs) (omega arith) ∙ omega arith

  listed_from_none : (n places : ℕ) → raised_all (numbers_from n places []) (numbers_from n places rs) ≡ numbers_from n places rs
  unfolding raised_all numbers_from
  listed_from_none n zero = refl
  listed_from_none n (suc places) = ap₂ (λ y l. y ∷ l) (from_none (refused_as n)) (listed_from_none (suc n) places)

  pub plus_from_none : plus (counts_of []) (counts_of rs) ≡ counts_of rs
  plus_from_none =
      rw (
        from_none (gave Silent),
        from_none (gave Bury),
        from_none (gave Keep),
        from_none (gave Clash),
        from_none refused,
        listed_from_none 0 32,
      )
