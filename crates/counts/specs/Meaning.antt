-- Counts: how many of some replies gave each answer, and how many were refused, by number.
use Rattle.std.specs.Prelude.{ℕ, zero, suc, Bool, false, cond, not, List, [], ◌∷◌, ltb, eqb}
use Rattle.answers.specs.declared.Answer.{Answer}
use Rattle.answers.specs.declared.Answer.TheVariants.{Silent, Bury, Keep, Clash}
use Rattle.answers.specs.Meaning.{Reply, number}
use Rattle.counts.specs.declared.Counts.{Counts}

-- How many pass a test, going through them one by one.
unfoldable pub count : {A : Type 0} → (A → Bool) → List A → ℕ
count test [] = 0
count test (x ∷ xs) = cond (test x) (suc (count test xs)) (count test xs)

-- "how many notices gave silent, bury, keep, clash .., and how many were refused, by number": what became of one.
abbrev pub refused : Reply → Bool
refused r = not (eqb r.refusal.number 0)

abbrev pub gave : Answer → Reply → Bool
gave a r = cond (refused r) false (eqb (number r.answer) (number a))

abbrev pub refused_as : ℕ → Reply → Bool
refused_as n r = cond (refused r) (eqb r.refusal.number n) false

-- The counts by number, from a number on: at each place how many were refused with that number.
unfoldable pub numbers_from : ℕ → ℕ → List Reply → List ℕ
numbers_from n zero rs = []
numbers_from n (suc places) rs = count (refused_as n) rs ∷ numbers_from (suc n) places rs

-- "each defined by going through the batch and not from the stored sums": every count by itself.
abbrev pub counts_of : List Reply → Counts
counts_of rs =
    record {
      silent = count (gave Silent) rs;
      bury = count (gave Bury) rs;
      keep = count (gave Keep) rs;
      clash = count (gave Clash) rs;
      refused = count refused rs;
      numbers = numbers_from 0 32 rs;
    }

-- Counts go on from any counts that a caller has: each is raised, and one that has reached the largest number stays there.
abbrev pub LARGEST : ℕ
LARGEST = 18446744073709551615

abbrev pub more : ℕ → ℕ
more x = cond (ltb x LARGEST) (suc x) x

unfoldable pub raised : ℕ → ℕ → ℕ
raised x zero = x
raised x (suc by) = raised (more x) by

unfoldable pub raised_all : List ℕ → List ℕ → List ℕ
raised_all [] ys = []
raised_all (x ∷ xs) [] = x ∷ xs
raised_all (x ∷ xs) (y ∷ ys) = raised x y ∷ raised_all xs ys

abbrev pub plus : Counts → Counts → Counts
plus c d =
    record {
      silent = raised c.silent d.silent;
      bury = raised c.bury d.bury;
      keep = raised c.keep d.keep;
      clash = raised c.clash d.clash;
      refused = raised c.refused d.refused;
      numbers = raised_all c.numbers d.numbers;
    }
