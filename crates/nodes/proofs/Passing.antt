-- The ways out of `past` and of what it calls: the turns that stand one after another are counted.
use Prim.Native.Nat.{ℕ, suc, ◌+◌, ◌≤◌, ◌<◌}
use mathlib.Core.Path.{◌≡◌, refl, sym, ◌∙◌}
use mathlib.Core.List.{List}
use lib.ListN.{length, drop, get_or, drop_of_length-le}
use lib.Seq.{drop-cons}
use borrow.Author.Tests.{ne_eqb}
use native.Mathlib.Nat.{add-zero}
use native.Mathlib.Numerals.{add-one}
use native.Mathlib.Omega.{arith}
use Rattle.nodes.specs.declared.Node.{Node}
use Rattle.nodes.specs.declared.Node.TheVariants.{Column}
use Rattle.nodes.specs.Meaning.{turns, past}
use Rattle.nodes.specs.Inside.{Passed}

module _ (nodes : List ℕ) (start : ℕ) where
  pub passed_none : Passed nodes start start
  passed_none = record { same = refl }

  pub passed-more : (i : ℕ) → Passed nodes start i → i < length nodes → get_or nodes i 0 ≡ 5 → Passed nodes start (i + 1)
  unfolding turns
  passed-more i w l b =
      let e : i + suc (turns (drop (suc i) nodes)) ≡ i + 1 + turns (drop (suc i) nodes) = omega arith in
      record { same = w.same ∙ (rw (drop-cons nodes i 0 l, b, e, add-one)) }

  pub passed-other : (i : ℕ) → Passed nodes start i → i < length nodes → (get_or nodes i 0 ≡ 5 → ⊥) → i ≡ start + turns (drop start nodes)
  unfolding turns
  passed-other i w l b = sym (w.same ∙ (rw (drop-cons nodes i 0 l, ne_eqb (get_or nodes i 0) 5 b, add-zero i)))

  pub passed-all : (i : ℕ) → Passed nodes start i → length nodes ≤ i → i ≡ start + turns (drop start nodes)
  unfolding turns
  passed-all i w l = sym (w.same ∙ (rw (drop_of_length-le nodes {i = i} l, add-zero i)))

  pub past-column : {node : Node} {k r : ℕ} → node ≡ Column k → r ≡ start + turns (drop start nodes) → r ≡ past node nodes start
  unfolding past
  past-column n e = rw n e

-- The ways out of the loop over turns.
pub ruleset turn_laws = (passed_none, passed-more, passed-other, passed-all)
