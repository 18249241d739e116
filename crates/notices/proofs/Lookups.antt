-- A fact is looked up field by field, in those that stand whole.
use Prim.Native.Nat.{ℕ, zero, suc, ◌+◌, ◌-◌, ◌/◌, ◌≤◌, ◌<◌}
use mathlib.Core.Path.{◌≡◌, refl}
use mathlib.Core.Bool.{Bool, true, false, cond}
use mathlib.Core.List.{List, [], ◌∷◌}
use native.Mathlib.Omega.{arith}
use lib.Dec.{ltb, eqb}
use lib.ListN.{length, get_or, take, drop, length-drop, drop_of_length-le}
use borrow.Author.Tests.{ltb-true, ltb-false}
use Rattle.std.proofs.Common.{Some, None, min, map, drop-cons, add-one, lit<}
use Rattle.std.proofs.lemmas.List.{get_or-take}
use Rattle.std.specs.Simd.{first_chunks}
use Rattle.notices.specs.Meaning.{first_fact, seen, facts_in}

-- the fact of a field is that of its nine bytes alone
fact-alone : (s : List ℕ) → first_fact (take 9 s) ≡ first_fact s
fact-alone s =
    rw (
      get_or-take 9 s 3 0 (lit< tt),
      get_or-take 9 s 4 0 (lit< tt),
      get_or-take 9 s 5 0 (lit< tt),
      get_or-take 9 s 6 0 (lit< tt),
      get_or-take 9 s 7 0 (lit< tt),
      get_or-take 9 s 8 0 (lit< tt),
    )

-- The facts of the first fields, so many as stand whole and may be.
pub facts-whole : (left : ℕ) (s : List ℕ) {count : ℕ} → count ≡ min (length s / 9) left →
    map first_fact (take count (first_chunks 9 (length s / 9) s)) ≡ facts_in left s
unfolding facts_in
facts-whole zero s {count} e = let z : count ≡ 0 = omega arith in rw z
facts-whole (suc left) s {count} e = go (ltb (length s) 9) refl (facts-whole left (drop 9 s) refl)
  where
    go : (b : Bool) → ltb (length s) 9 ≡ b →
        map first_fact (take (min (length (drop 9 s) / 9) left) (first_chunks 9 (length (drop 9 s) / 9) (drop 9 s))) ≡
        facts_in left (drop 9 s) →
        map first_fact (take count (first_chunks 9 (length s / 9) s)) ≡ cond b [] (first_fact s ∷ facts_in left (drop 9 s))
    go true q r =
        let h : length s < 9 = ltb-true (length s) 9 q in
        let z : count ≡ 0 = omega arith in
        rw z
    go false q r =
        let h : 9 ≤ length s = ltb-false (length s) 9 q in
        let d : length (drop 9 s) ≡ length s - 9 = length-drop 9 s in
        let w : length s / 9 ≡ suc (length (drop 9 s) / 9) = omega arith in
        let k : count ≡ suc (min (length (drop 9 s) / 9) left) = omega arith in
        rw (k, w, fact-alone s, r)

-- What is left to look through, field by field.
module _ (fields : List (List ℕ)) (fact i : ℕ) where
  pub seen-at : i < length fields → seen (map first_fact (drop i fields)) fact ≡
      cond (eqb (first_fact (get_or fields i [])).number fact) (Some (first_fact (get_or fields i [])).value)
      (seen (map first_fact (drop (i + 1) fields)) fact)
  unfolding seen
  seen-at h = rw (drop-cons fields i [], add-one i)

  pub seen-end : length fields ≤ i → None ≡ seen (map first_fact (drop i fields)) fact
  unfolding seen
  seen-end h = rw (drop_of_length-le fields h)

-- What `look_up` returns.
pub ruleset look_laws = (facts-whole, seen-at, seen-end)
