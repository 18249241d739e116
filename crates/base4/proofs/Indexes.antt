-- The number of a situation, read answer by answer.
use Prim.Native.Nat.{ℕ, suc, min, ◌+◌, ◌-◌, ◌*◌, ◌≤◌, ◌<◌}
use mathlib.Core.Path.{◌≡◌, refl, ap, ◌∙◌}
use mathlib.Core.List.{List}
use mathlib.Core.Bool.{Bool, true, false}
use lib.Dec.{ltb}
use borrow.Author.Tests.{ltb-true, ltb-false}
use lib.ListN.{length, get_or, take, drop_of_length-le}
use lib.Seq.{drop-cons, take-nil}
use native.Mathlib.Nat.{pow-suc}
use native.Mathlib.Numerals.{add-one}
use native.Mathlib.Omega.{arith}
use Rattle.answers.specs.Meaning.{number, from_number}
use Rattle.answers.specs.declared.Answer.{Answer}
use Rattle.answers.proofs.Claims.{number_small}
use Rattle.situations.specs.Meaning.{answers_of, index_onto, index}
use Rattle.base4.specs.Inside.{Indexing}
use Rattle.situations.proofs.Weights.{power_small}

pub indexing_none : (s : List ℕ) → Indexing s 0 0
indexing_none s = record { inside = omega arith; counted = omega arith; small = omega arith; rest = refl }

module _ (s : List ℕ) (w i : ℕ) (x : Indexing s w i) where
  pub indexing_times : w * 4 < 18446744073709551616
  indexing_times = omega (arith, x.small, power_small i x.counted)

  pub indexing_sum : (a : ℕ) → a < 256 → w * 4 + a < 18446744073709551616
  indexing_sum a l = omega (arith, x.small, power_small i x.counted)

  pub indexing_more :
      {a m : ℕ} {answer : Answer} →
      m ≡ min (length s) 6 →
      i < m →
      answer ≡ from_number (get_or s i 0) →
      a ≡ number answer →
      Indexing s (w * 4 + a) (i + 1)
  unfolding index_onto
  indexing_more {a} k h q p =
      let e : a ≡ number (from_number (get_or s i 0)) = p ∙ ap number q in
      let l : i < length s = omega (arith, k, h) in
      let few : i < 6 = omega (arith, k, h) in
      let left : 6 - i ≡ suc (6 - suc i) = omega arith in
      let small : a ≤ 3 = rw e (number_small (from_number (get_or s i 0))) in
      record {
        inside = omega arith;
        counted = omega arith;
        small = rw add-one (omega (arith, pow-suc 4 i, x.small));
        rest = rw (add-one, e) (rw (left, drop-cons s i 0 l) at x.rest);
      }

  pub indexing_all : {m : ℕ} → m ≡ min (length s) 6 → m ≤ i → w ≡ index (answers_of (take 6 s))
  unfolding index_onto
  indexing_all k l = go (ltb i (length s)) refl
    where
      go : (t : Bool) → ltb i (length s) ≡ t → w ≡ index (answers_of (take 6 s))
      go true e =
          let m = ltb-true i (length s) e in
          let six : i ≡ 6 = omega (arith, k, l, m, x.counted) in
          rw six at x.rest
      go false e = rw (drop_of_length-le s {i = i} (ltb-false i (length s) e), take-nil (6 - i)) at x.rest
