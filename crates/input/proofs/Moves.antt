-- Bytes copied to the front.
use Prim.Native.Nat.{ℕ, ◌+◌, ◌-◌, min}
use mathlib.Core.Path.{◌≡◌, refl, ap, sym, ◌∙◌}
use mathlib.Core.Bool.{Bool, true, false}
use mathlib.Core.List.{List}
use lib.Dec.{ltb}
use lib.ListN.{length, length-drop, take, drop, drop_of_length-le}
use lib.Seq.{slice, paste, length-take-le, take_all}
use borrow.Author.Tests.{ltb-true, ltb-false}
use native.Mathlib.Nat.{zero-add}
use native.Mathlib.Omega.{arith}
use Rattle.std.proofs.lemmas.List.{drop-take}
use Rattle.input.specs.Meaning.{Moved}

-- a place behind the end is the end, and where the first place lies behind the second, there is nothing between them
module _ (old : List ℕ) (from to : ℕ) {end start : ℕ} (e : end ≡ min to (length old)) (f : start ≡ min from end) where
  front_whole : take end old ≡ take to old
  front_whole = go (ltb to (length old)) refl
    where
      go : (b : Bool) → ltb to (length old) ≡ b → take end old ≡ take to old
      go true h =
          let l = ltb-true to (length old) h in
          let same : end ≡ to = omega arith in
          ap (λ n. take n old) same
      go false h = let l = ltb-false to (length old) h in take_all end old (omega arith) ∙ sym (take_all to old l)

  front_from : drop start (take end old) ≡ drop from (take end old)
  front_from = go (ltb from end) refl
    where
      go : (b : Bool) → ltb from end ≡ b → drop start (take end old) ≡ drop from (take end old)
      go true h =
          let l = ltb-true from end h in
          let same : start ≡ from = omega arith in
          ap (λ n. drop n (take end old)) same
      go false h =
          let l = ltb-false from end h in
          let short = length-take-le end old (omega arith) in
          drop_of_length-le (take end old) {i = start} (omega arith) ∙ sym (drop_of_length-le (take end old) {i = from} (omega arith))

  part-is : take (end - start) (drop start old) ≡ slice from to old
  part-is =
      let same : start + (end - start) ≡ end = omega arith in
      sym (drop-take start (end - start) old) ∙ ap (λ n. drop start (take n old)) same ∙ front_from ∙ ap (drop from) front_whole

  part_size : end - start ≡ length (slice from to old)
  part_size = sym (ap length (sym part-is) ∙ length-take-le (end - start) (drop start old) (rw length-drop (omega arith)))

  pub moved : {new : List ℕ} → new ≡ paste old 0 (drop start old) (end - start) → Moved old from to new (end - start)
  moved h = record { all = part_size; holds = h ∙ (rw (part-is, zero-add (end - start))) }
