-- One window of a batch: what is walked lies within it, and where the batch goes on, fewer notices may still come.
use Rattle.std.proofs.Common.{◌≡◌, ℕ, ◌<◌, ◌≤◌, Bool, false, List, length, take, sym, ap, ltb, ◌∙◌, arith, length-take-le, take_all}
use borrow.Author.Tests.{le-ltb}
use Rattle.std.specs.Prelude.{None}
use Rattle.batches.specs.declared.Walked as code
use Rattle.batches.specs.Meaning.{Walked, why, walked, walk_of}
use Rattle.batches.proofs.Walks.{walked_within, walked_falls}

module _
    (ended : Bool) (left count : ℕ) (window : List ℕ) (w : code.Walked) (e : walked w ≡ walk_of ended left (take count window))
    (l : count ≤ length window) where
  pub walked_inside : w.length ≤ length window
  walked_inside =
      let within = walked_within ended left (take count window) in
      let long = length-take-le count window l in
      let same : w.length ≡ (walk_of ended left (take count window)).length = ap (λ (x : Walked). x.length) e in
      omega (arith, within, long, same)

  pub walked_part : w.length ≡ length (take w.length window)
  walked_part = sym (length-take-le w.length window walked_inside)

  pub walked_less : length window ≡ 65536 → 65536 ≤ count → ended ≡ ltb count 65536 → w.refused ≡ None → w.left < left
  walked_less size full d n =
      let long : 291 ≤ length window = omega arith in
      let whole : take count window ≡ window = take_all count window (omega arith) in
      let same : walked w ≡ walk_of false left window = e ∙ rw (d, le-ltb count 65536 full, whole) in
      let sound : (walk_of false left window).refusal.number ≡ 0 = sym (ap (λ (x : Walked). x.refusal.number) same) ∙ ap (λ o. (why o).number) n in
      let falls = walked_falls left window long sound in
      let fewer : w.left ≡ (walk_of false left window).left = ap (λ (x : Walked). x.left) same in
      omega (arith, falls, fewer)
