-- Text written behind text, and the loop that copies a part.
use Prim.Native.Nat.{ℕ, suc, ◌+◌, ◌-◌, ◌≤◌, min, ◌<◌}
use mathlib.Core.Path.{◌≡◌, refl, ap, sym, ◌∙◌}
use mathlib.Core.Bool.{Bool, true, false}
use mathlib.Core.List.{List, [], ◌∷◌, ◌++◌, append_assoc}
use lib.Dec.{ltb}
use lib.ListN.{length, take, drop, length-append, take-append-drop, set}
use lib.Seq.{sets, sets-eq, length-sets, length-take-le, set_out, take_all, drop-drop}
use borrow.Rule.Slice.PartMut.{put_mid}
use borrow.Author.Tests.{ltb-true, ltb-false}
use native.Mathlib.Nat.{add-zero}
use native.Mathlib.Omega.{arith}
use Rattle.lent.proofs.Laws.{sets_append}
use Rattle.text.specs.declared.pages.Page.{Page}
use Rattle.text.specs.Meaning.{Printed, Wrote}

-- what is written behind the end changes nothing
sets_out : (l : List ℕ) (i : ℕ) (xs : List ℕ) → length l ≤ i → sets l i xs ≡ l
sets_out l i [] h = refl
sets_out l i (x ∷ xs) h = rw (set_out l i x h) (sets_out l (suc i) xs (omega arith))

pub printed_none : (b : List ℕ) {at r : ℕ} → r ≡ min (length b) at → Printed b at [] b r
printed_none b {at} e = record { ends = rw (add-zero at) e; holds = refl }

pub printed_then : {b c d xs ys : List ℕ} {at m n : ℕ} → Printed b at xs c m → Printed c m ys d n → Printed b at (xs ++ ys) d n
printed_then {b} {c} {d} {xs} {ys} {at} {m} {n} v w =
    let long : length c ≡ length b = ap length v.holds ∙ length-sets b at xs in
    record {
      ends = simp length-append (let e = v.ends in let f = w.ends in omega arith);
      holds = w.holds ∙ go (ltb (length b) (at + length xs)) refl long ∙ (rw v.holds (sym (sets_append b at xs ys)));
    }
  where
    -- the second text stands behind the first, or both places lie behind the end
    go : (past : Bool) → ltb (length b) (at + length xs) ≡ past → length c ≡ length b → sets c m ys ≡ sets c (at + length xs) ys
    go true e long =
        let far = ltb-true (length b) (at + length xs) e in
        let f = v.ends in
        sets_out c m ys (omega arith) ∙ sym (sets_out c (at + length xs) ys (omega arith))
    go false e long =
        let near = ltb-false (length b) (at + length xs) e in
        let f = v.ends in
        let same : m ≡ at + length xs = omega arith in
        ap (λ i. sets c i ys) same

-- the part of the buffer up to the next place
pub printed_part : {b c xs : List ℕ} {at r : ℕ} → Printed b at xs c r → r ≡ length (take r c)
printed_part {b} {c} {xs} {at} {r} v =
    let long : length c ≡ length b = ap length v.holds ∙ length-sets b at xs in
    let e = v.ends in
    sym (length-take-le r c (omega arith))

-- one byte
pub printed_byte : (b : List ℕ) (at x : ℕ) → at < length b → Printed b at (x ∷ []) (set b at x) (at + 1)
printed_byte b at x h = record { ends = omega arith; holds = refl }

pub printed_out : (b : List ℕ) (at x : ℕ) → length b ≤ at → Printed b at (x ∷ []) b (length b)
printed_out b at x h = record { ends = omega arith; holds = sym (set_out b at x h) }

-- what has no room is cut off
sets_cut : (b part : List ℕ) (at count : ℕ) → length b ≤ at + count → count ≤ length part → sets b at (take count part) ≡ sets b at part
sets_cut b part at count full few =
    let size : length (take count part) ≡ count = length-take-le count part few in
    let long = length-sets b at (take count part) in
    sym (sets_out (sets b at (take count part)) (at + length (take count part)) (drop count part) (omega arith))
    ∙ sym (sets_append b at (take count part) (drop count part))
    ∙ ap (sets b at) (take-append-drop count part)

-- bytes in the place of others, as many as there is room for
module _ (b part : List ℕ) (at : ℕ) {start count : ℕ} (e : start ≡ min at (length b)) (f : count ≡ min (length part) (length b - start)) where
  front_size : length (take count part) ≡ count
  front_size = length-take-le count part (omega arith)

  front_put : put_mid start (start + count - start) b (take count part) ≡ sets b start (take count part)
  front_put =
      let size = front_size in
      let whole : start + length (take count part) ≤ length b = omega arith in
      let same : start + (start + count - start) ≡ start + length (take count part) = omega arith in
      rw (sets-eq (take count part) b start whole, drop-drop, same) (sym (append_assoc (take start b) (take count part) _))

  front_all : sets b start (take count part) ≡ sets b at part
  front_all = go (ltb (length b) at) refl
    where
      go : (far : Bool) → ltb (length b) at ≡ far → sets b start (take count part) ≡ sets b at part
      go true h =
          let past = ltb-true (length b) at h in
          sets_out b start (take count part) (omega arith) ∙ sym (sets_out b at part (omega arith))
      go false h =
          let near = ltb-false (length b) at h in
          let same : start ≡ at = omega arith in
          rw same (fits (ltb (length b) (at + length part)) refl near)
        where
          fits : (cut : Bool) → ltb (length b) (at + length part) ≡ cut → at ≤ length b → sets b at (take count part) ≡ sets b at part
          fits true i near =
              let past = ltb-true (length b) (at + length part) i in
              sets_cut b part at count (omega arith) (omega arith)
          fits false i near =
              let room = ltb-false (length b) (at + length part) i in
              ap (sets b at) (take_all count part (omega arith))

  pub printed_over : {c : List ℕ} → c ≡ take count part → Printed b at part (put_mid start (start + count - start) b c) (start + count)
  printed_over {c} h = record { ends = omega arith; holds = rw h (front_put ∙ front_all) }

-- the same of pages
pub wrote_none : (p : Page) → Wrote p [] p
wrote_none p = record { printed = printed_none p.text.now (omega (arith, p.inside)); same = refl }

pub wrote_then : {p q r : Page} {xs ys : List ℕ} → Wrote p xs q → Wrote q ys r → Wrote p (xs ++ ys) r
wrote_then v w = record { printed = printed_then v.printed w.printed; same = w.same ∙ v.same }

-- what is written on a page that goes on at a place stands in the buffer from that place on
pub printed_opened : (b xs : List ℕ) (at : ℕ) {c : List ℕ} {next : ℕ} → Printed b (min (length b) at) xs c next → Printed b at xs c next
printed_opened b xs at {c} {next} p = go (ltb (length b) at) refl
  where
    go : (far : Bool) → ltb (length b) at ≡ far → Printed b at xs c next
    go true h =
        let past = ltb-true (length b) at h in
        let ends = p.ends in
        record {
          ends = omega arith;
          holds = p.holds ∙ (sets_out b (min (length b) at) xs (omega arith) ∙ sym (sets_out b at xs (omega arith)));
        }
    go false h =
        let near = ltb-false (length b) at h in
        let same : min (length b) at ≡ at = omega arith in
        rw same at p
