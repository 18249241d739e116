-- Numbers in decimal: how many digits they have, and how they are spelled from the last one on.
use Prim.Native.Nat.{ℕ, zero, suc, ◌+◌, ◌-◌, ◌/◌, ◌%◌, ◌^◌, ◌≤◌, ◌<◌}
use mathlib.Core.Path.{◌≡◌, ◌∙◌}
use mathlib.Core.Bool.{Bool, true, false, cond}
use mathlib.Core.List.{List, [], ◌∷◌}
use lib.Dec.{ltb}
use lib.ListN.{length, take, drop, set, length-append, length-drop, length-set, drop_of_length-le}
use lib.Seq.{drop-cons, drop-set-lt, get_or-set_same, take_all}
use borrow.Author.Tests.{lt-ltb, le-ltb}
use native.Mathlib.Nat.{pow-suc}
use native.Mathlib.Omega.{arith}
use Rattle.refusals.specs.Meaning.{Numbers}
use Rattle.text.specs.declared.pages.Page.{Page}
use Rattle.text.specs.Meaning.{Wrote, decimal_onto, decimal, number_text, refused_word, refusal_line}
use Rattle.text.specs.Inside.{Spelled, Spelling}
use Rattle.text.proofs.Printing.{wrote_then}

cond-length : (b : Bool) (xs ys : List ℕ) (most : ℕ) → length xs ≤ most → length ys ≤ most → length (cond b xs ys) ≤ most
cond-length true xs ys most h k = h
cond-length false xs ys most h k = k

-- a number below 10 to the k-th has at most k digits
pub decimal_onto-length : (fuel n k : ℕ) (behind : List ℕ) → n < 10 ^ suc k → length (decimal_onto fuel n behind) ≤ suc k + length behind
unfolding decimal_onto
decimal_onto-length zero n k behind h = omega arith
decimal_onto-length (suc fuel) n zero behind h = rw (lt-ltb n 10 h) (omega arith)
decimal_onto-length (suc fuel) n (suc k) behind h =
    let less : n / 10 < 10 ^ suc k = omega (arith, pow-suc 10 (suc k)) in
    let rest = decimal_onto-length fuel (n / 10) k ((48 + n % 10) ∷ behind) less in
    cond-length (ltb n 10) ((48 + n) ∷ behind) (decimal_onto fuel (n / 10) ((48 + n % 10) ∷ behind)) (suc (suc k) + length behind)
    (omega arith)
    (omega (arith, rest))

-- how long the text of a number is: of any number, and of one below 10 to the k-th
pub number_text-below : (k n end : ℕ) → n < 10 ^ suc k → length (number_text n end) ≤ suc k + 1
unfolding number_text decimal
number_text-below k n end h =
    let digits = decimal_onto-length 20 n k [] h in
    simp length-append (omega arith)

fuel_length : (fuel n : ℕ) (behind : List ℕ) → length (decimal_onto fuel n behind) ≤ fuel + length behind
unfolding decimal_onto
fuel_length zero n behind = omega arith
fuel_length (suc fuel) n behind =
    cond-length (ltb n 10) ((48 + n) ∷ behind) (decimal_onto fuel (n / 10) ((48 + n % 10) ∷ behind)) (suc fuel + length behind)
    (omega arith)
    (let rest = fuel_length fuel (n / 10) ((48 + n % 10) ∷ behind) in omega (arith, rest))

pub number_text-length : (n end : ℕ) → length (number_text n end) ≤ 21
unfolding number_text decimal
number_text-length n end = let digits = fuel_length 20 n [] in simp length-append (omega arith)

-- spelling
pub spelling_start : (n : ℕ) (digits : List ℕ) → length digits ≡ 20 → Spelling n n digits 20
unfolding decimal
spelling_start n digits e =
    record { size = e; inside = omega arith; left = rw (drop_of_length-le digits {i = 20} (omega arith)) }

drop-set : (l : List ℕ) (k d : ℕ) → k < length l → drop k (set l k d) ≡ d ∷ drop (suc k) l
drop-set l k d h =
    let long : k < length (set l k d) = rw length-set h in
    drop-cons (set l k d) k 0 long ∙ (rw (get_or-set_same l k d 0 h, drop-set-lt (suc k) l k d (omega arith)))

module _ (n rest : ℕ) {digits : List ℕ} (at : ℕ) (w : Spelling n rest digits at) (some : 0 < at) where
  last_place : at ≡ suc (at - 1)
  last_place = omega arith

  inside-place : at - 1 < length digits
  inside-place = let i = w.inside in let z = w.size in omega arith

  whole-left : decimal_onto (suc (at - 1)) rest (drop (suc (at - 1)) digits) ≡ decimal n
  whole-left = rw (← last_place) w.left

  pub spelling_more : (rest / 10 ≡ 0 → ⊥) → Spelling n (rest / 10) (set digits (at - 1) (48 + rest % 10)) (at - 1)
  unfolding decimal_onto
  spelling_more l =
      record {
        size = length-set digits (at - 1) (48 + rest % 10) ∙ w.size;
        inside = let i = w.inside in omega arith;
        left = rw (drop-set digits (at - 1) (48 + rest % 10) inside-place) (rw (le-ltb rest 10 (omega (arith, l))) at whole-left);
      }

  pub spelling_end : rest / 10 ≡ 0 → Spelled n (set digits (at - 1) (48 + rest % 10)) (at - 1)
  unfolding decimal_onto
  spelling_end l =
      let small : rest < 10 = omega arith in
      let same : rest % 10 ≡ rest = omega arith in
      record {
        size = length-set digits (at - 1) (48 + rest % 10) ∙ w.size;
        inside = let i = w.inside in omega arith;
        all = rw (drop-set digits (at - 1) (48 + rest % 10) inside-place, same) (rw (lt-ltb rest 10 small) at whole-left);
      }

-- a number that has a digit in each of the 20 places
pub spelling_full : (n rest : ℕ) {digits : List ℕ} (at : ℕ) → Spelling n rest digits at → at ≤ 0 → Spelled n digits 0
unfolding decimal_onto
spelling_full n rest {digits} at w l =
    let none : at ≡ 0 = omega arith in
    record { size = w.size; inside = omega arith; all = rw none at w.left }

-- a number and the byte behind it, from its digits
pub number_wrote :
    (n : ℕ) {digits : List ℕ} {first : ℕ} →
    Spelled n digits first →
    (end : ℕ) {p q r : Page} →
    Wrote p (take (20 - first) (drop first digits)) q →
    Wrote q (end ∷ []) r →
    Wrote p (number_text n end) r
unfolding number_text
number_wrote n {digits} {first} s end v w =
    let long : length (drop first digits) ≤ 20 - first = rw length-drop (let z = s.size in omega arith) in
    let part : take (20 - first) (drop first digits) ≡ decimal n = take_all (20 - first) (drop first digits) long ∙ s.all in
    wrote_then (rw part at v) w

-- the three numbers of a refusal
pub refusal_wrote :
    (n : Numbers) {k : ℕ} {p q r s t : Page} →
    k ≡ n.number →
    Wrote p refused_word q →
    Wrote q (number_text k 32) r →
    Wrote r (number_text n.place 32) s →
    Wrote s (number_text n.second 10) t →
    Wrote p (refusal_line n) t
unfolding refusal_line
refusal_wrote n {q = q} {r = r} e v w x y =
    let number : Wrote q (number_text n.number 32) r = rw (← e) w in
    wrote_then (wrote_then (wrote_then v number) x) y
