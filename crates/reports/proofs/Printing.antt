-- The lines of the counts by number as they are written.
use Prim.Native.Nat.{ℕ, suc, ◌+◌, ◌≤◌, ◌<◌}
use mathlib.Core.Path.{◌≡◌, ap, sym}
use mathlib.Core.List.{List, [], ◌∷◌, ◌++◌, append-nil, append_assoc}
use lib.ListN.{length, take, get_or}
use lib.Seq.{length-take-le, take-suc, take_all}
use borrow.Author.Tests.{eq-eqb, ne_eqb}
use native.Mathlib.Nat.{zero-add}
use native.Mathlib.Numerals.{add-one}
use native.Mathlib.Omega.{arith}
use Rattle.text.specs.declared.pages.Page.{Page}
use Rattle.text.specs.Meaning.{Wrote, number_text, refused_word}
use Rattle.text.proofs.Printing.{wrote_none, wrote_then}
use Rattle.reports.specs.Meaning.{number_line, number_lines}

pub number_line_none : (number n : ℕ) → n ≡ 0 → number_line number n ≡ []
unfolding number_line
number_line_none number n h = rw (eq-eqb n 0 h)

pub number_none : (number n : ℕ) (p : Page) → n ≡ 0 → Wrote p (number_line number n) p
unfolding number_line
number_none number n p h = rw (eq-eqb n 0 h) (wrote_none p)

pub number_wrote :
    (number n : ℕ) {p q r s : Page} →
    (n ≡ 0 → ⊥) →
    Wrote p refused_word q →
    Wrote q (number_text number 32) r →
    Wrote r (number_text n 10) s →
    Wrote p (number_line number n) s
unfolding number_line
number_wrote number n h v w x = rw (ne_eqb n 0 h) (wrote_then (wrote_then v w) x)

-- the counts by number, one behind another
number_lines-append : (k : ℕ) (xs ys : List ℕ) → number_lines k (xs ++ ys) ≡ number_lines k xs ++ number_lines (k + length xs) ys
unfolding number_lines
number_lines-append k [] ys = let same : k ≡ k + 0 = omega arith in ap (λ j. number_lines j ys) same
number_lines-append k (x ∷ xs) ys =
    let place : suc k + length xs ≡ k + suc (length xs) = omega arith in
    rw (number_lines-append (suc k) xs ys, place) (sym (append_assoc (number_line k x) (number_lines (suc k) xs) _))

one_line : (i n : ℕ) → number_lines (0 + i) (n ∷ []) ≡ number_line i n
unfolding number_lines
one_line i n = rw (zero-add i) (append-nil (number_line i n))

-- those below a number
pub numbers_start : (ns : List ℕ) (p : Page) → Wrote p (number_lines 0 (take 0 ns)) p
unfolding number_lines
numbers_start ns p = wrote_none p

module _ (ns : List ℕ) (i : ℕ) {p q : Page} (w : Wrote p (number_lines 0 (take i ns)) q) where
  pub numbers_more : i < length ns → {r : Page} → Wrote q (number_line i (get_or ns i 0)) r → Wrote p (number_lines 0 (take (i + 1) ns)) r
  numbers_more l v =
      let front : length (take i ns) ≡ i = length-take-le i ns (omega arith) in
      rw (add-one i, take-suc ns i 0 l, number_lines-append 0 (take i ns) (get_or ns i 0 ∷ []), front, one_line i (get_or ns i 0))
      (wrote_then w v)

  pub numbers_done : length ns ≤ i → Wrote p (number_lines 0 ns) q
  numbers_done l = rw (take_all i ns l) at w
