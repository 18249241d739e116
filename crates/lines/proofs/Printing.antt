-- The lines of a table as they are written, part by part.
use Prim.Native.Nat.{ℕ, ◌+◌, ◌≤◌, ◌<◌}
use mathlib.Core.Path.{◌≡◌, refl, sym}
use mathlib.Core.List.{List, [], ◌∷◌, ◌++◌, append-nil, append_assoc}
use lib.ListN.{length, take, get_or}
use lib.Seq.{take-suc, take_all}
use borrow.Author.Tests.{eq-eqb, ne_eqb}
use native.Mathlib.Numerals.{add-one}
use Rattle.text.specs.declared.pages.Page.{Page}
use Rattle.text.specs.Meaning.{Wrote, number_text}
use Rattle.text.proofs.Printing.{wrote_then}
use Rattle.growth.specs.Meaning.{Growth}
use Rattle.lines.specs.Meaning.{growth_yes, growth_no, column_word, to_word, answers_text, raised_text, growth_line}

-- the answers of a situation, one behind another
pub answers_text-append : (xs ys : List ℕ) → answers_text (xs ++ ys) ≡ answers_text xs ++ answers_text ys
unfolding answers_text
answers_text-append [] ys = refl
answers_text-append (x ∷ xs) ys = rw (answers_text-append xs ys) (sym (append_assoc (number_text x 32) (answers_text xs) (answers_text ys)))

-- a no with the answers up to an index
pub no_start : (answers : List ℕ) {p q : Page} → Wrote p growth_no q → Wrote p (growth_no ++ answers_text (take 0 answers)) q
unfolding answers_text
no_start answers w = w

pub no_more :
    (answers : List ℕ) (i : ℕ) {p q r : Page} →
    Wrote p (growth_no ++ answers_text (take i answers)) q →
    i < length answers →
    Wrote q (number_text (get_or answers i 0) 32) r →
    Wrote p (growth_no ++ answers_text (take (i + 1) answers)) r
unfolding answers_text
no_more answers i w l v =
    rw (
      add-one i,
      take-suc answers i 0 l,
      answers_text-append (take i answers) (get_or answers i 0 ∷ []),
      append-nil (number_text (get_or answers i 0) 32),
    )
    (wrote_then w v)

pub no_done :
    (answers : List ℕ) (i : ℕ) {p q : Page} →
    Wrote p (growth_no ++ answers_text (take i answers)) q →
    length answers ≤ i →
    Wrote p (growth_no ++ answers_text answers) q
no_done answers i w l = rw (take_all i answers l) at w

pub raised_wrote :
    (column answer : ℕ) {p q r s t : Page} →
    Wrote p column_word q →
    Wrote q (number_text column 32) r →
    Wrote r to_word s →
    Wrote s (number_text answer 10) t →
    Wrote p (raised_text column answer) t
unfolding raised_text
raised_wrote column answer v w x y = wrote_then (wrote_then (wrote_then v w) x) y

pub growth_line_yes : (g : Growth) → g.verdict ≡ 1 → growth_line g ≡ growth_yes
unfolding growth_line
growth_line_yes g h = rw (eq-eqb g.verdict 1 h)

pub yes_wrote : (g : Growth) {p q : Page} → g.verdict ≡ 1 → Wrote p growth_yes q → Wrote p (growth_line g) q
yes_wrote g h w = rw (growth_line_yes g h) w

pub no_wrote :
    (g : Growth) {p q r : Page} →
    (g.verdict ≡ 1 → ⊥) →
    Wrote p (growth_no ++ answers_text (take g.situation.length g.situation.answers)) q →
    Wrote q (raised_text g.column g.answer) r →
    Wrote p (growth_line g) r
unfolding growth_line
no_wrote g h w x = rw (ne_eqb g.verdict 1 h) (wrote_then w x)

-- a verdict's line is that of what is told of it
pub told_wrote : (g h : Growth) {p q : Page} → g ≡ h → Wrote p (growth_line g) q → Wrote p (growth_line h) q
told_wrote g h e w = rw (← e) w
