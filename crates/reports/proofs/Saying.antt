-- A record's text says its counts: two records of one name that are equal byte for byte have equal counts.
use Prim.Native.Nat.{ℕ, suc, ◌+◌, ◌^◌, ◌≤◌, ◌<◌}
use mathlib.Core.Path.{◌≡◌, refl, sym, ap, ap₂, ◌∙◌}
use mathlib.Core.Logic.{◌⊎◌, inl, inr, ⊎_elim}
use mathlib.Core.Bool.{Bool, true, false}
use mathlib.Core.List.{List, [], ◌∷◌, ◌++◌, append_assoc}
use native.Mathlib.Omega.{arith}
use lib.Dec.{eqb}
use lib.ListN.{length, drop}
use lib.Seq.{drop-append_seam}
use borrow.Author.Tests.{eq-eqb, ne_eqb, eqb-true, eqb-false}
use Rattle.text.specs.Meaning.{SPACE, LINE_FEED, number_text, refused_word}
use Rattle.counts.specs.declared.Counts.{Counts}
use Rattle.reports.specs.Meaning.{silent_word, bury_word, keep_word, clash_word, name_line, total_lines, number_line, number_lines}
use Rattle.reports.specs.Meaning.{record_text, Fit, Sized}
use Rattle.reports.proofs.DigitsRead.{number_said, rest_said}

-- the lines by number: none, or a first one of a number that is at least so large
abbrev line_of : ℕ → ℕ → List ℕ → List ℕ
line_of number n rest = refused_word ++ (number_text number SPACE ++ (number_text n LINE_FEED ++ rest))

some-line : (number n : ℕ) (ns : List ℕ) → (n ≡ 0 → ⊥) → number_lines number (n ∷ ns) ≡ line_of number n (number_lines (suc number) ns)
unfolding number_lines number_line
some-line number n ns h =
    rw (ne_eqb n 0 h)
    (ap (λ (l : List ℕ). refused_word ++ l) (append_assoc (number_text number SPACE) (number_text n LINE_FEED) (number_lines (suc number) ns)))

no_line : (number n : ℕ) (ns : List ℕ) → n ≡ 0 → number_lines number (n ∷ ns) ≡ number_lines (suc number) ns
unfolding number_lines number_line
no_line number n ns h = rw (eq-eqb n 0 h)

pub record First (number : ℕ) (text : List ℕ) : Type 0 where
  pub this : ℕ
  pub count : ℕ
  pub rest : List ℕ
  pub later : number ≤ this
  pub small : this < 2 ^ 64
  pub is : text ≡ line_of this count rest

first-line : (number : ℕ) (ns : List ℕ) → number + length ns < 2 ^ 64 → (number_lines number ns ≡ []) ⊎ First number (number_lines number ns)
unfolding number_lines
first-line number [] h = inl refl
first-line number (n ∷ ns) h = go (eqb n 0) refl (first-line (suc number) ns (omega arith))
  where
    go : (b : Bool) → eqb n 0 ≡ b → (number_lines (suc number) ns ≡ []) ⊎ First (suc number) (number_lines (suc number) ns) →
        (number_lines number (n ∷ ns) ≡ []) ⊎ First number (number_lines number (n ∷ ns))
    go true e f =
        let same = no_line number n ns (eqb-true n 0 e) in
        ⊎_elim (λ z. inl (same ∙ z))
        (λ x. inr (record {
          this = x.this;
          count = x.count;
          rest = x.rest;
          later = omega (arith, x.later);
          small = x.small;
          is = same ∙ x.is;
        })) f
    go false e f =
        inr (record {
          this = number;
          count = n;
          rest = number_lines (suc number) ns;
          later = omega arith;
          small = omega (arith, h);
          is = some-line number n ns (eqb-false n 0 e);
        })

-- two lines that are equal have equal numbers and counts
drop-word : (xs ys : List ℕ) → refused_word ++ xs ≡ refused_word ++ ys → xs ≡ ys
drop-word xs ys e = ap (drop 8) e

line_said : (j k n m : ℕ) (xs ys : List ℕ) → j < 2 ^ 64 → k < 2 ^ 64 → line_of j n xs ≡ line_of k m ys →
    (j ≡ k) × (number_text n LINE_FEED ++ xs ≡ number_text m LINE_FEED ++ ys)
line_said j k n m xs ys h i e =
    let f = drop-word (number_text j SPACE ++ (number_text n LINE_FEED ++ xs)) (number_text k SPACE ++ (number_text m LINE_FEED ++ ys)) e in (
      number_said j k SPACE (number_text n LINE_FEED ++ xs) (number_text m LINE_FEED ++ ys) h i (omega arith) f,
      rest_said j k SPACE (number_text n LINE_FEED ++ xs) (number_text m LINE_FEED ++ ys) h i (omega arith) f,
    )

-- lines from a later number on are not a line of an earlier one
not_line : (number n : ℕ) (ns rest : List ℕ) → suc number + length ns < 2 ^ 64 → number_lines (suc number) ns ≡ line_of number n rest → ⊥
not_line number n ns rest h e =
    ⊎_elim
    (λ z. let l : ◌≡◌ {A = ℕ} 0 (length (line_of number n rest)) = ap length (sym z ∙ e) in omega (arith, l))
    (λ x.
    let same = (line_said x.this number x.count n x.rest rest x.small (omega (arith, h)) (sym x.is ∙ e)).0 in
    omega (arith, x.later, same))
    (first-line (suc number) ns h)

next_said : (number n m : ℕ) (ns ms : List ℕ) (a b : Bool) → eqb n 0 ≡ a → eqb m 0 ≡ b → n < 2 ^ 64 → m < 2 ^ 64 →
    suc number + length ns < 2 ^ 64 → suc number + length ms < 2 ^ 64 →
    (number_lines (suc number) ns ≡ number_lines (suc number) ms → ns ≡ ms) →
    number_lines number (n ∷ ns) ≡ number_lines number (m ∷ ms) →
    n ∷ ns ≡ m ∷ ms
next_said number n m ns ms true true i j h k p q later e =
    let x = eqb-true n 0 i in
    let y = eqb-true m 0 j in
    ap₂ (λ (t : ℕ) (ts : List ℕ). t ∷ ts) (x ∙ sym y) (later (sym (no_line number n ns x) ∙ e ∙ no_line number m ms y))
next_said number n m ns ms true false i j h k p q later e =
    absurd (not_line number m ns (number_lines (suc number) ms) p
    (sym (no_line number n ns (eqb-true n 0 i)) ∙ e ∙ some-line number m ms (eqb-false m 0 j)))
next_said number n m ns ms false true i j h k p q later e =
    absurd (not_line number n ms (number_lines (suc number) ns) q
    (sym (no_line number m ms (eqb-true m 0 j)) ∙ sym e ∙ some-line number n ns (eqb-false n 0 i)))
next_said number n m ns ms false false i j h k p q later e =
    let xs = number_lines (suc number) ns in
    let ys = number_lines (suc number) ms in
    let f = sym (some-line number n ns (eqb-false n 0 i)) ∙ e ∙ some-line number m ms (eqb-false m 0 j) in
    let g = (line_said number number n m xs ys (omega (arith, p)) (omega (arith, p)) f).1 in
    ap₂ (λ (t : ℕ) (ts : List ℕ). t ∷ ts) (number_said n m LINE_FEED xs ys h k (omega arith) g)
    (later (rest_said n m LINE_FEED xs ys h k (omega arith) g))

lines_said : (number : ℕ) (ns ms : List ℕ) → length ns ≡ length ms → number + length ns < 2 ^ 64 → Fit ns → Fit ms →
    number_lines number ns ≡ number_lines number ms → ns ≡ ms
lines_said number [] [] l s h k e = refl
lines_said number [] (m ∷ ms) l s h k e = absurd (omega (arith, l))
lines_said number (n ∷ ns) [] l s h k e = absurd (omega (arith, l))
lines_said number (n ∷ ns) (m ∷ ms) l s h k e =
    next_said number n m ns ms (eqb n 0) (eqb m 0) refl refl h.0 k.0 (omega (arith, s)) (omega (arith, s, l))
    (λ f. lines_said (suc number) ns ms (omega (arith, l)) (omega (arith, s)) h.1 k.1 f) e

-- the whole record
abbrev at_refused : Counts → List ℕ
at_refused c = number_text c.refused LINE_FEED ++ number_lines 0 c.numbers

abbrev at_clash : Counts → List ℕ
at_clash c = number_text c.clash LINE_FEED ++ (refused_word ++ at_refused c)

abbrev at_keep : Counts → List ℕ
at_keep c = number_text c.keep LINE_FEED ++ (clash_word ++ at_clash c)

abbrev at_bury : Counts → List ℕ
at_bury c = number_text c.bury LINE_FEED ++ (keep_word ++ at_keep c)

abbrev at_silent : Counts → List ℕ
at_silent c = number_text c.silent LINE_FEED ++ (bury_word ++ at_bury c)

five : (u a v b w c x d y e z : List ℕ) →
    (u ++ a) ++ (v ++ b) ++ (w ++ c) ++ (x ++ d) ++ (y ++ e) ++ z ≡ u ++ (a ++ (v ++ (b ++ (w ++ (c ++ (x ++ (d ++ (y ++ (e ++ z)))))))))
five u a v b w c x d y e z = simp append_assoc

nested : (name : List ℕ) (c : Counts) → record_text name c ≡ name_line name ++ (silent_word ++ at_silent c)
unfolding record_text total_lines
nested name c =
    append_assoc (name_line name) (total_lines c) (number_lines 0 c.numbers)
    ∙ ap (λ (l : List ℕ). name_line name ++ l)
    (five silent_word (number_text c.silent LINE_FEED) bury_word (number_text c.bury LINE_FEED) keep_word (number_text c.keep LINE_FEED)
    clash_word (number_text c.clash LINE_FEED) refused_word (number_text c.refused LINE_FEED) (number_lines 0 c.numbers))

same_counts : (c d : Counts) → c.silent ≡ d.silent → c.bury ≡ d.bury → c.keep ≡ d.keep → c.clash ≡ d.clash →
    c.refused ≡ d.refused → c.numbers ≡ d.numbers → c ≡ d
same_counts c d s b k l r n =
    let same : ◌≡◌ {A = Counts}
    (record { silent = c.silent; bury = c.bury; keep = c.keep; clash = c.clash; refused = c.refused; numbers = c.numbers })
    (record { silent = d.silent; bury = d.bury; keep = d.keep; clash = d.clash; refused = d.refused; numbers = d.numbers }) =
    rw (s, b, k, l, r, n) in
    same

pub record_says : (name : List ℕ) (c d : Counts) → Sized c → Sized d → record_text name c ≡ record_text name d → c ≡ d
record_says name c d h k e =
    let x = h.totals in
    let y = k.totals in
    let lf : LINE_FEED < 48 = omega arith in
    let behind-name : silent_word ++ at_silent c ≡ silent_word ++ at_silent d =
    sym (drop-append_seam (name_line name) (silent_word ++ at_silent c))
    ∙ ap (drop (length (name_line name))) (sym (nested name c) ∙ e ∙ nested name d)
    ∙ drop-append_seam (name_line name) (silent_word ++ at_silent d) in
    let silent : at_silent c ≡ at_silent d = ap (drop 7) behind-name in
    let bury : at_bury c ≡ at_bury d =
    ap (drop 5) (rest_said c.silent d.silent LINE_FEED (bury_word ++ at_bury c) (bury_word ++ at_bury d) x.0 y.0 lf silent) in
    let keep : at_keep c ≡ at_keep d =
    ap (drop 5) (rest_said c.bury d.bury LINE_FEED (keep_word ++ at_keep c) (keep_word ++ at_keep d) x.1.0 y.1.0 lf bury) in
    let clash : at_clash c ≡ at_clash d =
    ap (drop 6) (rest_said c.keep d.keep LINE_FEED (clash_word ++ at_clash c) (clash_word ++ at_clash d)
    x.1.1.0 y.1.1.0 lf keep) in
    let refused : at_refused c ≡ at_refused d =
    ap (drop 8) (rest_said c.clash d.clash LINE_FEED (refused_word ++ at_refused c) (refused_word ++ at_refused d)
    x.1.1.1.0 y.1.1.1.0 lf clash) in
    let xs = number_lines 0 c.numbers in
    let ys = number_lines 0 d.numbers in
    same_counts c d
    (number_said c.silent d.silent LINE_FEED (bury_word ++ at_bury c) (bury_word ++ at_bury d) x.0 y.0 lf silent)
    (number_said c.bury d.bury LINE_FEED (keep_word ++ at_keep c) (keep_word ++ at_keep d) x.1.0 y.1.0 lf bury)
    (number_said c.keep d.keep LINE_FEED (clash_word ++ at_clash c) (clash_word ++ at_clash d) x.1.1.0 y.1.1.0 lf keep)
    (number_said c.clash d.clash LINE_FEED (refused_word ++ at_refused c) (refused_word ++ at_refused d)
    x.1.1.1.0 y.1.1.1.0 lf clash)
    (number_said c.refused d.refused LINE_FEED xs ys x.1.1.1.1.0 y.1.1.1.1.0 lf refused)
    (lines_said 0 c.numbers d.numbers (h.places ∙ sym k.places) (omega (arith, h.places)) h.numbered k.numbered
    (rest_said c.refused d.refused LINE_FEED xs ys x.1.1.1.1.0 y.1.1.1.1.0 lf refused))
