-- Demand 3, as someone who runs `tablecheck` sees it.
use Prim.Native.Nat.{ℕ, ◌+◌, ◌≤◌, ◌<◌}
use mathlib.Core.Path.{◌≡◌, refl, ap, ap₂, sym, ◌∙◌, subst}
use mathlib.Core.Logic.{◌↔◌}
use mathlib.Core.Bool.{Bool, true, false}
use mathlib.Core.List.{List, ◌++◌, map}
use lib.Dec.{eqb, ltb}
use lib.ListN.{length, get_or, take, replicate, length-replicate}
use lib.Seq.{get_or-append-add, take_all, length-take-le}
use borrow.Author.Tests.{eqb-true, eq-eqb, ne_eqb, lt-ltb, ltb-true, ltb-false}
use native.Mathlib.Omega.{arith}
use Rattle.refusals.specs.Meaning.{refused, ROOM}
use Rattle.answers.specs.Meaning.{number}
use Rattle.answers.specs.declared.Answer.{Answer}
use Rattle.answers.specs.declared.Answer.TheVariants.{Silent}
use Rattle.situations.specs.declared.Situation.{Situation}
use Rattle.tables.specs.Meaning.{TableRead, table_of, says, read_of}
use Rattle.tables.proofs.Accepted.{read_accepted}
use Rattle.accepting.proofs.TableEncoding.{read_formed}
use Rattle.formula.specs.Meaning.{table_size}
use Rattle.formula.proofs.MostNodes.{narrow-most}
use Rattle.compiler.specs.Meaning.{Compiled, compile_of}
use Rattle.selection.proofs.Replies.{accepted_read, accepted_reply_lem, fits_accepted}
use Rattle.growth.specs.Meaning.{Growth, growth_of}
use Rattle.growing.specs.Meaning.{Grows, FirstFailing}
use Rattle.text.specs.Meaning.{refusal_line}
use Rattle.lines.specs.Meaning.{growth_yes, growth_no, count_lines, answers_text, raised_text, growth_line}
use Rattle.judging.specs.Meaning.{text_of}
use Rattle.situations.proofs.Columns.{by_value-numbers}
use Rattle.promises.specs.Meaning.{Accepts, default_of, Compiles, nodes_written}
use Rattle.promises.proofs.Demand2Tables.{accepted_short, accepted_columns, accepted_writes_nodes}
use Rattle.promises.proofs.Defaults.{as_before_at_most}
use Rattle.promises.proofs.Demand3.{yes_exactly_when_the_table_grows, no_shows_the_tables_first}

-- behind the counts stands the line of the check
printed :
    (bytes lent : List ℕ) →
    length lent ≡ 4223 →
    Compiles bytes lent →
    text_of bytes ≡ count_lines (compile_of bytes 4223) ++ growth_line (growth_of (nodes_written bytes lent) (table_of bytes).columns)
unfolding Compiles text_of
printed bytes lent l h =
    let k : (compile_of bytes 4223).refusal.number ≡ 0 = rw l at h in
    let columns : (compile_of bytes 4223).columns ≡ (table_of bytes).columns =
    ap (λ (c : Compiled). c.columns) (accepted_reply_lem bytes 4223 k)
    ∙ ap (λ (r : TableRead). r.columns) (read_accepted bytes (accepted_read bytes 4223 k)).reply in
    rw (eq-eqb (compile_of bytes 4223).refusal.number 0 k, columns, (accepted_writes_nodes bytes lent h).0)

-- the line of a no
abbrev no_line : Situation → ℕ → ℕ → List ℕ
no_line s column answer = growth_no ++ answers_text (take s.length s.answers) ++ raised_text column answer

line_yes : (g : Growth) → g.verdict ≡ 1 → growth_line g ≡ growth_yes
unfolding growth_line
line_yes g e = rw e

line_no : (g : Growth) → (g.verdict ≡ 1 → ⊥) → growth_line g ≡ no_line g.situation g.column g.answer
unfolding growth_line
line_no g e = rw (ne_eqb g.verdict 1 e)

-- the two lines differ in their eighth letter
yes_printed : (before : List ℕ) (g : Growth) → before ++ growth_line g ≡ before ++ growth_yes → g.verdict ≡ 1
unfolding growth_line
yes_printed before g e = go (eqb g.verdict 1) refl
  where
    eighth : (line : List ℕ) → before ++ line ≡ before ++ growth_yes → get_or line 7 0 ≡ 121
    eighth line e =
        sym (get_or-append-add before line 7 0) ∙ ap (λ (l : List ℕ). get_or l (length before + 7) 0) e ∙ get_or-append-add before growth_yes 7 0

    go : (t : Bool) → eqb g.verdict 1 ≡ t → g.verdict ≡ 1
    go true h = eqb-true g.verdict 1 h
    go false h = absurd (let z : ◌≡◌ {A = ℕ} 110 121 = eighth _ (rw h at e) in omega arith)

-- the room of `tablecheck`
unfoldable room : List ℕ
room = replicate 4223 0

room-long : length room ≡ 4223
unfolding room
room-long = length-replicate {A = ℕ} 4223 0

-- "Judges its first 1,024 bytes", and "the longest lawful table becomes 648 bytes": a table that is accepted is judged as it came, and
-- no longer input is judged as if it were accepted.
whole : (input : List ℕ) → Accepts input → take 1024 input ≡ input
whole input h = take_all 1024 input (let most = accepted_short input h in omega arith)

pub judged_as_it_came : (input : List ℕ) → Accepts (take 1024 input) ↔ Accepts input
judged_as_it_came input = (λ h. go h (ltb 1024 (length input)) refl, λ h. subst Accepts (sym (whole input h)) h)
  where
    go : Accepts (take 1024 input) → (b : Bool) → ltb 1024 (length input) ≡ b → Accepts input
    go h true e =
        let long : length (take 1024 input) ≡ 1024 = length-take-le 1024 input (let l = ltb-true 1024 (length input) e in omega arith) in
        absurd (let most = accepted_short (take 1024 input) h in omega (arith, long, most))
    go h false e = subst Accepts (take_all 1024 input (ltb-false 1024 (length input) e)) h

-- "With 4,223 bytes of room": an accepted table that needs more, as some with a default other than silent do, is refused by ROOM,
-- and the place printed is the count.
pub prints_room :
    (bytes : List ℕ) →
    Accepts bytes →
    4223 < table_size (table_of bytes) →
    text_of (take 1024 bytes) ≡ refusal_line (refused ROOM (table_size (table_of bytes)))
unfolding Accepts text_of compile_of
prints_room bytes h large =
    rw (whole bytes h, eq-eqb (read_of bytes).refusal.number 0 h, lt-ltb 4223 (table_size (table_of bytes)) large)

-- A table whose default is silent needs no more.
pub silent_default_fits : (bytes : List ℕ) → Accepts bytes → default_of (table_of bytes) ≡ Silent → table_size (table_of bytes) ≤ 4223
unfolding Accepts
silent_default_fits bytes h silent = as_before_at_most (table_of bytes) silent (read_formed bytes h)

-- Nor does a table of up to three columns, whatever its default.
pub narrow-fits : (bytes : List ℕ) → Accepts bytes → (table_of bytes).columns ≤ 3 → table_size (table_of bytes) ≤ 4223
unfolding Accepts
narrow-fits bytes h three = narrow-most (table_of bytes) (read_formed bytes h) three

module _ (bytes : List ℕ) (h : Accepts bytes) (small : table_size (table_of bytes) ≤ 4223) where
  fits : Compiles bytes room
  unfolding Accepts Compiles
  fits = rw room-long (fits_accepted bytes 4223 h small)

  abbrev verdict : Growth
  verdict = growth_of (nodes_written bytes room) (table_of bytes).columns

  -- For every accepted table that needs at most 4,223 nodes `growth yes` is printed behind the counts exactly when what the table
  -- says of each of any two situations is contained in what it says of their merger.
  pub prints_yes_exactly :
      (text_of (take 1024 bytes) ≡ count_lines (compile_of bytes 4223) ++ growth_yes) ↔ Grows (says (table_of bytes)) (table_of bytes).columns
  prints_yes_exactly =
      let e = yes_exactly_when_the_table_grows bytes room fits in
      let t = ap text_of (whole bytes h) ∙ printed bytes room room-long fits in (
        λ y. e.0 (yes_printed (count_lines (compile_of bytes 4223)) verdict (sym t ∙ y)),
        λ law. t ∙ ap (λ (line : List ℕ). count_lines (compile_of bytes 4223) ++ line) (line_yes verdict (e.1 law)),
      )

  -- Else a no is printed, and the situation, the column and the new answer whose numbers stand in its line are the first step at
  -- which what the table said is not contained in what it says after.
  pub prints_no_first :
      (Grows (says (table_of bytes)) (table_of bytes).columns → ⊥) →
      (s : List Answer)
      × (column : ℕ)
      × (a : Answer)
      × (text_of (take 1024 bytes)
      ≡ count_lines (compile_of bytes 4223) ++ (growth_no ++ answers_text (map number s) ++ raised_text column (number a)))
      × FirstFailing (says (table_of bytes)) (table_of bytes).columns s column a
  prints_no_first n =
      let v : verdict.verdict ≡ 1 → ⊥ = λ y. n ((yes_exactly_when_the_table_grows bytes room fits).0 y) in
      let shown = no_shows_the_tables_first bytes room fits v in
      let few : length shown.situation ≤ 6 = rw shown.first.long (accepted_columns bytes h) in (
        shown.situation,
        verdict.column,
        shown.answer,
        ap text_of (whole bytes h)
            ∙ printed bytes room room-long fits
            ∙ ap (λ (line : List ℕ). count_lines (compile_of bytes 4223) ++ line)
            (line_no verdict v ∙ ap₂ (λ (s : Situation) (a : ℕ). no_line s verdict.column a) shown.told-situation shown.told-answer
            ∙ ap (λ (s : List ℕ). growth_no ++ answers_text s ++ raised_text verdict.column (number shown.answer))
            (by_value-numbers shown.situation few)),
        shown.first,
      )
