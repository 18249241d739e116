-- The ways out of judging: the text of a refusal and of an accepted table, and what a lent buffer holds then.
use Prim.Native.Nat.{ℕ, ◌+◌, ◌≤◌, ◌^◌, min}
use mathlib.Core.Path.{◌≡◌, refl, ap, sym, ◌∙◌}
use mathlib.Core.Bool.{Bool, true, false, cond}
use mathlib.Core.List.{List, ◌++◌}
use lib.Dec.{ltb}
use lib.ListN.{length, take, drop, replicate, length-replicate, length-append}
use lib.Seq.{sets-eq, take_all, length-take-le}
use borrow.Author.Tests.{le-ltb, eq-eqb, ltb-true, ltb-false}
use native.Mathlib.Nat.{zero-add}
use native.Mathlib.Omega.{arith}
use Rattle.refusals.specs.declared.Refusal.{Refusal}
use Rattle.refusals.specs.Meaning.{none, numbers}
use Rattle.refusals.proofs.Checks.{kind_refuses, refusal_counts}
use Rattle.answers.specs.Meaning.{Reply}
use Rattle.situations.specs.Meaning.{situation_at}
use Rattle.situations.proofs.Silent.{silent_sound}
use Rattle.tables.specs.Meaning.{TableRead, table_of}
use Rattle.tables.proofs.Accepted.{read_accepted}
use Rattle.accepting.proofs.TableEncoding.{read_formed, read_consistent}
use Rattle.formula.specs.Meaning.{table_nodes}
use Rattle.nodes.specs.Meaning.{evaluate_of}
use Rattle.compiler.specs.declared.Sizes.{Sizes}
use Rattle.compiler.specs.Meaning.{Compiled, accept_compiled, compile_of, written_of}
use Rattle.selection.proofs.Replies.{accepted_read, accepted_reply_lem, accepted_nodes, accepted_fits}
use Rattle.selection.proofs.Trees.{tree_answers}
use Rattle.steps.specs.Meaning.{first_situation}
use Rattle.growth.specs.declared.Verdict.{Verdict}
use Rattle.growth.specs.Meaning.{Growth, answer_at, without, shown, verdict_told, growth_of}
use Rattle.text.specs.declared.pages.Page.{Page}
use Rattle.text.specs.Meaning.{Printed, Wrote, refusal_line}
use Rattle.text.proofs.Printing.{wrote_then}
use Rattle.lines.specs.Meaning.{count_lines, growth_line}
use Rattle.judging.specs.Meaning.{text_of}
use Rattle.judging.proofs.Lengths.{text_of-length}

-- the check refuses no array that evaluates
check_accepts : (nodes : List ℕ) (n : ℕ) → (evaluate_of nodes (replicate n 0)).refusal.number ≡ 0 → (growth_of nodes n).refusal.number ≡ 0
unfolding growth_of
check_accepts nodes n h = rw (eq-eqb (evaluate_of nodes (replicate n 0)).refusal.number 0 h) (go (ltb (first_situation (answer_at nodes) n) (4 ^ n)))
  where
    go :
        (b : Bool) →
        (cond b (shown (answer_at nodes) (situation_at n (first_situation (answer_at nodes) n))) (without none 1)).refusal.number ≡ 0
    go true = refl
    go false = refl

-- the nodes are compiled into a buffer of 4,223 bytes
module _ (t b : List ℕ) (room : length b ≡ 4223) (s : Sizes) (e : accept_compiled s ≡ compile_of t (length b)) where
  compiles : (compile_of t (length b)).refusal.number ≡ 0
  compiles = ap (λ (x : Compiled). x.refusal.number) (sym e)

  pub sizes_told : accept_compiled s ≡ compile_of t 4223
  sizes_told = e ∙ ap (compile_of t) room

  nodes_fit : s.nodes ≤ 4223
  nodes_fit =
      let fits = accepted_fits t b compiles in
      let same : s.nodes ≡ (compile_of t (length b)).nodes = ap (λ (x : Compiled). x.nodes) e in
      omega (arith, fits, same)

  pub nodes_inside : (nodes : List ℕ) → length nodes ≡ 4223 → s.nodes ≤ length nodes
  nodes_inside nodes l = let fits = nodes_fit in omega arith

  pub nodes_long : (nodes : List ℕ) → length nodes ≡ 4223 → s.nodes ≡ length (take s.nodes nodes)
  nodes_long nodes l = sym (length-take-le s.nodes nodes (nodes_inside nodes l))

  columns-are : s.columns ≡ (table_of t).columns
  columns-are =
      ap (λ (x : Compiled). x.columns) (e ∙ accepted_reply_lem t (length b) compiles)
      ∙ ap (λ (x : TableRead). x.columns) (read_accepted t (accepted_read t (length b) compiles)).reply

  nodes_evaluate : (evaluate_of (table_nodes (table_of t)) (replicate (table_of t).columns 0)).refusal.number ≡ 0
  nodes_evaluate =
      let read = accepted_read t (length b) compiles in
      let formed = read_formed t read in
      ap (λ (x : Reply). x.refusal.number)
      (tree_answers (table_of t) formed (read_consistent t read)
      (replicate (table_of t).columns 0)
      (rw (silent_sound (table_of t).columns formed.some-column formed.few-columns))
      (length-replicate {A = ℕ} (table_of t).columns 0))

  module _ {nodes : List ℕ} (f : nodes ≡ written_of t b) where
    growth-is : growth_of (take s.nodes nodes) s.columns ≡ growth_of (table_nodes (table_of t)) s.columns
    growth-is =
        let count : s.nodes ≡ (compile_of t (length b)).nodes = ap (λ (x : Compiled). x.nodes) e in
        let same : take s.nodes nodes ≡ table_nodes (table_of t) = rw (count, f) (accepted_nodes t b compiles) in
        ap (λ (l : List ℕ). growth_of l s.columns) same

    pub verdict_is : {g : Growth} → g ≡ growth_of (take s.nodes nodes) s.columns → g ≡ growth_of (table_nodes (table_of t)) s.columns
    verdict_is i = i ∙ growth-is

    pub never_refused : (x : Refusal) → without (numbers x) 0 ≡ growth_of (take s.nodes nodes) s.columns → ⊥
    never_refused x i =
        let number = ap (λ (g : Growth). g.refusal.number) (i ∙ growth-is) in
        refusal_counts x (number ∙ (rw columns-are (check_accepts (table_nodes (table_of t)) (table_of t).columns nodes_evaluate)))

-- the text of a table
pub text_refused : (t : List ℕ) (x : Refusal) {p q : Page} → numbers x ≡ (compile_of t 4223).refusal → Wrote p (refusal_line (numbers x)) q → Wrote p (text_of t) q
unfolding text_of
text_refused t x e w = rw (← e, kind_refuses x.kind) w

pub text_accepted :
    (t : List ℕ) (s : Sizes) (v : Verdict) {p q r : Page} →
    accept_compiled s ≡ compile_of t 4223 →
    verdict_told v ≡ growth_of (table_nodes (table_of t)) s.columns →
    Wrote p (count_lines (accept_compiled s)) q →
    Wrote q (growth_line (verdict_told v)) r →
    Wrote p (text_of t) r
unfolding text_of
text_accepted t s v e f w x = rw (← e, ← f) (wrote_then w x)

-- a lent buffer of 256 bytes or more
module _ (input lent : List ℕ) (h : 256 ≤ length lent) where
  pub part_length : {new : List ℕ} {r : ℕ} → Printed lent 0 (text_of (take 1024 input)) new r → r ≡ cond (ltb (length lent) 256) 0 (length (text_of (take 1024 input)))
  part_length v =
      let short = text_of-length (take 1024 input) in
      let e = v.ends in
      rw (le-ltb (length lent) 256 h) (omega arith)

  pub part_written :
      {new : List ℕ} {r : ℕ} →
      Printed lent 0 (text_of (take 1024 input)) new r →
      new ≡ cond (ltb (length lent) 256) lent (text_of (take 1024 input) ++ drop (length (text_of (take 1024 input))) lent)
  part_written v =
      let text : List ℕ = text_of (take 1024 input) in
      let fits : 0 + length text ≤ length lent = let short = text_of-length (take 1024 input) in omega arith in
      v.holds ∙ sets-eq text lent 0 fits ∙ (rw (zero-add (length text), le-ltb (length lent) 256 h))

-- the bytes judged
judged_part : (input : List ℕ) {n : ℕ} → n ≡ min (length input) 1024 → take n input ≡ take 1024 input
judged_part input {n} e = go (ltb (length input) 1024) refl
  where
    go : (b : Bool) → ltb (length input) 1024 ≡ b → take n input ≡ take 1024 input
    go true h = let l = ltb-true (length input) 1024 h in take_all n input (omega arith) ∙ sym (take_all 1024 input (omega arith))
    go false h =
        let l = ltb-false (length input) 1024 h in
        let same : n ≡ 1024 = omega arith in
        ap (λ k. take k input) same

-- the text on a page of the lent buffer
module _ (input lent : List ℕ) (h : 256 ≤ length lent) {n : ℕ} (e : n ≡ min (length input) 1024) {new : List ℕ} {r : ℕ} (v : Printed lent 0 (text_of (take n input)) new r) where
  judged_printed : Printed lent 0 (text_of (take 1024 input)) new r
  judged_printed = rw (judged_part input e) at v

  pub judged_length : r ≡ cond (ltb (length lent) 256) 0 (length (text_of (take 1024 input)))
  judged_length = part_length input lent h judged_printed

  pub judged_written : new ≡ cond (ltb (length lent) 256) lent (text_of (take 1024 input) ++ drop (length (text_of (take 1024 input))) lent)
  judged_written = part_written input lent h judged_printed

-- the text stands within the lent buffer
module _
    (input lent : List ℕ)
    {new : List ℕ}
    {r : ℕ}
    (e : r ≡ cond (ltb (length lent) 256) 0 (length (text_of (take 1024 input))))
    (f : new ≡ cond (ltb (length lent) 256) lent (text_of (take 1024 input) ++ drop (length (text_of (take 1024 input))) lent)) where
  pub text-inside : r ≤ length new
  text-inside = rw (e, f) (go (ltb (length lent) 256) (text_of (take 1024 input)))
    where
      go : (b : Bool) (text : List ℕ) → cond b 0 (length text) ≤ length (cond b lent (text ++ drop (length text) lent))
      go true text = omega arith
      go false text = rw length-append (omega arith)

  pub text_part : r ≡ length (take r new)
  text_part = sym (length-take-le r new text-inside)
