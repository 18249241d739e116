-- No text is longer than 256 bytes.
use Prim.Native.Nat.{ℕ, zero, suc, ◌*◌, ◌^◌, ◌≤◌, ◌<◌}
use mathlib.Core.Path.{◌≡◌, refl, ap, ◌∙◌}
use mathlib.Core.Bool.{Bool, true, false, cond}
use mathlib.Core.List.{List, [], ◌∷◌, ◌++◌, map}
use lib.Dec.{ltb, eqb}
use lib.ListN.{length, take, replicate, length-append}
use borrow.Author.Tests.{eqb-true}
use native.Mathlib.Omega.{arith}
use Rattle.refusals.specs.Meaning.{Numbers, none}
use Rattle.answers.specs.Meaning.{number}
use Rattle.answers.specs.declared.Answer.{Answer}
use Rattle.answers.proofs.Every.{each}
use Rattle.situations.specs.Meaning.{situation_at}
use Rattle.situations.proofs.Numbers.{situation_at-length}
use Rattle.nodes.specs.Meaning.{evaluate_of}
use Rattle.faults.specs.Meaning.{columns_of}
use Rattle.tables.specs.Meaning.{TableRead, table_of}
use Rattle.tables.proofs.Accepted.{read_accepted}
use Rattle.formula.specs.Meaning.{table_nodes}
use Rattle.compiler.specs.Meaning.{Compiled, compile_of}
use Rattle.selection.proofs.Replies.{accepted_read, accepted_reply_lem}
use Rattle.steps.specs.Meaning.{first_situation}
use Rattle.growth.specs.Meaning.{Growth, answer_at, without, shown, growth_of}
use Rattle.text.specs.Meaning.{refusal_line}
use Rattle.text.proofs.Decimals.{number_text-below, number_text-length}
use Rattle.lines.specs.Meaning.{growth_yes, growth_no, count_lines, answers_text, raised_text, growth_line}
use Rattle.judging.specs.Meaning.{text_of}

refusal_line-length : (r : Numbers) → length (refusal_line r) ≤ 71
unfolding refusal_line
refusal_line-length r =
    simp length-append
    (omega (arith, number_text-length r.number 32, number_text-length r.place 32, number_text-length r.second 10))

count_lines-length : (q : Compiled) → length (count_lines q) ≤ 82
unfolding count_lines
count_lines-length q =
    simp length-append
    (omega (arith, number_text-length q.columns 10, number_text-length q.rows 10, number_text-length q.nodes 10))

raised_text-length : (column answer : ℕ) → length (raised_text column answer) ≤ 52
unfolding raised_text
raised_text-length column answer =
    simp length-append (omega (arith, number_text-length column 32, number_text-length answer 10))

-- an answer has one digit
number_small : (a : Answer) → number a < 10 ^ 1
number_small a = omega (arith, each (λ a. number a ≤ 3) (omega arith, omega arith, omega arith, omega arith) a)

answers_text-length : (s : List Answer) → length (answers_text (map number s)) ≤ 2 * length s
unfolding answers_text
answers_text-length [] = omega arith
answers_text-length (a ∷ s) =
    simp length-append (omega (arith, number_text-below 0 (number a) 32 (number_small a), answers_text-length s))

take-front :
    (s : List Answer) (room : ℕ) (behind : List ℕ) → length s ≤ room → take (length s) (take room (map number s ++ behind)) ≡ map number s
take-front [] room behind h = refl
take-front (a ∷ s) zero behind h = absurd (omega arith)
take-front (a ∷ s) (suc room) behind h = ap (λ l. number a ∷ l) (take-front s room behind (omega arith))

-- the check shows a situation of at most as many columns as there are
module _ (nodes : List ℕ) (n : ℕ) where
  growth_of-told : n ≤ 6 → length (answers_text (take (growth_of nodes n).situation.length (growth_of nodes n).situation.answers)) ≤ 2 * n
  unfolding growth_of answers_text
  growth_of-told few =
      go (eqb (evaluate_of nodes (replicate n 0)).refusal.number 0)
      (ltb (first_situation (answer_at nodes) n) (4 ^ n))
      (first_situation (answer_at nodes) n)
    where
      told : Growth → ℕ
      told g = length (answers_text (take g.situation.length g.situation.answers))

      go :
          (b c : Bool) (w : ℕ) →
          told (cond b (cond c (shown (answer_at nodes) (situation_at n w)) (without none 1)) (without (evaluate_of nodes (replicate n 0)).refusal 0))
          ≤ 2 * n
      go true true w =
          let short = answers_text-length (situation_at n w) in
          let long : length (situation_at n w) ≡ n = situation_at-length n w in
          rw (take-front (situation_at n w) 6 (replicate 6 0) (omega arith)) (omega arith)
      go true false w = omega arith
      go false c w = omega arith

  growth_line-length : n ≤ 6 → length (growth_line (growth_of nodes n)) ≤ 86
  unfolding growth_line
  growth_line-length few =
      go (eqb (growth_of nodes n).verdict 1)
      (answers_text (take (growth_of nodes n).situation.length (growth_of nodes n).situation.answers))
      (raised_text (growth_of nodes n).column (growth_of nodes n).answer)
      (let told = growth_of-told few in omega arith)
      (raised_text-length (growth_of nodes n).column (growth_of nodes n).answer)
    where
      go : (yes : Bool) (told raised : List ℕ) → length told ≤ 12 → length raised ≤ 52 → length (cond yes growth_yes (growth_no ++ told ++ raised)) ≤ 86
      go true told raised h k = omega arith
      go false told raised h k = simp length-append (omega arith)

columns-few : (t : List ℕ) (room : ℕ) → (compile_of t room).refusal.number ≡ 0 → (compile_of t room).columns ≤ 6
columns-few t room h =
    let read = read_accepted t (accepted_read t room h) in
    let same : (compile_of t room).columns ≡ columns_of t =
    ap (λ (x : Compiled). x.columns) (accepted_reply_lem t room h) ∙ ap (λ (x : TableRead). x.columns) read.reply in
    rw same read.few-columns

pub text_of-length : (t : List ℕ) → length (text_of t) ≤ 256
unfolding text_of
text_of-length t = go (eqb (compile_of t 4223).refusal.number 0) refl
  where
    q : Compiled
    q = compile_of t 4223

    go :
        (accepted : Bool) →
        eqb q.refusal.number 0 ≡ accepted →
        length (cond accepted (count_lines q ++ growth_line (growth_of (table_nodes (table_of t)) q.columns)) (refusal_line q.refusal)) ≤ 256
    go true e =
        let few = columns-few t 4223 (eqb-true q.refusal.number 0 e) in
        simp length-append (omega (arith, count_lines-length q, growth_line-length (table_nodes (table_of t)) q.columns few))
    go false e = omega (arith, refusal_line-length q.refusal)
