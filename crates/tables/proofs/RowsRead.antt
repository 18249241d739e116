-- One row after another: the laws of reading a part from its front, and the loop that does it.
use Prim.Native.Nat.{ℕ, zero, suc, ◌+◌, ◌-◌, ◌%◌, ◌≤◌, ◌<◌}
use mathlib.Core.Path.{◌≡◌, ap, sym, ◌∙◌}
use mathlib.Core.List.{List}
use lib.ListN.{length, take, drop, length-drop}
use lib.Seq.{drop-drop}
use borrow.Author.Tests.{eq-eqb, ne_eqb}
use native.Mathlib.Omega.{arith}
use Rattle.std.specs.Prelude.{Result, Err}
use Rattle.refusals.specs.Meaning.{Numbers, numbers}
use Rattle.refusals.specs.declared.Refusal.{Refusal}
use Rattle.refusals.proofs.Checks.{refusal_counts}
use Rattle.fields.proofs.Rests.{rest-is}
use Rattle.rows.specs.Meaning.{row_width}
use Rattle.faults.specs.Meaning.{row_fault}
use Rattle.tables.specs.Meaning.{refuse_table, accept_table, rows_from, table_read}
use Rattle.tables.specs.declared.Read.{Read}
use Rattle.faults.specs.Inside.{SoundRow}
use Rattle.tables.specs.Inside.{Reading}
use Rattle.faults.proofs.RowFaults.{row_fault-sound}

pub rows_from-end : (left n at : ℕ) (rows : List ℕ) → length rows ≡ 0 → rows_from left n at rows ≡ accept_table n (64 - left)
unfolding rows_from
rows_from-end zero n at rows h = rw (eq-eqb (length rows) 0 h)
rows_from-end (suc left) n at rows h = rw (eq-eqb (length rows) 0 h)

pub rows_from-stop :
    (left n at : ℕ) (rows : List ℕ) →
    (length rows ≡ 0 → ⊥) →
    ((row_fault left n at rows).number ≡ 0 → ⊥) →
    rows_from left n at rows ≡ refuse_table (row_fault left n at rows)
unfolding rows_from
rows_from-stop zero n at rows h k = rw (ne_eqb (length rows) 0 h)
rows_from-stop (suc left) n at rows h k = rw (ne_eqb (length rows) 0 h, ne_eqb (row_fault (suc left) n at rows).number 0 k)

pub rows_from-pass :
    (left n at : ℕ) (rows : List ℕ) →
    (length rows ≡ 0 → ⊥) →
    (row_fault left n at rows).number ≡ 0 →
    rows_from left n at rows ≡ rows_from (left - 1) n (at + row_width n) (drop (row_width n) rows)
unfolding rows_from
rows_from-pass zero n at rows h k = let s = row_fault-sound zero n at rows k in absurd (omega arith)
rows_from-pass (suc left) n at rows h k =
    let e : suc left - 1 ≡ left = omega arith in
    rw (e, ne_eqb (length rows) 0 h, eq-eqb (row_fault (suc left) n at rows).number 0 k)

-- the loop over the rows
module _ (n start : ℕ) (t : List ℕ) (at left : ℕ) (w : Reading n start t at left) where
  pub reading_all : length t ≤ at → accept_table n (64 - left) ≡ rows_from 64 n start (drop start t)
  reading_all l = sym (rows_from-end left n at (drop at t) (simp length-drop (omega arith))) ∙ w.rest

  module _ (l : at < length t) {r : Numbers} (e : r ≡ row_fault left (n % 8) (at % 1024) (take (length t - at) (drop at t))) where
    some : length (drop at t) ≡ 0 → ⊥
    some z = absurd (omega (arith, z, length-drop at t))

    fault-is : r ≡ row_fault left n at (drop at t)
    fault-is =
        let narrow = w.narrow in
        let near = w.near in
        let columns : n % 8 ≡ n = omega arith in
        let place : at % 1024 ≡ at = omega arith in
        rw (columns, place, rest-is at t) at e

    number_is : r.number ≡ (row_fault left n at (drop at t)).number
    number_is = ap (λ (x : Numbers). x.number) fault-is

    pub reading_stop :
        {x : Refusal} (q : Result Read Refusal) →
        q ≡ Err x →
        numbers x ≡ r →
        table_read q ≡ rows_from 64 n start (drop start t)
    reading_stop {x} q k m =
        let counts = refusal_counts x in
        let number : (numbers x).number ≡ r.number = ap (λ (y : Numbers). y.number) m in
        ap table_read k ∙ ap refuse_table (m ∙ fault-is)
        ∙ sym (rows_from-stop left n at (drop at t) some (λ z. counts (number ∙ number_is ∙ z)))
        ∙ w.rest

    module _ (h : r.number ≡ 0) where
      sound : SoundRow left n at (drop at t)
      sound = row_fault-sound left n at (drop at t) (sym number_is ∙ h)

      pub reading_left : 1 ≤ left
      reading_left = sound.more

      pub reading_more : Reading n start t (at + row_width n) (left - 1)
      reading_more =
          let more = reading_left in
          let narrow = w.narrow in
          let near = w.near in
          let most = w.few in
          record {
            narrow = narrow;
            near = omega arith;
            few = omega arith;
            rest =
                rw (← drop-drop (row_width n) at t)
                (sym (rows_from-pass left n at (drop at t) some (sym number_is ∙ h)) ∙ w.rest);
          }
