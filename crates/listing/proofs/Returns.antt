-- Each way out: the reply and the lent bytes are those of the definitions.
use Prim.Native.Nat.{ℕ, ◌+◌, ◌*◌, ◌/◌, ◌≤◌, ◌<◌}
use mathlib.Core.Path.{◌≡◌, refl, ap, ap₂, subst, sym, ◌∙◌}
use mathlib.Core.Bool.{Bool, true, false, cond}
use mathlib.Core.List.{List, [], ◌∷◌, ◌++◌}
use lib.Dec.{ltb}
use lib.ListN.{length, drop, length-append}
use lib.Seq.{sets-eq}
use borrow.Author.Tests.{lt-ltb, le-ltb, ne_eqb, ltb-false}
use native.Mathlib.Nat.{zero-add, div-eq_of_eq-mul_left}
use native.Mathlib.Omega.{arith}
use Rattle.lent.specs.Inside.{Wrote}
use Rattle.lent.proofs.Laws.{wrote_then}
use Rattle.std.specs.Prelude.{Result, Err}
use Rattle.refusals.specs.Meaning.{Numbers, none, refused, numbers, kind_number, SITUATION, ROWS, ROOM}
use Rattle.refusals.specs.declared.Refusal.{Refusal}
use Rattle.refusals.proofs.Checks.{refusal_counts}
use Rattle.answers.specs.declared.Answer.{Answer}
use Rattle.situations.specs.Meaning.{weight}
use Rattle.base4.specs.Meaning.{situations_of}
use Rattle.base4.proofs.Shifts.{weight-small}
use Rattle.tables.specs.Meaning.{table_bytes}
use Rattle.text.specs.Meaning.{Printed}
use Rattle.listing.specs.Meaning.{Written, listed_rows, listed, wrote, give_written, refuse_written, reply_of, list_of, written_of}
use Rattle.listing.specs.Inside.{limit, listed_from, placed}
use Rattle.listing.proofs.Rows.{from_length, rows_short}
use Rattle.listing.proofs.Walk.{printed_wrote}

-- the reply to a table of so many rows and bytes
module _ (rows needed room : ℕ) {x : Numbers} where
  pub reply-rows : {q : Written} → 64 < rows → x ≡ refused ROWS rows → q ≡ refuse_written x → q ≡ reply_of rows needed room
  unfolding reply_of
  reply-rows l i j = rw (lt-ltb 64 rows l, ← i) j

  module _ (few : rows ≤ 64) where
    pub reply-room : {q : Written} → room < needed → x ≡ refused ROOM needed → q ≡ refuse_written x → q ≡ reply_of rows needed room
    unfolding reply_of
    reply-room l i j = rw (le-ltb 64 rows few, lt-ltb room needed l, ← i) j

    pub reply_accepts : needed ≤ room → x ≡ none → record { refusal = x; length = needed } ≡ reply_of rows needed room
    unfolding reply_of
    reply_accepts l i = rw (le-ltb 64 rows few, le-ltb room needed l, i)

-- What `reply` returns.
pub ruleset reply_laws = (reply-rows, reply-room, reply_accepts)

reply-fits : (rows needed room : ℕ) → (reply_of rows needed room).refusal.number ≡ 0 → needed ≤ room
unfolding reply_of
reply-fits rows needed room = go (ltb 64 rows) (ltb room needed) refl
  where
    reply : Bool → Bool → Written
    reply many long =
        cond many (refuse_written (refused ROWS rows))
        (cond long (refuse_written (refused ROOM needed)) (record { refusal = none; length = needed }))

    go : (many long : Bool) → ltb room needed ≡ long → (reply many long).refusal.number ≡ 0 → needed ≤ room
    go true long e z = absurd (omega (arith, z))
    go false true e z = absurd (omega (arith, z))
    go false false e z = ltb-false room needed e

module _ (f : List Answer → Answer) (n : ℕ) where
  abbrev count : ℕ
  count = length (listed_rows f (situations_of n))

  abbrev bytes : List ℕ
  bytes = table_bytes (listed f n)

  bytes_are : bytes ≡ (1 ∷ 0 ∷ 1 ∷ n ∷ []) ++ listed_from f n 0 (weight n)
  unfolding listed_from
  bytes_are = refl

  pub bytes-long : length bytes ≡ 4 + count * (n + 4)
  bytes-long = ap length bytes_are ∙ (simp length-append (let rows = from_length f n 0 (weight n) in omega arith))

  -- a call with no such columns
  module _ (room : ℕ) {x : Numbers} {q : Written} (i : x ≡ refused SITUATION n) (j : q ≡ refuse_written x) where
    pub list-under : n < 1 → q ≡ list_of f n room
    unfolding list_of
    list-under l = rw (lt-ltb n 1 l, ← i) j

    pub list_over : 6 < n → q ≡ list_of f n room
    unfolding list_of
    list_over l = rw (le-ltb n 1 (omega arith), lt-ltb 6 n l, ← i) j

    pub list_nothing : (lent : List ℕ) → lent ≡ written_of (listed f n) q lent
    unfolding written_of
    list_nothing lent = rw (j, i)

  -- all rows, counted and written
  module _ (few : n ≤ 6) where
    count-short : count * (n + 4) ≤ 40960
    count-short = rows_short f n 0 (weight n) few (weight-small n)

    pub needed_short : {rows : ℕ} → rows ≡ count → rows * (n + 4) ≤ 40960
    needed_short e = rw e count-short

    pub count_room : 0 + length (listed_from f n 0 (weight n)) ≤ limit
    count_room = rw (from_length f n 0 (weight n)) (let short = count-short in omega arith)

    pub count-is : {b c : List ℕ} {r : ℕ} → Wrote b 0 (listed_from f n 0 (weight n)) c r → r / (n + 4) ≡ count
    count-is v =
        let long = from_length f n 0 (weight n) in
        let e = v.ends in
        div-eq_of_eq-mul_left (omega arith) (omega arith)

    module _ {b c : List ℕ} {first : ℕ} (p : Printed b 0 (1 ∷ 0 ∷ 1 ∷ n ∷ []) c first) where
      pub table_room : first + length (listed_from f n 0 (weight n)) ≤ limit
      table_room = rw (from_length f n 0 (weight n)) (let short = count-short in let e = p.ends in omega arith)

      pub table_placed :
          length bytes ≤ length b → {d : List ℕ} {r : ℕ} → Wrote c first (listed_from f n 0 (weight n)) d r → d ≡ placed bytes b
      table_placed fits {d} v =
          let whole : List ℕ = (1 ∷ 0 ∷ 1 ∷ n ∷ []) ++ listed_from f n 0 (weight n) in
          let long = ap length bytes_are in
          let all = wrote_then (printed_wrote p (omega arith)) v in
          let e = all.ends in
          subst (λ x. d ≡ placed x b) (sym bytes_are)
          (all.holds (omega arith) ∙ sets-eq whole b 0 (omega arith) ∙ ap (λ k. whole ++ drop k b) (zero-add (length whole)))

  -- the reply of a call with rows counted, and what it writes
  module _
      (some : 1 ≤ n) (few : n ≤ 6) {rows : ℕ} (room : ℕ) {q : Written}
      (counted : rows ≡ count) (e : q ≡ reply_of rows (4 + rows * (n + 4)) room)
    where
      needed_is : 4 + rows * (n + 4) ≡ length bytes
      needed_is = rw counted (sym bytes-long)

      replies : q ≡ list_of f n room
      unfolding list_of
      replies =
          e ∙ ap₂ (λ r needed. reply_of r needed room) counted needed_is ∙ (rw (le-ltb n 1 some, le-ltb 6 n few))

      fits : q.refusal.number ≡ 0 → length bytes ≤ room
      fits z = rw (← needed_is) (reply-fits rows (4 + rows * (n + 4)) room (rw e at z))

  -- the same of results, refused and given
  module _ (some : 1 ≤ n) (few : n ≤ 6) {rows : ℕ} (room : ℕ) (counted : rows ≡ count) where
    module _ (r : Result ℕ Refusal) (x : Refusal) (e : refuse_written (numbers x) ≡ reply_of rows (4 + rows * (n + 4)) room) (i : r ≡ Err x) where
      pub list_refused-replies : wrote r ≡ list_of f n room
      list_refused-replies = ap wrote i ∙ replies some few room counted e

      pub list-refused : (lent : List ℕ) → lent ≡ written_of (listed f n) (wrote r) lent
      unfolding written_of
      list-refused lent = rw (i, ne_eqb (kind_number x.kind) 0 (refusal_counts x))

    module _ {m : ℕ} (e : give_written m ≡ reply_of rows (4 + rows * (n + 4)) room) where
      pub list_given : give_written m ≡ list_of f n room
      list_given = replies some few room counted e

      pub list-fits : length bytes ≤ room
      list-fits = fits some few room counted e refl

      pub list_written : (lent : List ℕ) {new : List ℕ} → new ≡ placed bytes lent → new ≡ written_of (listed f n) (give_written m) lent
      unfolding written_of
      list_written lent w = w
