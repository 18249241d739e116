-- How long a record is: no longer than its name and 1,157 bytes, so a buffer that has as many holds it whole.
use Prim.Native.Nat.{ℕ, suc, ◌+◌, ◌-◌, ◌*◌, ◌^◌, ◌≤◌, ◌<◌}
use mathlib.Core.Path.{◌≡◌, refl, ◌∙◌}
use mathlib.Core.Bool.{Bool, true, false, cond}
use mathlib.Core.List.{List, [], ◌∷◌, ◌++◌}
use lib.Dec.{ltb, eqb}
use lib.ListN.{length, take, drop, length-append}
use lib.Seq.{sets-eq, take-append_seam}
use borrow.Author.Tests.{ltb-true, ltb-false}
use native.Mathlib.Nat.{min-eq_right}
use native.Mathlib.Omega.{arith}
use Rattle.refusals.specs.Meaning.{Numbers}
use Rattle.text.specs.Meaning.{Printed, refusal_line, SPACE, LINE_FEED, number_text, refused_word}
use Rattle.text.proofs.Decimals.{number_text-below, number_text-length}
use Rattle.counts.specs.declared.Counts.{Counts}
use Rattle.reports.specs.Meaning.{name_line, total_lines, number_line, number_lines, record_text, batch_line}

-- a line for a number: one byte less below ten
line-length : (number n digits : ℕ) → number < 10 ^ suc digits → length (number_line number n) ≤ 30 + suc digits
unfolding number_line
line-length number n digits h = go (eqb n 0)
  where
    go : (b : Bool) → length (cond b [] (refused_word ++ number_text number SPACE ++ number_text n LINE_FEED)) ≤ 30 + suc digits
    go true = omega arith
    go false = simp length-append (omega (arith, number_text-below digits number SPACE h, number_text-length n LINE_FEED))

ten : (number n : ℕ) → number < 100 → length (number_line number n) + (10 - number) ≤ 32 + (10 - suc number)
ten number n h = go (ltb number 10) refl
  where
    go : (b : Bool) → ltb number 10 ≡ b → length (number_line number n) + (10 - number) ≤ 32 + (10 - suc number)
    go true e = let l : number < 10 = ltb-true number 10 e in omega (arith, line-length number n 0 (omega arith))
    go false e = let l : 10 ≤ number = ltb-false number 10 e in omega (arith, line-length number n 1 (omega arith))

lines_length : (number : ℕ) (ns : List ℕ) → number + length ns ≤ 100 →
    length (number_lines number ns) + (10 - number) ≤ 32 * length ns + (10 - (number + length ns))
unfolding number_lines
lines_length number [] h = omega arith
lines_length number (n ∷ ns) h =
    let here = ten number n (omega arith) in
    let later = lines_length (suc number) ns (omega arith) in
    simp length-append (omega (arith, here, later))

pub record_length : (name : List ℕ) (c : Counts) → length c.numbers ≡ 32 → length (record_text name c) ≤ length name + 1157
unfolding record_text name_line total_lines
record_length name c e =
    let lines = lines_length 0 c.numbers (omega arith) in
    simp length-append
    (omega (
      arith,
      lines,
      e,
      number_text-length c.silent LINE_FEED,
      number_text-length c.bury LINE_FEED,
      number_text-length c.keep LINE_FEED,
      number_text-length c.clash LINE_FEED,
      number_text-length c.refused LINE_FEED,
    ))

pub batch_length : (r : Numbers) → length (batch_line r) ≤ 77
unfolding batch_line refusal_line
batch_length r =
    simp length-append
    (omega (arith, number_text-length r.number SPACE, number_text-length r.place SPACE, number_text-length r.second LINE_FEED))

-- text that has room stands there whole
pub printed_whole : (text old new : List ℕ) (next : ℕ) → length text ≤ length old → Printed old 0 text new next → take next new ≡ text
printed_whole text old new next h p =
    let e : next ≡ length text = p.ends ∙ min-eq_right (omega arith) ∙ (let z : 0 + length text ≡ length text = omega arith in z) in
    rw (e, p.holds, sets-eq text old 0 (omega arith)) (take-append_seam text (drop (0 + length text) old))
