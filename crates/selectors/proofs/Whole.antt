-- A selector as it is written: its first column and turns, its second ones, its ending; and that it is the formula's.
use Prim.Native.Nat.{ℕ, zero, suc, ◌+◌, ◌-◌, ◌≤◌, ◌<◌}
use mathlib.Core.Path.{◌≡◌, refl, ap, sym, ◌∙◌}
use mathlib.Core.List.{List, ◌++◌, append_assoc}
use lib.ListN.{length, length-append}
use native.Mathlib.Omega.{arith}
use Rattle.lent.specs.Meaning.{WroteWhole}
use Rattle.lent.specs.Inside.{Wrote}
use Rattle.lent.proofs.Laws.{wrote_then, placed-none, placed-counted, placed-written}
use Rattle.answers.specs.Meaning.{number, from_number}
use Rattle.answers.specs.declared.Answer.{Answer}
use Rattle.answers.specs.declared.Answer.TheVariants.{Silent, Bury, Keep, Clash}
use Rattle.formula.specs.Meaning.{turned, selector}
use Rattle.formula.proofs.Sizes.{turned-size}
use Rattle.selectors.specs.Inside.{second_turns, ending, selector_with, size_with}

second-few : (j : Answer) {k r : ℕ} → k ≤ 3 → r ≡ second_turns k j → r ≤ 3
second-few Silent l e = omega arith
second-few Bury l e = omega arith
second-few Keep l e = omega arith
second-few Clash l e = omega arith

with_size : (column k : ℕ) (j : Answer) → length (selector_with column k j) ≡ size_with k j
unfolding selector_with
with_size column k j =
    let first = turned-size column k in
    let second = turned-size column (second_turns k j) in
    let rest = length-append (turned column (second_turns k j)) (ending j) in
    length-append (turned column k) (turned column (second_turns k j) ++ ending j) ∙ (omega arith)

-- each part has room where the whole has
pub first-within :
    (column k : ℕ) (j : Answer) (b : List ℕ) (at : ℕ) →
    at + length (selector_with column k j) ≤ length b →
    at + 1 + k ≤ length b
first-within column k j b at room = let size = with_size column k j in omega arith

module _
    (column k : ℕ)
    (j : Answer)
    {b c : List ℕ}
    {at m : ℕ}
    (v : Wrote b at (turned column k) c m)
    {r : ℕ}
    (g : r ≡ second_turns k j) where
  pub second_few_turns : k ≤ 3 → r ≤ 3
  second_few_turns l = second-few j l g

  pub second-within : at + length (selector_with column k j) ≤ length b → m + 1 + r ≤ length c
  second-within room =
      let size = with_size column k j in
      let first = turned-size column k in
      let p = v.ends in
      let q = v.long in
      omega arith

  module _ {d : List ℕ} {n : ℕ} (w : Wrote c m (turned column r) d n) where
    pub ending-within : at + length (selector_with column k j) ≤ length b → n + length (ending j) ≤ length d
    ending-within room =
        let rest = second-within room in
        let size = with_size column k j in
        let first = turned-size column k in
        let second = turned-size column r in
        let p = v.ends in
        let q = v.long in
        let s = w.ends in
        let t = w.long in
        omega arith

    pub whole-written : {e : List ℕ} {q : ℕ} → Wrote d n (ending j) e q → Wrote b at (selector_with column k j) e q
    unfolding selector_with
    whole-written u = wrote_then v (wrote_then (rw g at w) u)

-- it is the formula's
selector_parts : (column : ℕ) (a j : Answer) → (j ≡ Silent → ⊥) → selector column a j ≡ selector_with column (3 - number a) j
unfolding selector selector_with
selector_parts column a Silent h = absurd (h refl)
selector_parts column a Bury h = append_assoc (turned column (3 - number a)) (turned column (second_turns (3 - number a) Bury)) (ending Bury)
selector_parts column a Keep h = append_assoc (turned column (3 - number a)) (turned column (second_turns (3 - number a) Keep)) (ending Keep)
selector_parts column a Clash h = append_assoc (turned column (3 - number a)) (turned column (3 - number a)) (ending Clash)

number_less : (cell : ℕ) → 3 - number (from_number cell) ≡ 3 - cell
number_less zero = refl
number_less (suc zero) = refl
number_less (suc (suc zero)) = refl
number_less (suc (suc (suc n))) = omega arith

module _ (column cell o : ℕ) {j : Answer} (g : j ≡ from_number o) where
  pub silent_written : j ≡ Silent → (b : List ℕ) (at : ℕ) → WroteWhole b at (selector column (from_number cell) (from_number o)) b at
  unfolding selector
  silent_written e b at = rw (← g, e) (placed-none b at)

  module _ (h : j ≡ Silent → ⊥) {k n : ℕ} (e : k ≡ 3 - cell) (f : n ≡ size_with k j) where
    selector-is : selector column (from_number cell) (from_number o) ≡ selector_with column k j
    selector-is = rw (← g, e, ← number_less cell) (selector_parts column (from_number cell) j h)

    selector-long : length (selector column (from_number cell) (from_number o)) ≡ n
    selector-long = ap length selector-is ∙ with_size column k j ∙ sym f

    pub whole-within : (b : List ℕ) (at : ℕ) → at + n ≤ length b → at + length (selector_with column k j) ≤ length b
    whole-within b at l = rw (← selector-is, selector-long) l

    pub selector-counted :
        (b : List ℕ) (at : ℕ) →
        length b < at + n →
        WroteWhole b at (selector column (from_number cell) (from_number o)) b (at + n)
    selector-counted b at l =
        placed-counted b at (selector column (from_number cell) (from_number o)) (let long = selector-long in omega arith) l

    pub selector-written :
        {b c : List ℕ} {at r : ℕ} →
        at + n ≤ length b →
        Wrote b at (selector_with column k j) c r →
        WroteWhole b at (selector column (from_number cell) (from_number o)) c r
    selector-written {r = r} l w =
        let v = rw (← selector-is) at w in
        let long = selector-long in
        let ends = v.ends in
        placed-written v (omega arith)
