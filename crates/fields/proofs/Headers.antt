-- A byte that is not there, and the test of a value's end from the bytes behind the header.
use Prim.Native.Nat.{ℕ, ◌+◌, ◌-◌, ◌≤◌, ◌<◌}
use mathlib.Core.Path.{◌≡◌, refl, sym}
use mathlib.Core.Bool.{Bool, true, false}
use mathlib.Core.List.{List}
use lib.Dec.{ltb}
use lib.ListN.{length, get_or, get_or-eq_default}
use borrow.Author.Tests.{lt-ltb, le-ltb, ltb-true, ltb-false}
use native.Mathlib.Omega.{arith}
use Rattle.fields.specs.Meaning.{short_value}

pub byte-none : (s : List ℕ) (i : ℕ) → length s ≤ i → 0 ≡ get_or s i 0
byte-none s i h = sym (get_or-eq_default s 0 h)

pub short_value_header : (size : ℕ) (s : List ℕ) → length s < 3 → true ≡ short_value size s
short_value_header size s h = sym (lt-ltb (length s) (3 + size) (omega arith))

pub short_value-behind : (size : ℕ) (s : List ℕ) → 3 ≤ length s → ltb (length s - 3) size ≡ short_value size s
short_value-behind size s h = go (ltb (length s) (3 + size)) refl
  where
    go : (b : Bool) → short_value size s ≡ b → ltb (length s - 3) size ≡ b
    go true e = lt-ltb (length s - 3) size (let l = ltb-true (length s) (3 + size) e in omega arith)
    go false e = le-ltb (length s - 3) size (let l = ltb-false (length s) (3 + size) e in omega arith)
