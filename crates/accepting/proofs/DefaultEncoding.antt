-- A default and its bytes: at the front of rows it has no fault and is read back, and one that is read is the bytes of what is read.
use Prim.Native.Nat.{ℕ, ◌≤◌}
use mathlib.Core.Path.{◌≡◌, refl, ap}
use mathlib.Core.Bool.{Bool, true, false}
use mathlib.Core.List.{List, [], ◌∷◌, ◌++◌}
use lib.ListN.{length, drop, get_or}
use borrow.Author.Tests.{le-ltb}
use native.Mathlib.Omega.{arith}
use Rattle.fields.specs.Meaning.{field, tag, size}
use Rattle.answers.specs.Meaning.{number}
use Rattle.answers.proofs.Claims.{number_from, from_number_lem, number_small}
use Rattle.defaults.specs.Meaning.{Default, unwritten, written, default_field, has_default, default_size, default_in, default_fault}
use Rattle.defaults.proofs.DefaultFields.{default_fault-sound}

-- a field of one byte at the front of bytes
pub one_byte : (k : ℕ) (t : List ℕ) → tag t ≡ k → size t ≡ 1 → 4 ≤ length t → field k (get_or t 3 0 ∷ []) ++ drop 4 t ≡ t
one_byte k [] e s l = absurd (omega arith)
one_byte k (x ∷ []) e s l = absurd (omega arith)
one_byte k (x ∷ y ∷ []) e s l = absurd (omega arith)
one_byte k (x ∷ y ∷ z ∷ []) e s l = absurd (omega arith)
one_byte k (x ∷ y ∷ z ∷ u ∷ t) e s l =
    let high : y ≡ 0 = omega arith in
    let low : z ≡ 1 = omega arith in
    rw (e, high, low)

pub default_field-short : (d : Default) → length (default_field d) ≤ 4
default_field-short unwritten = omega arith
default_field-short (written a) = omega arith

-- bytes that can stand behind a default: where none is written they do not start with one
abbrev pub Apart : Default → List ℕ → Type 0
Apart unwritten rows = has_default rows ≡ false
Apart (written a) rows = Unit {0}

-- what is known of a default at the front of such bytes
pub record Written (d : Default) (rows part : List ℕ) : Type 0 where
  pub passes : (default_fault part).number ≡ 0
  pub read : default_in part ≡ d
  pub long : default_size part ≡ length (default_field d)
  pub behind : drop (default_size part) part ≡ rows

pub write_default : (d : Default) (rows : List ℕ) → Apart d rows → Written d rows (default_field d ++ rows)
unfolding default_fault
write_default unwritten rows h = record { passes = rw h; read = rw h; long = rw h; behind = rw h }
write_default (written a) rows h =
    let bytes : List ℕ = field 3 (number a ∷ []) ++ rows in
    record {
      passes =
          rw (
            le-ltb (length bytes) 3 (omega arith),
            le-ltb (length bytes) 4 (omega arith),
            le-ltb 3 (number a) (number_small a),
          );
      read = ap written (number_from a);
      long = refl;
      behind = refl;
    }

pub read_default : (part : List ℕ) → (default_fault part).number ≡ 0 → default_field (default_in part) ++ drop (default_size part) part ≡ part
read_default part h = go (has_default part) refl
  where
    go : (b : Bool) → has_default part ≡ b → default_field (default_in part) ++ drop (default_size part) part ≡ part
    go false e = rw e
    go true e =
        let s = default_fault-sound part e h in
        rw (e, from_number_lem (get_or part 3 0) s.an_answer) (one_byte 3 part s.default-tag s.one_byte s.long)
