-- Numbers in two and in four bytes: writing, then reading gives the number, and reading, then writing the bytes.
use Prim.Native.Nat.{ℕ, zero, suc, ◌+◌, ◌*◌, ◌/◌, ◌%◌, ◌<◌}
use mathlib.Core.Path.{◌≡◌}
use mathlib.Core.List.{List, [], ◌∷◌, ◌++◌}
use native.Mathlib.Omega.{arith}
use lib.ListN.{get_or, drop}
use Rattle.fields.specs.Meaning.{two, four, two_bytes, four_bytes, Bytes}

pub two_write_read : (n : ℕ) → two (n / 256) (n % 256) ≡ n
two_write_read n = omega arith

pub four_write_read : (v : ℕ) → four (v / 65536 / 256) (v / 65536 % 256) (v % 65536 / 256) (v % 65536 % 256) ≡ v
four_write_read v =
    let h : two (v / 65536 / 256) (v / 65536 % 256) ≡ v / 65536 = two_write_read (v / 65536) in
    let l : two (v % 65536 / 256) (v % 65536 % 256) ≡ v % 65536 = two_write_read (v % 65536) in
    rw (h, l) (omega arith)

module _ {a b : ℕ} (p : a < 256) (q : b < 256) where
  pub two-small : two a b < 65536
  two-small = omega arith

  pub two-high : two a b / 256 ≡ a
  two-high = omega arith

  pub two-low : two a b % 256 ≡ b
  two-low = omega arith

pub two_read_write : {a b : ℕ} → a < 256 → b < 256 → two_bytes (two a b) ≡ a ∷ b ∷ []
two_read_write p q = rw (two-high p q, two-low p q)

halves : (x y : ℕ) → y < 65536 → ((x * 65536 + y) / 65536 ≡ x) × ((x * 65536 + y) % 65536 ≡ y)
halves x y h = (omega arith, omega arith)

module _ {a b c d : ℕ} (p : a < 256) (q : b < 256) (r : c < 256) (s : d < 256) where
  pub four-small : four a b c d < 4294967296
  four-small = omega (arith, two-small p q, two-small r s)

  pub four_read_write : four_bytes (four a b c d) ≡ a ∷ b ∷ c ∷ d ∷ []
  four_read_write =
      let h = halves (two a b) (two c d) (two-small r s) in
      rw (h.0, h.1, two-high p q, two-low p q, two-high r s, two-low r s)

-- Every element of a list of bytes is a byte, and so is what is read past its end.
pub byte_at : (s : List ℕ) → Bytes s → (i : ℕ) → get_or s i 0 < 256
byte_at [] h i = omega arith
byte_at (b ∷ s) h zero = h.0
byte_at (b ∷ s) h (suc i) = byte_at s h.1 i

pub bytes_drop : (s : List ℕ) → Bytes s → (i : ℕ) → Bytes (drop i s)
bytes_drop s h zero = h
bytes_drop [] h (suc i) = h
bytes_drop (b ∷ s) h (suc i) = bytes_drop s h.1 i

pub bytes-append : (xs ys : List ℕ) → Bytes xs → Bytes ys → Bytes (xs ++ ys)
bytes-append [] ys h i = i
bytes-append (x ∷ xs) ys h i = (h.0, bytes-append xs ys h.1 i)

pub two_bytes_lem : (n : ℕ) → n < 65536 → Bytes (two_bytes n)
two_bytes_lem n h = (omega arith, (omega arith, tt))

pub four_bytes_lem : (v : ℕ) → v < 4294967296 → Bytes (four_bytes v)
four_bytes_lem v h = bytes-append (two_bytes (v / 65536)) (two_bytes (v % 65536)) (two_bytes_lem (v / 65536) (omega arith)) (two_bytes_lem (v % 65536) (omega arith))
