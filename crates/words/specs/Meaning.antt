-- The bits of words.
use Rattle.std.specs.Prelude.{ℕ, zero, suc, ◌+◌, ◌*◌, ◌/◌, ◌%◌, ◌^◌, List, [], ◌∷◌}

-- A bit of a word: the lowest one is bit 0.
abbrev pub bit : ℕ → ℕ → ℕ
bit x w = w / 2 ^ x % 2

-- The word whose 64 bits are all 1.
abbrev pub ones : ℕ
ones = 18446744073709551615

-- The word with these bits, so many of them, the lowest first.
unfoldable pub packed : (ℕ → ℕ) → ℕ → ℕ
packed f zero = 0
packed f (suc count) = f 0 + 2 * packed (λ x. f (suc x)) count

-- So many words of 64 bits each, from the word with a number on.
unfoldable pub words_from : (ℕ → ℕ) → ℕ → ℕ → List ℕ
words_from f zero k = []
words_from f (suc count) k = packed (λ x. f (k * 64 + x)) 64 ∷ words_from f count (suc k)
