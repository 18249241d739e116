-- Bytes at the start of a buffer.
use Rattle.std.specs.Prelude.{◌≡◌, ℕ, ◌≤◌, List, length, take}

-- So many bytes stand at the start: a slice that ends there lies within the bytes and has so many. The second part follows from the
-- first, and spares those who take that slice a proof.
abbrev pub IsPrefixLen : ℕ → List ℕ → Type 0
IsPrefixLen n xs = (n ≤ length xs) × (n ≡ length (take n xs))
