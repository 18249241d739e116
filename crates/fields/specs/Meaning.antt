-- Fields and the numbers in them: what their bytes say, and which bytes say it.
use Rattle.std.specs.Prelude.{ℕ, suc, ◌+◌, ◌*◌, ◌/◌, ◌%◌, ◌<◌, Bool, cond, List, [], ◌∷◌, ◌++◌, ltb, length, get_or, Option, position}

-- The list's elements are bytes.
abbrev pub Bytes : List ℕ → Type 0
Bytes [] = Unit
Bytes (b ∷ bs) = (b < 256) × Bytes bs

-- "High byte first": the number in two bytes, and in four.
abbrev pub two : ℕ → ℕ → ℕ
two high low = high * 256 + low

abbrev pub four : ℕ → ℕ → ℕ → ℕ → ℕ
four a b c d = two a b * 65536 + two c d

-- The same, from an offset on.
abbrev pub two_at : List ℕ → ℕ → ℕ
two_at s at = two (get_or s at 0) (get_or s (at + 1) 0)

abbrev pub four_at : List ℕ → ℕ → ℕ
four_at s at = four (get_or s at 0) (get_or s (at + 1) 0) (get_or s (at + 2) 0) (get_or s (at + 3) 0)

-- A number's two bytes, and its four.
abbrev pub two_bytes : ℕ → List ℕ
two_bytes n = n / 256 ∷ n % 256 ∷ []

abbrev pub four_bytes : ℕ → List ℕ
four_bytes v = two_bytes (v / 65536) ++ two_bytes (v % 65536)

-- "A field is a one-byte tag, a two-byte length (high byte first), then the value."
abbrev pub field : ℕ → List ℕ → List ℕ
field tag value = tag ∷ two_bytes (length value) ++ value

-- What the bytes at whose front a field stands say of it: its tag, and how long its value is.
abbrev pub tag : List ℕ → ℕ
tag s = get_or s 0 0

abbrev pub size : List ℕ → ℕ
size s = two_at s 1

-- "Fewer than three bytes left, SHORT."
abbrev pub short_header : List ℕ → Bool
short_header s = ltb (length s) 3

-- "Value past the end, SHORT."
abbrev pub short_value : ℕ → List ℕ → Bool
short_value size s = ltb (length s) (3 + size)

-- "Its first byte out of range": the index of the first byte above a limit, or the length.
unfoldable pub first_above : ℕ → List ℕ → ℕ
first_above limit [] = 0
first_above limit (b ∷ bytes) = cond (ltb limit b) 0 (suc (first_above limit bytes))

-- The same index, where there is such a byte; that it is the same is proved.
abbrev pub above : ℕ → List ℕ → Option ℕ
above limit bytes = position (λ b. ltb limit b) bytes
