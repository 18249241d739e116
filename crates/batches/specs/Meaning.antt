-- Batches: how their bytes are read, and the lists of notices that they encode.
use Rattle.std.specs.Prelude.{ℕ, zero, suc, ◌+◌, ◌-◌, ◌≤◌, Bool, true, cond, not, List, [], ◌∷◌, ◌++◌, ltb, leb, eqb, length, take, drop, Option, Some, None}
use Rattle.refusals.specs.Meaning.{Numbers, none, refused, after, numbers, SHORT, TAG, LEN, WEEK}
use Rattle.refusals.specs.declared.Refusal.{Refusal}
use Rattle.fields.specs.Meaning.{Bytes, field, tag, size, short_header, short_value}
use Rattle.batches.specs.declared.Walked as code

-- "A batch holds at most 1,000,000 notices."
abbrev pub MOST : ℕ
MOST = 1000000

-- "A batch is fields of tag 17, each holding one notice": the notice in the field that the bytes start with, how long that field
-- is, and what is behind it
abbrev pub first_notice : List ℕ → List ℕ
first_notice s = take (size s) (drop 3 s)

abbrev pub field_size : List ℕ → ℕ
field_size s = 3 + size s

abbrev pub behind : List ℕ → List ℕ
behind s = drop (field_size s) s

-- "Refusals, per field in order: SHORT header, TAG, 28 WEEK for a notice too many, LEN for a length above 288, SHORT value; each
-- with the field's offset." `left` more notices are allowed.
unfoldable pub fault : ℕ → ℕ → List ℕ → Numbers
fault left at s =
    cond (short_header s) (refused SHORT at)
    (cond (eqb (tag s) 17)
    (cond (eqb left 0) (refused WEEK at)
    (cond (ltb 288 (size s)) (refused LEN at)
    (cond (short_value (size s) s) (refused SHORT at)
    none)))
    (refused TAG at))

-- What reading gives: the notices read, why it stopped if a field was refused, and the offset where it did, or ended.
pub record Part : Type 0 where
  pub notices : List (List ℕ)
  pub refusal : Numbers
  pub end : ℕ

abbrev pub stopped : ℕ → Numbers → Part
stopped at r = record { notices = []; refusal = r; end = at }

abbrev pub followed : List ℕ → Part → Part
followed n p = record { notices = n ∷ p.notices; refusal = p.refusal; end = p.end }

-- "one field at a time": is the field at the front of so many bytes judged now? Where the batch has ended, wherever there is a byte;
-- where more bytes are to come, once the longest field would be whole.
abbrev pub due : Bool → ℕ → Bool
due ended bytes = cond ended (not (eqb bytes 0)) (leb 291 bytes)

-- The fields from an offset on, `left` notices at most, one after another.
unfoldable pub read_rest : Bool → ℕ → ℕ → List ℕ → Part
read_rest ended zero at s = cond (due ended (length s)) (stopped at (fault zero at s)) (stopped at none)
read_rest ended (suc left) at s =
    cond (due ended (length s))
    (after (fault (suc left) at s) (stopped at)
    (followed (first_notice s) (read_rest ended left (at + field_size s) (behind s))))
    (stopped at none)

-- A whole batch: "one of no bytes is lawful".
abbrev pub read_batch : List ℕ → Part
read_batch s = read_rest true MOST 0 s

-- What is said of a part of a batch that was gone through: why it stopped if a field was refused, how many bytes the fields read
-- take, and how many notices may still come.
pub record Walked : Type 0 where
  pub refusal : Numbers
  pub length : ℕ
  pub left : ℕ

abbrev pub walked_by : ℕ → Part → Walked
walked_by left p = record { refusal = p.refusal; length = p.end; left = left - length p.notices }

abbrev pub walk_of : Bool → ℕ → List ℕ → Walked
walk_of ended left s = walked_by left (read_rest ended left 0 s)

-- The numbers of why something stopped: of success where nothing was refused. The same of all that code says of a part.
abbrev pub why : Option Refusal → Numbers
why None = none
why (Some r) = numbers r

abbrev pub walked : code.Walked → Walked
walked w = record { refusal = why w.refused; length = w.length; left = w.left }

-- The encoding of a list of notices, and which lists have one: at most 1,000,000 byte strings of at most 288 bytes.
abbrev pub bytes_of : List (List ℕ) → List ℕ
bytes_of [] = []
bytes_of (n ∷ ns) = field 17 n ++ bytes_of ns

abbrev pub Fits : List (List ℕ) → Type 0
Fits [] = Unit
Fits (n ∷ ns) = Bytes n × (length n ≤ 288) × Fits ns

pub record Lawful (ns : List (List ℕ)) : Type 0 where
  pub few : length ns ≤ MOST
  pub fits : Fits ns
