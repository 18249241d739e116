-- Notices: how their bytes are read, and the lists of facts that they encode.
use Rattle.std.specs.Prelude.{ℕ, zero, suc, ◌+◌, ◌≤◌, ◌<◌, Bool, true, false, cond, List, [], ◌∷◌, ◌++◌, Option, Some, None, Result, ltb, leb, eqb, length, drop}
use Rattle.refusals.specs.Meaning as refusal
use Rattle.refusals.specs.Meaning.{Numbers, none, after, replied, SHORT, TAG, LEN, RISE, FACTS}
use Rattle.refusals.specs.declared.Refusal.{Refusal}
use Rattle.fields.specs.Meaning.{two_at, four_at, two_bytes, four_bytes, field, tag, size, short_header, short_value}
use Rattle.notices.specs.declared.Comparison.{Comparison}
use Rattle.notices.specs.declared.Comparison.TheVariants.{Equal, AtLeast, Below}

-- "a two-byte fact number, a four-byte value"
pub record Fact : Type 0 where
  pub number : ℕ
  pub value : ℕ

-- "A notice is fields of tag 16, length 6": the fact in the field that the bytes start with, after its three-byte header
abbrev pub first_fact : List ℕ → Fact
first_fact s = record { number = two_at s 3; value = four_at s 5 }

-- "Order per field: SHORT header, TAG, FACTS (a 33rd), LEN, SHORT value, RISE", each at the field's offset.
-- `left` more facts are allowed, and "its first number must also pass the last one read": it is at least `least`.
unfoldable pub fault : ℕ → ℕ → ℕ → List ℕ → Numbers
fault left at least s =
    cond (short_header s) (refusal.refused SHORT at)
    (cond (eqb (tag s) 16)
    (cond (eqb left 0) (refusal.refused FACTS at)
    (cond (eqb (size s) 6)
    (cond (short_value 6 s) (refusal.refused SHORT at)
    (cond (ltb (first_fact s).number least) (refusal.refused RISE at)
    none))
    (refusal.refused LEN at)))
    (refusal.refused TAG at))

-- What reading a notice gives: its facts, or why it is refused.
pub data Reading : Type 0 where
  facts : List Fact → Reading
  refused : Numbers → Reading

abbrev pub followed : Fact → Reading → Reading
followed f (facts fs) = facts (f ∷ fs)
followed f (refused r) = refused r

-- "The rest after a field is read as a notice of its own, save that its first number must also pass the last one read
-- and the count of facts goes on. The place is the field's offset in the whole notice."
unfoldable pub read_rest : ℕ → ℕ → ℕ → List ℕ → Reading
read_rest zero at least s = cond (eqb (length s) 0) (facts []) (refused (fault zero at least s))
read_rest (suc left) at least s =
    cond (eqb (length s) 0) (facts [])
    (after (fault (suc left) at least s) refused
    (followed (first_fact s) (read_rest left (at + 9) ((first_fact s).number + 1) (drop 9 s))))

-- "at most 32"
abbrev pub read_facts : List ℕ → Reading
read_facts s = read_rest 32 0 0 s

-- The reply says how many facts were read; in a refusal "any other result number 0".
pub record Noticed : Type 0 where
  pub refusal : Numbers
  pub facts : ℕ

abbrev pub noticed : Reading → Noticed
noticed (facts fs) = record { refusal = none; facts = length fs }
noticed (refused r) = record { refusal = r; facts = 0 }

-- The same of a result.
abbrev pub facts_read : Result ℕ Refusal → Noticed
facts_read = replied (λ count. record { refusal = none; facts = count }) (λ n. record { refusal = n; facts = 0 })

abbrev pub notice_of : List ℕ → Noticed
notice_of s = noticed (read_facts s)

-- What a list of facts says of a fact: its value, or nothing where it is absent.
unfoldable pub seen : List Fact → ℕ → Option ℕ
seen [] fact = None
seen (f ∷ fs) fact = cond (eqb f.number fact) (Some f.value) (seen fs fact)

-- The facts in at most so many fields from the start of the bytes, whatever their headers: where a fact is looked up.
-- Of a notice that is accepted they are the facts read.
unfoldable pub facts_in : ℕ → List ℕ → List Fact
facts_in zero s = []
facts_in (suc left) s = cond (ltb (length s) 9) [] (first_fact s ∷ facts_in left (drop 9 s))

-- "43 equal, 44 at least, 45 below (.. unsigned ..)": a fact's value, compared with another
abbrev pub compare : Comparison → ℕ → ℕ → Bool
compare Equal x value = eqb x value
compare AtLeast x value = leb value x
compare Below x value = ltb x value

-- "46 present"
abbrev pub present : Option ℕ → Bool
present None = false
present (Some x) = true

-- The encoding of a list of facts, and which lists have one: "at most 32, numbers strictly rising", every field in its bytes.
abbrev pub field_of : Fact → List ℕ
field_of f = field 16 (two_bytes f.number ++ four_bytes f.value)

abbrev pub bytes_of : List Fact → List ℕ
bytes_of [] = []
bytes_of (f ∷ fs) = field_of f ++ bytes_of fs

abbrev pub Fits : List Fact → Type 0
Fits [] = Unit
Fits (f ∷ fs) = (f.number < 65536) × (f.value < 4294967296) × Fits fs

-- each number is at least `least`, and passes the one before it
abbrev pub Rises : ℕ → List Fact → Type 0
Rises least [] = Unit
Rises least (f ∷ fs) = (least ≤ f.number) × Rises (f.number + 1) fs

pub record Lawful (fs : List Fact) : Type 0 where
  pub few : length fs ≤ 32
  pub rises : Rises 0 fs
  pub fits : Fits fs
