-- Situations: which bytes are one, their merger, their order in base 4, and the steps between them.
use Rattle.std.specs.Prelude.{ℕ, zero, suc, ◌+◌, ◌*◌, ◌/◌, ◌%◌, ◌^◌, ◌<◌, Bool, true, false, cond, ◌||◌, List, [], ◌∷◌, ◌++◌, map, T, ltb, eqb, length, take, drop, get_or, set, replicate, Result, Ok, Err}
use Rattle.refusals.specs.Meaning.{Numbers, none, refused, after, numbers, SITUATION}
use Rattle.fields.specs.Meaning.{first_above}
use Rattle.answers.specs.Meaning.{number, from_number, join, contained}
use Rattle.answers.specs.declared.Answer.{Answer}
use Rattle.answers.specs.declared.Answer.TheVariants.{Silent, Bury, Keep, Clash}
use Rattle.situations.specs.declared.Situation.{Situation}
use Rattle.situations.specs.declared.Unmerged.{Unmerged}

-- "A situation is n answers", n from 1 to 6.
abbrev pub outside : ℕ → Bool
outside n = ltb n 1 || ltb 6 n

-- Its answers, from the bytes that stand for them.
abbrev pub answers_of : List ℕ → List Answer
answers_of s = map from_number s

-- The columns of a situation by value: its answers from the length on do not count.
abbrev pub columns : Situation → List Answer
columns s = answers_of (take s.length s.answers)

-- "First the situation: its length outside 1 to 6, SITUATION, place the length; else its first answer above 3, place its index."
unfoldable pub fault : List ℕ → Numbers
fault s =
    cond (outside (length s)) (refused SITUATION (length s))
    (cond (ltb (first_above 3 s) (length s)) (refused SITUATION (first_above 3 s)) none)

-- The same of a situation by value.
unfoldable pub fault_of : Situation → Numbers
fault_of s = cond (ltb 6 s.length) (refused SITUATION s.length) (fault (take s.length s.answers))

-- "Merging is the join column by column."
unfoldable pub merge : List Answer → List Answer → List Answer
merge [] t = []
merge (x ∷ s) [] = x ∷ s
merge (x ∷ s) (y ∷ t) = join x y ∷ merge s t

-- The same on the bytes: the first n are merged, and the others are those of the first operand.
unfoldable pub merge_bytes : ℕ → List ℕ → List ℕ → List ℕ
merge_bytes n s t = map number (merge (answers_of (take n s)) (answers_of (take n t))) ++ drop n s

-- What a merge replies, and the same of a result.
pub record Merged : Type 0 where
  pub refusal : Numbers
  pub situation : Situation

abbrev pub merged : Result Situation Unmerged → Merged
merged (Ok s) = record { refusal = none; situation = s }
merged (Err u) = record { refusal = numbers u.refusal; situation = u.situation }

-- "The merged situation replaces the old one and is handed back. SITUATION for the first operand, then the second,
-- then for unequal lengths (place the second's length). A refused merge hands back the first as it came."
unfoldable pub merge_of : Situation → Situation → Merged
merge_of s t =
    after (fault_of s) hand_back
    (after (fault_of t) hand_back
    (cond (eqb s.length t.length)
    (record { refusal = none; situation = record { length = s.length; answers = merge_bytes s.length s.answers t.answers } })
    (hand_back (refused SITUATION t.length))))
  where
    hand_back : Numbers → Merged
    hand_back r = record { refusal = r; situation = s }

-- A situation is contained in another one when each column's answer is contained in the other's.
abbrev pub Within : List Answer → List Answer → Type 0
Within [] [] = Unit {0}
Within [] (y ∷ t) = ⊥
Within (x ∷ s) [] = ⊥
Within (x ∷ s) (y ∷ t) = T (contained x y) × Within s t

-- The weight of a digit in base 4, which is also how many situations of e columns there are; 0 above the most columns.
abbrev pub weight : ℕ → ℕ
weight e = cond (ltb 6 e) 0 (4 ^ e)

-- A digit of a number in base 4: the lowest one is digit 0.
abbrev pub digit : ℕ → ℕ → ℕ
digit w e = w / 4 ^ e % 4

-- "Read as a base-4 number with column 0 as its highest digit (so wherever base 4 is named)."
unfoldable pub index_onto : ℕ → List Answer → ℕ
index_onto w [] = w
index_onto w (a ∷ s) = index_onto (w * 4 + number a) s

abbrev pub index : List Answer → ℕ
index s = index_onto 0 s

-- The situation of n columns with a number: its last column is the lowest digit.
unfoldable pub situation_at : ℕ → ℕ → List Answer
situation_at zero w = []
situation_at (suc n) w = situation_at n (w / 4) ++ (from_number (w % 4) ∷ [])

-- A situation by value: its answers, then 0, in six bytes.
abbrev pub by_value : List Answer → Situation
by_value s = record { length = length s; answers = take 6 (map number s ++ replicate 6 0) }

-- "A step raises one column 0 to 1, 0 to 2, 1 to 3 or 2 to 3."
abbrev pub raises : Answer → Answer → Bool
raises Silent Silent = false
raises Silent Bury = true
raises Silent Keep = true
raises Silent Clash = false
raises Bury Silent = false
raises Bury Bury = false
raises Bury Keep = false
raises Bury Clash = true
raises Keep Silent = false
raises Keep Bury = false
raises Keep Keep = false
raises Keep Clash = true
raises Clash q = false

pub record Step (s : List Answer) (column : ℕ) (a : Answer) : Type 0 where
  pub inside : column < length s
  pub raised : T (raises (get_or s column Silent) a)

-- A chain of steps from one situation to another: none, or a step and a chain from there.
pub data Chain : List Answer → List Answer → Type 0 where
  here : {s : List Answer} → Chain s s
  step : {s t : List Answer} (column : ℕ) (a : Answer) → Step s column a → Chain (set s column a) t → Chain s t
