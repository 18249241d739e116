-- Sets of what may be. A set is a list, of which only counts what stands in it; an operator acts on sets member by member; a
-- set is handed on as a number.
use Rattle.std.specs.Prelude.{ℕ, ◌^◌, Bool, true, false, cond, eqb, ◌≡◌}
use mathlib.Core.List.{List, [], ◌∷◌, ◌++◌, map, Memᴰ}
use Rattle.std.specs.Int.Bits.{bit_or}
use Rattle.words.specs.Meaning.{bit}
use Rattle.answers.specs.declared.Answer.{Answer}
use Rattle.answers.specs.declared.Answer.TheVariants.{Silent, Bury, Keep, Clash}
use Rattle.answers.specs.Meaning.{number, meet}

-- It stands in the list, at some place.
abbrev pub Among : {A : Type 0} → A → List A → Type 0
Among a s = Memᴰ a s

-- "operators act on every pair of possible operands": an operator of two operands on sets. On one operand it is `map`.
abbrev pub pairs : {A B C : Type 0} → (A → B → C) → List A → List B → List C
pairs f [] qs = []
pairs f (p ∷ ps) qs = map (f p) qs ++ pairs f ps qs

-- A set as a number, its members numbered: bit n is 1 where the member with the number n is in it.
unfoldable pub set_of : {A : Type 0} → (A → ℕ) → List A → ℕ
set_of number [] = 0
set_of number (p ∷ ps) = bit_or (2 ^ number p) (set_of number ps)

-- Whether it is in the set that a number stands for, and which of a list are.
unfoldable pub has : {A : Type 0} → (A → ℕ) → A → ℕ → Bool
has number p set = eqb (bit (number p) set) 1

abbrev pub member : {A : Type 0} → (A → ℕ) → A → ℕ → List A
member number p set = cond (has number p set) (p ∷ []) []

abbrev pub members : {A : Type 0} → (A → ℕ) → List A → ℕ → List A
members number [] set = []
members number (p ∷ ps) set = member number p set ++ members number ps set

-- "a set of one to four answers": silent 1, bury 2, keep 4, clash 8
abbrev pub answer_set : List Answer → ℕ
answer_set = set_of number

abbrev pub answers_in : ℕ → List Answer
answers_in = members number (Silent ∷ Bury ∷ Keep ∷ Clash ∷ [])

-- A set of truths: false 1, true 2
abbrev pub truth_number : Bool → ℕ
truth_number false = 0
truth_number true = 1

abbrev pub truth_set : List Bool → ℕ
truth_set = set_of truth_number

abbrev pub truths_in : ℕ → List Bool
truths_in = members truth_number (false ∷ true ∷ [])

-- A function that code was handed, of one argument and of two, as a function: it gives nothing else.
abbrev pub Computes : {A B : Type 0} → (A → B → Type 0) → (A → B) → Type 0
Computes {A} {B} gives f = (a : A) (b : B) → gives a b → b ≡ f a

abbrev pub Computes2 : {A B C : Type 0} → (A → B → C → Type 0) → (A → B → C) → Type 0
Computes2 {A} {B} {C} gives f = (a : A) (b : B) (c : C) → gives a b c → c ≡ f a b

-- "The column receives the meet of the set": the meet of its members, one after another. Clash is where that starts, since it changes
-- nothing; no set that a voice answers is empty.
abbrev pub meet_of : List Answer → Answer
meet_of [] = Clash
meet_of (p ∷ ps) = meet p (meet_of ps)
