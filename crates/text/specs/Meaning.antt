-- What programs print: words and numbers, and what it is to write them into a lent buffer.
use Rattle.std.specs.Prelude.{ℕ, zero, suc, ◌+◌, ◌/◌, ◌%◌, min, ◌≡◌, cond, List, [], ◌∷◌, ◌++◌, ltb, length}
use Rattle.std.proofs.lemmas.List.Edits.{sets}
use Rattle.std.specs.Borrow.{MutBor}
use Rattle.refusals.specs.Meaning.{Numbers}
use Rattle.text.specs.declared.pages.Page.{Page}

-- Text is written from a place on, and the next place is behind it: both as far as the buffer goes.
pub record Printed (old : List ℕ) (at : ℕ) (text new : List ℕ) (next : ℕ) : Type 0 where
  pub ends : next ≡ min (length old) (at + length text)
  pub holds : new ≡ sets old at text

-- A page is a lent buffer with the place that is written next: at its front, and with a text written on it, still on that buffer.
pub record Begun (text : MutBor (List ℕ)) (page : Page) : Type 0 where
  pub same : page.text.ghost_name ≡ text.ghost_name
  pub bytes : page.text.now ≡ text.now
  pub front : page.next ≡ 0

-- The same at a place, or at the buffer's end where that comes first.
pub record Opened (text : MutBor (List ℕ)) (place : ℕ) (page : Page) : Type 0 where
  pub same : page.text.ghost_name ≡ text.ghost_name
  pub bytes : page.text.now ≡ text.now
  pub here : page.next ≡ min (length text.now) place

pub record Wrote (old : Page) (text : List ℕ) (new : Page) : Type 0 where
  pub printed : Printed old.text.now old.next text new.text.now new.next
  pub same : new.text.ghost_name ≡ old.text.ghost_name

-- "With single spaces and in decimal": the digits of a number, before those that are there already. 20 are enough for every
-- number of 64 bits.
unfoldable pub decimal_onto : ℕ → ℕ → List ℕ → List ℕ
decimal_onto zero n behind = behind
decimal_onto (suc k) n behind = cond (ltb n 10) ((48 + n) ∷ behind) (decimal_onto k (n / 10) ((48 + n % 10) ∷ behind))

unfoldable pub decimal : ℕ → List ℕ
decimal n = decimal_onto 20 n []

-- What stands behind a number: a space, or at the end of a line a line feed.
abbrev pub SPACE : ℕ
SPACE = 32

abbrev pub LINE_FEED : ℕ
LINE_FEED = 10

-- A number, and the byte behind it.
unfoldable pub number_text : ℕ → ℕ → List ℕ
number_text n end = decimal n ++ end ∷ []

abbrev pub line : List ℕ → ℕ → List ℕ
line word n = word ++ number_text n LINE_FEED

-- "refused "
abbrev pub refused_word : List ℕ
refused_word = 114 ∷ 101 ∷ 102 ∷ 117 ∷ 115 ∷ 101 ∷ 100 ∷ 32 ∷ []

-- "A refusal prints one line only: `refused`, number, place, second number."
unfoldable pub refusal_line : Numbers → List ℕ
refusal_line r = refused_word ++ number_text r.number SPACE ++ number_text r.place SPACE ++ number_text r.second LINE_FEED
