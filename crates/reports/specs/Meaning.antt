-- What `weekcount` prints: a voice's record, and why the batch was refused.
use Rattle.std.specs.Prelude.{ℕ, suc, ◌^◌, ◌<◌, ◌≡◌, cond, List, [], ◌∷◌, ◌++◌, eqb, length}
use Rattle.refusals.specs.Meaning.{Numbers}
use Rattle.text.specs.Meaning.{SPACE, LINE_FEED, number_text, line, refused_word, refusal_line}
use Rattle.counts.specs.declared.Counts.{Counts}

-- The words, each with what stands behind it.
-- "voice "
abbrev pub voice_word : List ℕ
voice_word = 118 ∷ 111 ∷ 105 ∷ 99 ∷ 101 ∷ 32 ∷ []

-- "silent "
abbrev pub silent_word : List ℕ
silent_word = 115 ∷ 105 ∷ 108 ∷ 101 ∷ 110 ∷ 116 ∷ 32 ∷ []

-- "bury "
abbrev pub bury_word : List ℕ
bury_word = 98 ∷ 117 ∷ 114 ∷ 121 ∷ 32 ∷ []

-- "keep "
abbrev pub keep_word : List ℕ
keep_word = 107 ∷ 101 ∷ 101 ∷ 112 ∷ 32 ∷ []

-- "clash "
abbrev pub clash_word : List ℕ
clash_word = 99 ∷ 108 ∷ 97 ∷ 115 ∷ 104 ∷ 32 ∷ []

-- "batch "
abbrev pub batch_word : List ℕ
batch_word = 98 ∷ 97 ∷ 116 ∷ 99 ∷ 104 ∷ 32 ∷ []

-- "`voice NAME`, `silent N`, `bury N`, `keep N`, `clash N`, `refused N`"
unfoldable pub name_line : List ℕ → List ℕ
name_line name = voice_word ++ name ++ LINE_FEED ∷ []

unfoldable pub total_lines : Counts → List ℕ
total_lines c =
    line silent_word c.silent ++ line bury_word c.bury ++ line keep_word c.keep ++ line clash_word c.clash
    ++ line refused_word c.refused

-- "then `refused NUMBER N` for each number that occurred, rising"
unfoldable pub number_line : ℕ → ℕ → List ℕ
number_line number n = cond (eqb n 0) [] (refused_word ++ number_text number SPACE ++ number_text n LINE_FEED)

unfoldable pub number_lines : ℕ → List ℕ → List ℕ
number_lines number [] = []
number_lines number (n ∷ ns) = number_line number n ++ number_lines (suc number) ns

unfoldable pub record_text : List ℕ → Counts → List ℕ
record_text name c = name_line name ++ total_lines c ++ number_lines 0 c.numbers

-- "a batch refusal prints `batch refused NUMBER PLACE SECOND` after the counts so far"
unfoldable pub batch_line : Numbers → List ℕ
batch_line r = batch_word ++ refusal_line r

-- Counts as they are held: 32 places, and every count a number of 64 bits.
abbrev pub Fit : List ℕ → Type 0
Fit [] = Unit
Fit (n ∷ ns) = (n < 2 ^ 64) × Fit ns

pub record Sized (c : Counts) : Type 0 where
  pub places : length c.numbers ≡ 32
  pub totals : Fit (c.silent ∷ c.bury ∷ c.keep ∷ c.clash ∷ c.refused ∷ [])
  pub numbered : Fit c.numbers
