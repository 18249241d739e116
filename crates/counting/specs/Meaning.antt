-- Words for the laws of batches and counts: sums of counts, parts of a batch read one behind another, and a refused voice's numbers.
use Rattle.std.specs.Prelude.{ℕ, ◌+◌, ◌-◌, ◌≡◌, true, false, cond, List, [], ◌∷◌, ◌++◌, eqb, length, take, drop}
use Rattle.refusals.specs.Meaning.{Numbers, after}
use Rattle.fields.specs.Meaning.{Bytes}
use Rattle.notices.specs.Meaning.{notice_of}
use Rattle.batches.specs.Meaning.{Part, read_batch, walk_of}
use Rattle.counts.specs.declared.Counts.{Counts}
use Rattle.weeks.specs.Meaning.{Week, week_of, onto_of}

-- What some counts come to.
abbrev pub total : List ℕ → ℕ
total [] = 0
total (n ∷ ns) = n + total ns

-- "the sum, place by place": plain sums, as any engine adds them.
abbrev pub sums : List ℕ → List ℕ → List ℕ
sums [] ys = []
sums (x ∷ xs) [] = []
sums (x ∷ xs) (y ∷ ys) = (x + y) ∷ sums xs ys

abbrev pub sum : Counts → Counts → Counts
sum c d =
    record {
      silent = c.silent + d.silent;
      bury = c.bury + d.bury;
      keep = c.keep + d.keep;
      clash = c.clash + d.clash;
      refused = c.refused + d.refused;
      numbers = sums c.numbers d.numbers;
    }

-- Some notices read before a part of a batch.
abbrev pub behind_these : List (List ℕ) → Part → Part
behind_these ns p = record { notices = ns ++ p.notices; refusal = p.refusal; end = p.end }

-- "under the notice's number where that is refused first": the number that a notice is counted under where the voice is refused.
abbrev pub first_number : Numbers → List ℕ → ℕ
first_number voice notice = cond (eqb (notice_of notice).refusal.number 0) voice.number (notice_of notice).refusal.number

-- What a reading from an offset on left of its bytes.
abbrev pub unread : ℕ → List ℕ → Part → List ℕ
unread at s p = drop (p.end - at) s

-- A reading of bytes that stand so far behind in a batch: its offsets are moved.
abbrev pub moved_refusal : ℕ → Numbers → Numbers
moved_refusal by r = cond (eqb r.number 0) r (record { number = r.number; place = by + r.place; second = r.second })

abbrev pub moved : ℕ → Part → Part
moved by p = record { notices = p.notices; refusal = moved_refusal by p.refusal; end = by + p.end }

-- Parts one behind another, and a last one behind them.
abbrev pub joined : List (List ℕ) → List ℕ → List ℕ
joined [] last = last
joined (part ∷ parts) last = part ++ joined parts last

abbrev pub AllBytes : List (List ℕ) → Type 0
AllBytes [] = Unit
AllBytes (part ∷ parts) = Bytes part × AllBytes parts

-- Parts that are accepted; how many notices are read of them and of a last one, each by itself; and the sum of their records.
abbrev pub AllAccepted : List (List ℕ) → Type 0
AllAccepted [] = Unit
AllAccepted (part ∷ parts) = ((read_batch part).refusal.number ≡ 0) × AllAccepted parts

abbrev pub read_in : List (List ℕ) → List ℕ → ℕ
read_in [] last = length (read_batch last).notices
read_in (part ∷ parts) last = length (read_batch part).notices + read_in parts last

abbrev pub sum_in : List ℕ → List (List ℕ) → List ℕ → Counts
sum_in voice [] last = (week_of last voice).counts
sum_in voice (part ∷ parts) last = sum (week_of part voice).counts (sum_in voice parts last)

-- "A program reads the batch from a file": the file comes in parts, one behind another, and a last one. The whole fields of what is at
-- hand are counted onto the counts so far, as a batch of their own, and what is behind them is kept for the next turn.
unfoldable pub in_windows : List ℕ → Counts → ℕ → ℕ → List ℕ → List (List ℕ) → List ℕ → Week
in_windows voice c left at kept [] last =
    let s = kept ++ last in
    let w = walk_of true left s in
    record { refusal = moved_refusal at w.refusal; counts = (onto_of c (take w.length s) voice).counts }
in_windows voice c left at kept (part ∷ parts) last =
    let s = kept ++ part in
    let w = walk_of false left s in
    let d = (onto_of c (take w.length s) voice).counts in
    after w.refusal (λ r. record { refusal = moved_refusal at r; counts = d })
    (in_windows voice d w.left (at + w.length) (drop w.length s) parts last)
