-- Batches (request K2): which are accepted, why the others are refused, and that a batch may be counted in parts: cut between two
-- fields, and in the windows in which a file is read. Over all bytes.
use Prim.Native.Nat.{ℕ, ◌+◌, ◌-◌, ◌≤◌, ◌<◌}
use mathlib.Core.Path.{◌≡◌, ap, ◌∙◌}
use mathlib.Core.Logic.{◌↔◌, ◌⊎◌}
use mathlib.Core.Bool.{true, false}
use mathlib.Core.List.{List, [], ◌++◌}
use native.Mathlib.Omega.{arith}
use lib.ListN.{length, take, drop, replicate}
use Rattle.refusals.specs.Meaning.{none, refused, SHORT, TAG, LEN, WEEK}
use Rattle.answers.specs.Meaning.{Reply}
use Rattle.fields.specs.Meaning.{Bytes, tag}
use Rattle.batches.specs.Meaning.{read_rest, read_batch, bytes_of, Lawful, MOST}
use Rattle.counts.specs.Meaning.{count, numbers_from, counts_of, plus, LARGEST}
use Rattle.weeks.specs.Meaning.{replies, week_by, week_of, onto_of}
use Rattle.counting.specs.Meaning.{sum, behind_these, moved_refusal, joined, AllBytes, AllAccepted, read_in, sum_in, in_windows}
use Rattle.counting.proofs.Totals as totals
use Rattle.counting.proofs.Parts.{goes_on, stays_refused}
use Rattle.counting.proofs.Stops as stops
use Rattle.counting.proofs.Written as written
use Rattle.counting.proofs.Cuts as cuts
use Rattle.counting.proofs.Sums as sums
use Rattle.counting.proofs.Windows as windows

-- A batch is accepted exactly when it is the encoding of a list of at most 1,000,000 byte strings of at most 288 bytes.
pub batch_accepted : (b : List ℕ) → Bytes b →
    ((read_batch b).refusal.number ≡ 0) ↔ ((ns : List (List ℕ)) × (Lawful ns × (bytes_of ns ≡ b)))
batch_accepted = written.accepted_exactly

-- Those are then the notices read, so there is one such list only.
pub lawful_batch_read : (ns : List (List ℕ)) → Lawful ns →
    read_batch (bytes_of ns) ≡ record { notices = ns; refusal = none; end = length (bytes_of ns) }
lawful_batch_read ns h =
    let e : 0 + length (bytes_of ns) ≡ length (bytes_of ns) = omega arith in written.read_lawful ns h ∙ rw e

pub lawful_batch_only : (ns ms : List (List ℕ)) → Lawful ns → Lawful ms → bytes_of ns ≡ bytes_of ms → ns ≡ ms
lawful_batch_only = written.lawful_only

-- "one of no bytes is lawful with all counts zero"
pub no_bytes_accepted : (voice : List ℕ) →
    week_of [] voice
    ≡ record {
      refusal = none;
      counts = record { silent = 0; bury = 0; keep = 0; clash = 0; refused = 0; numbers = replicate 32 0 };
    }
unfolding count numbers_from
no_bytes_accepted voice = ap (week_by voice) (written.read_lawful [] (record { few = omega arith; fits = tt }))

-- "Refusals, per field in order: SHORT header, TAG, 28 WEEK for a notice too many, LEN for a length above 288, SHORT value; each with
-- the field's offset": one of these numbers, second number 0, and the place is where reading stopped.
pub refused_where : (b : List ℕ) → ((read_batch b).refusal.number ≡ 0 → ⊥) →
    let p = read_batch b in
    ((p.refusal.number ≡ SHORT) ⊎ ((p.refusal.number ≡ TAG) ⊎ ((p.refusal.number ≡ WEEK) ⊎ (p.refusal.number ≡ LEN))))
    × (p.refusal ≡ refused p.refusal.number p.end)
refused_where b loud = (stops.stop-number MOST b loud, stops.stop-place MOST b loud)

-- That offset is in the batch, and what was read before it stays as it was: the notices read encode exactly the bytes before it.
pub read_before_place : (b : List ℕ) → Bytes b →
    let p = read_batch b in
    (bytes_of p.notices ≡ take p.end b) × (length (bytes_of p.notices) ≡ p.end) × (p.end ≤ length b)
read_before_place b bytes = (stops.stop_before MOST b bytes, stops.stop-length MOST b bytes, stops.stop-within MOST b)

-- A field that is refused is no notice and is not counted: without it and what is behind it the batch is accepted, and the counts are
-- the same.
pub refused_field_not_counted : (b voice : List ℕ) → Bytes b →
    week_of (take (read_batch b).end b) voice ≡ record { refusal = none; counts = (week_of b voice).counts }
refused_field_not_counted b voice bytes = ap (week_by voice) (windows.part_accepted true MOST b (omega arith) bytes)

-- "A batch holds at most 1,000,000 notices": WEEK exactly where so many were read and the header of another notice follows.
pub too_many_exactly : (b : List ℕ) →
    let p = read_batch b in
    (p.refusal.number ≡ WEEK)
    ↔ ((length p.notices ≡ 1000000) × ((3 ≤ length (drop p.end b)) × (tag (drop p.end b) ≡ 17)))
too_many_exactly b = stops.stop_week MOST b

-- A batch cut between two fields and counted in two parts gives the sum, place by place: the first part is accepted, and together they
-- have at most 1,000,000 notices.
module _ (a b : List ℕ) (accepted : (read_batch a).refusal.number ≡ 0)
    (few : length (read_batch a).notices + length (read_batch b).notices ≤ MOST) where
  pub cut_notices : (read_batch (a ++ b)).notices ≡ (read_batch a).notices ++ (read_batch b).notices
  cut_notices = cuts.cut_notices MOST a b accepted few

  pub cut_counts : (voice : List ℕ) → (week_of (a ++ b) voice).counts ≡ sum (week_of a voice).counts (week_of b voice).counts
  cut_counts voice = sums.cut_counts voice a b accepted few

  -- Counting the second part onto the counts of the first comes to the same.
  pub cut_counts_onto : (voice : List ℕ) → (onto_of (week_of a voice).counts b voice).counts ≡ (week_of (a ++ b) voice).counts
  cut_counts_onto voice = sums.cut_onto voice a b accepted few

  -- The whole is refused as the second part is, with the place moved, where that is accepted or fewer notices are read; where all
  -- 1,000,000 are, a field that has another fault may be one too many there ("but for WEEK").
  pub cut_refusal :
      ((length (read_batch a).notices + length (read_batch b).notices < MOST) ⊎ ((read_batch b).refusal.number ≡ 0)) →
      (read_batch (a ++ b)).refusal ≡ moved_refusal (length a) (read_batch b).refusal
  cut_refusal = cuts.cut_refusal MOST a b accepted few

  pub cut_refusal_full : length (read_batch a).notices + length (read_batch b).notices ≡ MOST → ((read_batch b).refusal.number ≡ 0 → ⊥) →
      ((read_batch (a ++ b)).refusal.place ≡ length a + (read_batch b).refusal.place)
      × (((read_batch (a ++ b)).refusal.number ≡ (read_batch b).refusal.number) ⊎ ((read_batch (a ++ b)).refusal.number ≡ WEEK))
  cut_refusal_full = cuts.cut_full MOST a b accepted few

-- So it is of any number of parts, all but the last accepted.
pub parts_counts : (parts : List (List ℕ)) (last voice : List ℕ) → AllAccepted parts → read_in parts last ≤ MOST →
    (week_of (joined parts last) voice).counts ≡ sum_in voice parts last
parts_counts parts last voice ok few = (sums.parts_sum voice parts last ok few).0

-- "A program reads the batch from a file, one field at a time." It reads a window of which more is to come as far as its fields are
-- whole. What is refused there is refused in the whole batch ..
module _ (left at : ℕ) (window more : List ℕ) where
  pub window_refused : ((read_rest false left at window).refusal.number ≡ 0 → ⊥) →
      read_rest true left at (window ++ more) ≡ read_rest false left at window
  window_refused = stays_refused more left at window

  -- .. and where nothing is, reading goes on with what was left of it.
  pub window_goes_on : (read_rest false left at window).refusal.number ≡ 0 →
      let p = read_rest false left at window in
      read_rest true left at (window ++ more)
      ≡ behind_these p.notices (read_rest true (left - length p.notices) p.end (drop (p.end - at) window ++ more))
  window_goes_on = goes_on more false left at window

-- What was read of a window is an accepted batch, of the notices read; fewer bytes are kept than the longest field has; and a window
-- that has as many is not left alone.
pub window_counted : (left : ℕ) (window voice : List ℕ) → left ≤ MOST → Bytes window →
    let p = read_rest false left 0 window in
    week_of (take p.end window) voice ≡ record { refusal = none; counts = counts_of (replies voice p.notices) }
window_counted left window voice few bytes = ap (week_by voice) (windows.part_accepted false left window few bytes)

pub window_kept : (left : ℕ) (window : List ℕ) →
    let p = read_rest false left 0 window in
    p.refusal.number ≡ 0 → length (drop p.end window) < 291
window_kept = windows.few-kept

pub window_not_left_alone : (left : ℕ) (window : List ℕ) → 291 ≤ length window →
    let p = read_rest false left 0 window in
    p.refusal.number ≡ 0 → 0 < length p.notices
window_not_left_alone = windows.some_read

-- Counts that go on from counts are exact sums, while the replies are no more than the largest number.
pub onto_exact : (rs ss : List Reply) → length (rs ++ ss) ≤ LARGEST → plus (counts_of rs) (counts_of ss) ≡ counts_of (rs ++ ss)
onto_exact = totals.plus-append

-- Together: counted window after window, whatever the windows, a batch has the counts and the refusal of the whole.
pub windows_counted : (voice : List ℕ) (parts : List (List ℕ)) (last : List ℕ) → AllBytes parts → Bytes last →
    in_windows voice (counts_of []) MOST 0 [] parts last ≡ week_of (joined parts last) voice
windows_counted voice parts last all bytes = windows.in_windows_lem voice last bytes parts all
