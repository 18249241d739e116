-- What someone who runs `weekcount` sees (request K2): a voice's record, whole, and it says the counts.
use Prim.Native.Nat.{ℕ, zero, suc, ◌+◌, ◌≤◌, ◌^◌, ◌<◌}
use mathlib.Core.Path.{◌≡◌}
use mathlib.Core.Bool.{Bool, true}
use mathlib.Core.List.{List}
use native.Mathlib.Omega.{arith}
use lib.ListN.{length, take}
use Rattle.refusals.specs.Meaning.{Numbers}
use Rattle.answers.specs.declared.Answer.TheVariants.{Silent, Bury, Keep, Clash}
use Rattle.answers.specs.Meaning.{Reply}
use Rattle.batches.specs.Meaning.{read_batch, MOST}
use Rattle.batches.proofs.Reading.{read_few}
use Rattle.counts.specs.declared.Counts.{Counts}
use Rattle.counts.specs.Meaning.{count, refused, gave, refused_as, numbers_from}
use Rattle.counts.proofs.Raising.{count_most}
use Rattle.weeks.specs.Meaning.{replies, week_of}
use Rattle.counting.proofs.Totals.{numbers-length}
use Rattle.counting.proofs.Records.{replies-length}
use Rattle.text.specs.Meaning.{Printed}
use Rattle.reports.specs.Meaning.{record_text, batch_line, Fit, Sized}
use Rattle.reports.proofs.Lengths.{record_length, batch_length, printed_whole}
use Rattle.reports.proofs.Saying.{record_says}

-- A record is at most 1,157 bytes longer than its name, so a buffer of 8,192 bytes has room for every record whose name has at most
-- 4,096: what stands there is the record, whole. So it is of the line on a refused batch.
pub record_at_most : (name : List ℕ) (c : Counts) → length c.numbers ≡ 32 → length (record_text name c) ≤ length name + 1157
record_at_most = record_length

pub record_printed_whole : (name : List ℕ) (c : Counts) (lent new : List ℕ) (next : ℕ) →
    length c.numbers ≡ 32 → length name ≤ 4096 → length lent ≡ 8192 → Printed lent 0 (record_text name c) new next →
    take next new ≡ record_text name c
record_printed_whole name c lent new next e short room p =
    printed_whole (record_text name c) lent new next (omega (arith, record_length name c e, short, room)) p

pub batch_printed_whole : (r : Numbers) (lent new : List ℕ) (next : ℕ) → length lent ≡ 8192 → Printed lent 0 (batch_line r) new next →
    take next new ≡ batch_line r
batch_printed_whole r lent new next room p = printed_whole (batch_line r) lent new next (omega (arith, batch_length r, room)) p

-- The text says the counts: two records of one name that are equal byte for byte have equal counts, where every count is a number of
-- 64 bits ..
pub record_says_counts : (name : List ℕ) (c d : Counts) → Sized c → Sized d → record_text name c ≡ record_text name d → c ≡ d
record_says_counts = record_says

-- .. and the counts of a week are.
module _ (rs : List Reply) (few : length rs ≤ MOST) where
  small : (test : Reply → Bool) → count test rs < 2 ^ 64
  small test = omega (arith, count_most test rs, few)

  numbers-small : (n places : ℕ) → Fit (numbers_from n places rs)
  unfolding numbers_from
  numbers-small n zero = tt
  numbers-small n (suc places) = (small (refused_as n), numbers-small (suc n) places)

pub week_sized : (batch voice : List ℕ) → Sized (week_of batch voice).counts
week_sized batch voice =
    let ns = (read_batch batch).notices in
    let rs = replies voice ns in
    let few : length rs ≤ MOST = omega (arith, replies-length voice ns, read_few true MOST 0 batch) in
    record {
      places = numbers-length 0 32 rs;
      totals = (
        small rs few (gave Silent),
        (small rs few (gave Bury), (small rs few (gave Keep), (small rs few (gave Clash), (small rs few refused, tt)))),
      );
      numbered = numbers-small rs few 0 32;
    }
