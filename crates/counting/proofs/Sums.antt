-- The record of a batch cut between fields is the sum of the records of its parts.
use Prim.Native.Nat.{ℕ, ◌+◌, ◌≤◌}
use mathlib.Core.Path.{◌≡◌, refl, sym, ap, ◌∙◌}
use mathlib.Core.List.{List, [], ◌∷◌, ◌++◌}
use native.Mathlib.Omega.{arith}
use lib.ListN.{length, length-append}
use Rattle.batches.specs.Meaning.{read_batch, MOST}
use Rattle.counts.specs.Meaning.{counts_of, LARGEST}
use Rattle.weeks.specs.Meaning.{replies, week_of, onto_of}
use Rattle.counting.specs.Meaning.{sum, joined, AllAccepted, read_in, sum_in}
use Rattle.counting.proofs.Totals.{plus-sum}
use Rattle.counting.proofs.Cuts.{cut_notices}
use Rattle.counting.proofs.Records.{replies-length, record_append}

module _ (voice : List ℕ) where
  pub cut_counts : (a b : List ℕ) → (read_batch a).refusal.number ≡ 0 →
      length (read_batch a).notices + length (read_batch b).notices ≤ MOST →
      (week_of (a ++ b) voice).counts ≡ sum (week_of a voice).counts (week_of b voice).counts
  cut_counts a b ok few =
      ap (λ (ns : List (List ℕ)). counts_of (replies voice ns)) (cut_notices MOST a b ok few)
      ∙ record_append voice (read_batch a).notices (read_batch b).notices

  -- counted on from the counts of the first part, they are those of the whole
  pub cut_onto : (a b : List ℕ) → (read_batch a).refusal.number ≡ 0 →
      length (read_batch a).notices + length (read_batch b).notices ≤ MOST →
      (onto_of (week_of a voice).counts b voice).counts ≡ (week_of (a ++ b) voice).counts
  cut_onto a b ok few =
      let rs = replies voice (read_batch a).notices in
      let ss = replies voice (read_batch b).notices in
      let fits : length rs + length ss ≤ LARGEST =
      omega (arith, few, replies-length voice (read_batch a).notices, replies-length voice (read_batch b).notices) in
      plus-sum rs ss fits ∙ sym (cut_counts a b ok few)

  pub parts_sum : (parts : List (List ℕ)) (last : List ℕ) → AllAccepted parts → read_in parts last ≤ MOST →
      ((week_of (joined parts last) voice).counts ≡ sum_in voice parts last)
      × (length (read_batch (joined parts last)).notices ≡ read_in parts last)
  parts_sum [] last ok few = (refl, refl)
  parts_sum (part ∷ parts) last ok few =
      let rest = parts_sum parts last ok.1 (omega arith) in
      let behind = joined parts last in
      let enough : length (read_batch part).notices + length (read_batch behind).notices ≤ MOST = omega (arith, few, rest.1) in (
        cut_counts part behind ok.0 enough ∙ ap (sum (week_of part voice).counts) rest.0,
        ap length (cut_notices MOST part behind ok.0 enough)
            ∙ length-append (read_batch part).notices (read_batch behind).notices
            ∙ ap (λ (n : ℕ). length (read_batch part).notices + n) rest.1,
      )
