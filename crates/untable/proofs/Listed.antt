-- The ways out: the words' answers are the array's, so the table that lists them is the array's.
use Prim.Native.Nat.{ℕ}
use mathlib.Core.Path.{◌≡◌, refl, ap, ◌∙◌}
use mathlib.Core.List.{List}
use lib.ListN.{replicate}
use borrow.Author.Tests.{eq-eqb, ne_eqb}
use Rattle.std.specs.Prelude.{Result, Ok, Err}
use Rattle.refusals.specs.Meaning.{numbers, kind_number}
use Rattle.refusals.specs.declared.Refusal.{Refusal}
use Rattle.refusals.proofs.Checks.{refusal_counts}
use Rattle.base4.specs.Meaning.{situations_of}
use Rattle.nodes.specs.Meaning.{evaluate_of}
use Rattle.planes.specs.declared.Planes.{Planes}
use Rattle.planes.specs.Meaning.{planes_of, filled, refuse_filled}
use Rattle.planes.proofs.Lanes.{planes_refused, planes_fine}
use Rattle.steps.specs.Meaning.{in_words}
use Rattle.growth.specs.Meaning.{answer_at}
use Rattle.growth.proofs.CheckReply.{words_answer}
use Rattle.listing.specs.Meaning.{Written, listed_rows, listed, wrote, list_of, written_of}
use Rattle.listing.proofs.Rows.{listed_same}
use Rattle.untable.specs.Meaning.{table_back, untable_of}

module _ (nodes : List ℕ) (n : ℕ) where
  module _ (r : Result ℕ Refusal) (x : Refusal) (e : refuse_filled (numbers x) ≡ planes_of nodes n) (q : r ≡ Err x) where
    pub untable-refused : (room : ℕ) → wrote r ≡ untable_of nodes n room
    unfolding untable_of
    untable-refused room =
        let z = planes_refused nodes n e (refusal_counts x) in
        ap wrote q ∙ (rw (← z, ne_eqb (kind_number x.kind) 0 (refusal_counts x)))

    pub refused_nothing : (lent : List ℕ) → lent ≡ written_of (table_back nodes n) (wrote r) lent
    unfolding written_of
    refused_nothing lent = rw (q, ne_eqb (kind_number x.kind) 0 (refusal_counts x))

  module _ (p : Planes) (e : filled (Ok p) ≡ planes_of nodes n) where
    same : listed_rows (in_words p.bury p.keep) (situations_of n) ≡ listed_rows (answer_at nodes) (situations_of n)
    same = listed_same (in_words p.bury p.keep) (answer_at nodes) n (words_answer nodes n e refl)

    pub untable-listed : (room : ℕ) {r : Written} → r ≡ list_of (in_words p.bury p.keep) n room → r ≡ untable_of nodes n room
    unfolding untable_of list_of
    untable-listed room q = rw (eq-eqb (evaluate_of nodes (replicate n 0)).refusal.number 0 (planes_fine nodes n e refl), ← same) q

    pub listed-written :
        (r : Written) (lent : List ℕ) {new : List ℕ} →
        new ≡ written_of (listed (in_words p.bury p.keep) n) r lent →
        new ≡ written_of (table_back nodes n) r lent
    listed-written r lent w = rw same at w

-- What `untable` returns and writes.
pub ruleset untable_laws = (untable-refused, refused_nothing, untable-listed, listed-written)
