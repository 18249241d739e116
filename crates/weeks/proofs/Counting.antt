-- The loop that counts the notices of a batch.
use Prim.Native.Nat.{ℕ, ◌+◌, ◌-◌, ◌≤◌, ◌<◌}
use mathlib.Core.Path.{◌≡◌, ap, sym, ◌∙◌}
use mathlib.Core.Bool.{true, false}
use mathlib.Core.List.{List, [], ◌∷◌}
use native.Mathlib.Omega.{arith}
use lib.ListN.{length, take, drop, length-drop, length-map}
use lib.Seq.{drop-drop}
use borrow.Author.Tests.{eq-eqb, ne_eqb}
use Rattle.std.specs.Prelude.{Result, Err}
use Rattle.refusals.specs.declared.Refusal.{Refusal}
use Rattle.refusals.specs.Meaning.{Numbers, none, numbers, checked}
use Rattle.refusals.proofs.Checks.{refusal_counts}
use Rattle.fields.specs.Meaning.{size}
use Rattle.fields.proofs.Rests.{rest-is}
use Rattle.voices.specs.Meaning.{speak_of}
use Rattle.batches.specs.Meaning.{MOST, Part, first_notice, field_size, behind, fault, due, stopped, followed, read_rest, read_batch}
use Rattle.batches.proofs.Faults.{Sound, fault-none}
use Rattle.batches.proofs.Reading.{read_left, read_refused, read_more, read_few}
use Rattle.counts.specs.declared.Counts.{Counts}
use Rattle.counts.specs.Meaning.{counts_of, plus}
use Rattle.counts.proofs.Raising.{plus_none, plus-more, plus_from_none}
use Rattle.weeks.specs.Meaning.{replies, told, week_by, week_of, onto, onto_of}
use Rattle.weeks.specs.Inside.{Counting}

onto-stopped : (c : Counts) (voice : List ℕ) (at : ℕ) (r : Numbers) → told r c ≡ onto c (week_by voice (stopped at r))
onto-stopped c voice at r = ap (told r) (sym (plus_none c))

onto-followed :
    (c : Counts) (voice n : List ℕ) (p : Part) →
    onto c (week_by voice (followed n p)) ≡ onto (plus c (counts_of (speak_of n voice ∷ []))) (week_by voice p)
onto-followed c voice n p =
    ap (told p.refusal) (plus-more (speak_of n voice) (replies voice p.notices) c)

-- counted from nothing, a batch has its own counts
pub onto-none : (batch voice : List ℕ) → onto_of (counts_of []) batch voice ≡ week_of batch voice
onto-none batch voice =
    let few = read_few true MOST 0 batch in
    let long : length (replies voice (read_batch batch).notices) ≡ length (read_batch batch).notices =
    length-map (read_batch batch).notices (λ n. speak_of n voice) in
    ap (told (read_batch batch).refusal)
    (plus_from_none (replies voice (read_batch batch).notices) (omega (arith, few, long)))

module _ (batch voice : List ℕ) (first : Counts) {now : Counts} {left at : ℕ} (w : Counting batch voice first now left at) where
  abbrev s : List ℕ
  s = drop at batch

  long : length s ≡ length batch - at
  long = length-drop at batch

  -- the batch has ended
  pub counting_ends : length batch ≤ at → {r : Numbers} → r ≡ none → told r now ≡ onto_of first batch voice
  counting_ends l q =
      let empty : due true (length s) ≡ false = rw (eq-eqb (length s) 0 (omega (arith, long))) in
      rw q (onto-stopped now voice at none ∙ sym (ap (λ (p : Part). onto now (week_by voice p)) (read_left true at s left empty)) ∙ w.rest)

  module _ (l : at < length batch) {r : Numbers} (f : r ≡ fault left at (take (length batch - at) (drop at batch))) where
    judged : due true (length s) ≡ true
    judged = rw (ne_eqb (length s) 0 (λ e. omega (arith, long, e)))

    fault-is : r ≡ fault left at s
    fault-is = f ∙ ap (fault left at) (rest-is at batch)

    -- a field that is refused
    pub counting_stops : (r.number ≡ 0 → ⊥) → told r now ≡ onto_of first batch voice
    counting_stops k =
        let refuses : (fault left at s).number ≡ 0 → ⊥ = rw (← fault-is) k in
        rw fault-is
        (onto-stopped now voice at (fault left at s)
        ∙ sym (ap (λ (p : Part). onto now (week_by voice p)) (read_refused true at s left judged refuses))
        ∙ w.rest)

    pub counting_refused : (q : Result Unit Refusal) (x : Refusal) → r ≡ numbers x → q ≡ Err x → told (checked q) now ≡ onto_of first batch voice
    counting_refused q x e j =
        ap (λ (o : Result Unit Refusal). told (checked o) now) j
        ∙ ap (λ (n : Numbers). told n now) (sym e)
        ∙ counting_stops (rw e (refusal_counts x))

    -- a notice
    module _ (k : r.number ≡ 0) where
      sound : Sound left s
      sound = fault-none left at s (rw (← fault-is) k)

      module _ {n : ℕ} (g : n ≡ size (take (length batch - at) (drop at batch))) where
        size_is : n ≡ size s
        size_is = g ∙ ap size (rest-is at batch)

        pub counting_within : at + 3 + n ≤ length batch
        counting_within = let whole = sound.whole in omega (arith, size_is, long)

        pub counting_more :
            {next : Counts} →
            next ≡ plus now (counts_of (speak_of (take (at + 3 + n - (at + 3)) (drop (at + 3) batch)) voice ∷ [])) →
            Counting batch voice first next (left - 1) (at + 3 + n)
        counting_more {next} v =
            let notice : take (at + 3 + n - (at + 3)) (drop (at + 3) batch) ≡ first_notice s =
            let m : at + 3 + n - (at + 3) ≡ size s = omega (arith, size_is) in rw (m, ← drop-drop 3 at batch) in
            let place : at + 3 + n ≡ at + field_size s = omega (arith, size_is) in
            let counted : next ≡ plus now (counts_of (speak_of (first_notice s) voice ∷ [])) =
            v ∙ ap (λ t. plus now (counts_of (speak_of t voice ∷ []))) notice in
            let step : onto now (week_by voice (read_rest true left at s)) ≡ onto next (week_by voice after) =
            ap (λ (p : Part). onto now (week_by voice p)) (read_more true at s left judged (rw (← fault-is) k))
            ∙ onto-followed now voice (first_notice s) after
            ∙ ap (λ (d : Counts). onto d (week_by voice after)) (sym counted) in
            record { inside = counting_within; rest = rw (place, ← drop-drop (field_size s) at batch) (sym step ∙ w.rest) }
          where
            after : Part
            after = read_rest true (left - 1) (at + field_size s) (behind s)
