-- Why and where a batch is refused: at the field behind the notices read, which stay as they were.
use Prim.Native.Nat.{ℕ, ◌-◌, ◌≤◌}
use mathlib.Core.Path.{◌≡◌, refl, sym, ap, ◌∙◌}
use mathlib.Core.Logic.{◌↔◌, ⊎_elim}
use mathlib.Core.Bool.{Bool, true, false}
use mathlib.Core.List.{List}
use native.Mathlib.Omega.{arith}
use lib.Dec.{T, eqb}
use lib.ListN.{length, take, drop}
use lib.Seq.{length-take-le}
use borrow.Author.Tests.{eqb-true, eqb-false}
use Rattle.refusals.specs.Meaning.{Numbers, refused, WEEK}
use Rattle.fields.specs.Meaning.{Bytes, tag}
use Rattle.batches.specs.Meaning.{fault, Part, read_rest, bytes_of}
use Rattle.batches.proofs.Reading.{read_few, read_within}
use Rattle.replying.specs.Meaning.{published}
use Rattle.counting.proofs.Faults.{Refuses, fault-place, fault-number, fault_week}
use Rattle.counting.proofs.Ends.{due-end, each-ends, each_encoded, refused_why, accepted_none}

abbrev P : ℕ → List ℕ → Part
P left b = read_rest true left 0 b

start_none : (b : List ℕ) (end : ℕ) → drop (end - 0) b ≡ drop end b
start_none b end = let e : end - 0 ≡ end = omega arith in rw e

module _ (left : ℕ) (b : List ℕ) where
  module _ (loud : (P left b).refusal.number ≡ 0 → ⊥) where
    stop_why : (P left b).refusal ≡ fault (left - length (P left b).notices) (P left b).end (drop (P left b).end b)
    stop_why = rw start_none at (refused_why true left 0 b loud)

    stop_loud : (fault (left - length (P left b).notices) (P left b).end (drop (P left b).end b)).number ≡ 0 → ⊥
    stop_loud = rw (← stop_why) loud

    -- the number is one of four, the place the offset where reading stopped, the second number 0
    pub stop-number : Refuses (P left b).refusal.number
    stop-number = rw stop_why (fault-number (P left b).end (drop (P left b).end b) (left - length (P left b).notices) stop_loud)

    pub stop-place : (P left b).refusal ≡ refused (P left b).refusal.number (P left b).end
    stop-place =
        stop_why ∙ fault-place (P left b).end (drop (P left b).end b) (left - length (P left b).notices) stop_loud
        ∙ ap (λ (r : Numbers). refused r.number (P left b).end) (sym stop_why)

    pub stop-published : T (published (P left b).refusal.number)
    stop-published =
        ⊎_elim (λ e. rw e tt) (λ h. ⊎_elim (λ e. rw e tt) (λ i. ⊎_elim (λ e. rw e tt) (λ e. rw e tt) i) h) stop-number

  pub stop-second : (P left b).refusal.second ≡ 0
  stop-second = go (eqb (P left b).refusal.number 0) refl
    where
      go : (d : Bool) → eqb (P left b).refusal.number 0 ≡ d → (P left b).refusal.second ≡ 0
      go true e = ap (λ (r : Numbers). r.second) (accepted_none left 0 b (eqb-true (P left b).refusal.number 0 e))
      go false e = ap (λ (r : Numbers). r.second) (stop-place (eqb-false (P left b).refusal.number 0 e))

  pub stop-within : (P left b).end ≤ length b
  stop-within = omega (arith, read_within true left 0 b)

  -- what was read before is untouched: it encodes exactly the bytes before that offset
  module _ (bytes : Bytes b) where
    pub stop_before : bytes_of (P left b).notices ≡ take (P left b).end b
    stop_before = let e : (P left b).end - 0 ≡ (P left b).end = omega arith in rw e at (each_encoded true left 0 b bytes).written

    pub stop-length : length (bytes_of (P left b).notices) ≡ (P left b).end
    stop-length = ap length stop_before ∙ length-take-le (P left b).end b stop-within

  -- a notice too many, exactly: all that are allowed were read, and a notice's header follows
  pub stop_week : ((P left b).refusal.number ≡ WEEK) ↔
      ((length (P left b).notices ≡ left) × ((3 ≤ length (drop (P left b).end b)) × (tag (drop (P left b).end b) ≡ 17)))
  stop_week = (
    λ w.
        let loud : (P left b).refusal.number ≡ 0 → ⊥ = λ z. omega (arith, w, z) in
        let h = (fault_week (P left b).end (drop (P left b).end b) (left - length (P left b).notices)).0
        (ap (λ (r : Numbers). r.number) (sym (stop_why loud)) ∙ w) in
        (omega (arith, h.0, read_few true left 0 b), h.1),
    λ h.
        let rest = drop (P left b).end b in
        let why : (P left b).refusal ≡ fault (left - length (P left b).notices) (P left b).end rest =
        rw start_none at (each-ends true left 0 b).why ∙ rw (due-end (length rest) (omega (arith, h.1.0))) in
        ap (λ (r : Numbers). r.number) why
        ∙ (fault_week (P left b).end rest (left - length (P left b).notices)).1 (omega (arith, h.0), h.1),
  )
