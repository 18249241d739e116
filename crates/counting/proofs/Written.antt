-- Reading a batch inverts writing it; a batch is accepted exactly when it is the writing of a lawful list, the only one.
use Prim.Native.Nat.{ℕ, zero, suc, ◌+◌, ◌≤◌}
use mathlib.Core.Path.{◌≡◌, refl, sym, ap, ◌∙◌}
use mathlib.Core.Bool.{true}
use mathlib.Core.List.{List, [], ◌∷◌, ◌++◌}
use mathlib.Core.Logic.{◌↔◌}
use native.Mathlib.Omega.{arith}
use lib.ListN.{length, length-append}
use Rattle.refusals.specs.Meaning.{none}
use Rattle.fields.specs.Meaning.{Bytes, field}
use Rattle.batches.specs.Meaning.{Part, followed, read_rest, read_batch, bytes_of, Fits, Lawful, MOST}
use Rattle.counting.proofs.Firsts.{size-written, sound-written, notice-written, behind-written, rest_reads}
use Rattle.batches.proofs.Reading.{read_left, read_few}
use Rattle.counting.proofs.Ends.{due-end, each_encoded, accepted_encoded}

abbrev pub whole : ℕ → List (List ℕ) → Part
whole at ns = record { notices = ns; refusal = none; end = at + length (bytes_of ns) }

pub write_read : (ns : List (List ℕ)) (left at : ℕ) → length ns ≤ left → Fits ns → read_rest true left at (bytes_of ns) ≡ whole at ns
write_read [] left at h f = read_left true at [] left refl ∙ (let e : at ≡ at + 0 = omega arith in rw (← e))
write_read (n ∷ ns) zero at h f = absurd (omega arith)
write_read (n ∷ ns) (suc left) at h f =
    let s = field 17 n ++ bytes_of ns in
    let e : at + (3 + length n) + length (bytes_of ns) ≡ at + length s = omega (arith, length-append (field 17 n) (bytes_of ns)) in
    rest_reads true left at s (due-end (length s) (omega arith)) (sound-written left n (bytes_of ns) f.1)
    ∙ rw (
      notice-written left n (bytes_of ns) f.1,
      behind-written left n (bytes_of ns) f.1,
      size-written left n (bytes_of ns) f.1,
    )
    (ap (followed n) (write_read ns left (at + (3 + length n)) (omega arith) f.2) ∙ rw e)

pub read_lawful : (ns : List (List ℕ)) → Lawful ns → read_batch (bytes_of ns) ≡ whole 0 ns
read_lawful ns h = write_read ns MOST 0 h.few h.fits

pub lawful_read : (b : List ℕ) → Bytes b → Lawful (read_batch b).notices
lawful_read b bytes = record { few = read_few true MOST 0 b; fits = (each_encoded true MOST 0 b bytes).fits }

pub lawful_only : (ns ms : List (List ℕ)) → Lawful ns → Lawful ms → bytes_of ns ≡ bytes_of ms → ns ≡ ms
lawful_only ns ms h i e =
    ap (λ (p : Part). p.notices) (sym (read_lawful ns h)) ∙ ap (λ (b : List ℕ). (read_batch b).notices) e
    ∙ ap (λ (p : Part). p.notices) (read_lawful ms i)

pub accepted_exactly : (b : List ℕ) → Bytes b →
    ((read_batch b).refusal.number ≡ 0) ↔ ((ns : List (List ℕ)) × (Lawful ns × (bytes_of ns ≡ b)))
accepted_exactly b bytes = (
  λ z. ((read_batch b).notices, (lawful_read b bytes, accepted_encoded MOST 0 b bytes z)),
  λ h. ap (λ (s : List ℕ). (read_batch s).refusal.number) (sym h.1.1)
      ∙ ap (λ (p : Part). p.refusal.number) (read_lawful h.0 h.1.0),
)
