-- A batch read in parts: with more bytes behind it, moved, and with fewer notices allowed.
use Prim.Native.Nat.{ℕ, suc, ◌+◌, ◌-◌, ◌≤◌, ◌<◌}
use mathlib.Core.Path.{◌≡◌, refl, ap, ◌∙◌}
use mathlib.Core.Bool.{Bool, true, false, cond}
use mathlib.Core.List.{List, ◌++◌}
use native.Mathlib.Omega.{arith}
use lib.Dec.{ltb, eqb}
use lib.ListN.{length, length-append}
use Rattle.refusals.specs.Meaning.{Numbers, none}
use Rattle.fields.specs.Meaning.{tag, size, short_header, short_value}
use Rattle.batches.specs.Meaning.{fault, Part, stopped, followed, first_notice, field_size, behind, due, read_rest}
use Rattle.batches.proofs.Faults.{Sound, fault-none}
use Rattle.counting.proofs.Firsts.{judged, sound-fault, fault-more, size-more, sound_more, rest_reads}
use Rattle.counting.proofs.Firsts.{notice-more, behind_more}
use Rattle.batches.proofs.Reading.{read_left, read_refused}
use Rattle.counting.proofs.Ends.{due-end, longest_due, unread-all, unread-next, each-told}
use Rattle.counting.specs.Meaning.{behind_these, unread, moved_refusal, moved}

module _ (more : List ℕ) where
  -- a notice at the front is read, whatever is behind it
  next_more : (left at : ℕ) (s : List ℕ) → Sound (suc left) s →
      read_rest true (suc left) at (s ++ more) ≡ followed (first_notice s) (read_rest true left (at + field_size s) (behind s ++ more))
  next_more left at s h =
      let w : 3 ≤ length s = omega (arith, h.whole) in
      rest_reads true left at (s ++ more) (due-end (length (s ++ more)) (rw (length-append s more) (omega arith))) (sound_more s more h)
      ∙ rw (notice-more s more h, behind_more s more h, size-more s more w)

  -- where nothing is refused, reading goes on with what was left
  abbrev pub Onward : ℕ → ℕ → List ℕ → Part → Type 0
  Onward left at s p = p.refusal.number ≡ 0 →
      read_rest true left at (s ++ more)
      ≡ behind_these p.notices (read_rest true (left - length p.notices) p.end (unread at s p ++ more))

  pub goes_on : (ended : Bool) (left at : ℕ) (s : List ℕ) → Onward left at s (read_rest ended left at s)
  goes_on ended =
      each-told ended Onward
      (λ left at s d z. let e : left - 0 ≡ left = omega arith in rw (unread-all at s, e))
      (λ left at s d h z. absurd (h z))
      (λ left at s d h p l w z.
      let e : suc left - suc (length p.notices) ≡ left - length p.notices = omega arith in
      next_more left at s h ∙ rw (unread-next at s p.end l, e) (ap (followed (first_notice s)) (w z)))

  -- what is refused while more is to come is refused alike with it
  abbrev pub Refused : ℕ → ℕ → List ℕ → Part → Type 0
  Refused left at s p = (p.refusal.number ≡ 0 → ⊥) → read_rest true left at (s ++ more) ≡ p

  pub stays_refused : (left at : ℕ) (s : List ℕ) → Refused left at s (read_rest false left at s)
  stays_refused =
      each-told false Refused
      (λ left at s d z. absurd (z refl))
      (λ left at s d h z.
      let l : 291 ≤ length s = longest_due (length s) d in
      let e = fault-more left at s more l in
      read_refused true at (s ++ more) left (due-end (length (s ++ more)) (rw (length-append s more) (omega arith))) (rw e h)
      ∙ ap (stopped at) e)
      (λ left at s d h p l w z. next_more left at s h ∙ ap (followed (first_notice s)) (w z))

-- moved
fault_by : (at by : ℕ) (a b c d e : Bool) → judged (by + at) a b c d e ≡ moved_refusal by (judged at a b c d e)
fault_by at by true b c d e = refl
fault_by at by false false c d e = refl
fault_by at by false true true d e = refl
fault_by at by false true false true e = refl
fault_by at by false true false false true = refl
fault_by at by false true false false false = refl

pub fault-moved : (left at by : ℕ) (s : List ℕ) → fault left (by + at) s ≡ moved_refusal by (fault left at s)
unfolding fault
fault-moved left at by s =
    fault_by at by (short_header s) (eqb (tag s) 17) (eqb left 0) (ltb 288 (size s)) (short_value (size s) s)

-- a number is kept
pub number-moved : (by : ℕ) (r : Numbers) → (moved_refusal by r).number ≡ r.number
number-moved by r = go (eqb r.number 0)
  where
    go : (b : Bool) → (cond b r (record { number = r.number; place = by + r.place; second = r.second })).number ≡ r.number
    go true = refl
    go false = refl

abbrev Moves : Bool → ℕ → ℕ → ℕ → List ℕ → Part → Type 0
Moves ended by left at s p = read_rest ended left (by + at) s ≡ moved by p

pub each-moved : (ended : Bool) (by left at : ℕ) (s : List ℕ) → Moves ended by left at s (read_rest ended left at s)
each-moved ended by =
    each-told ended (Moves ended by)
    (λ left at s d. read_left ended (by + at) s left d)
    (λ left at s d h.
    let e = fault-moved left at by s in
    read_refused ended (by + at) s left d (rw (e, number-moved by (fault left at s)) h) ∙ rw e)
    (λ left at s d h p l w.
    let e : by + at + field_size s ≡ by + (at + field_size s) = omega arith in
    rest_reads ended left (by + at) s d h ∙ rw (e, w))

-- with fewer notices allowed, but as many as were read
abbrev Fewer : Bool → ℕ → ℕ → List ℕ → Part → Type 0
Fewer ended left at s p = (fewer : ℕ) → fewer ≤ left → length p.notices ≤ fewer →
    read_rest ended fewer at s
    ≡ record {
      notices = p.notices;
      refusal = cond (due ended (length (unread at s p))) (fault (fewer - length p.notices) p.end (unread at s p)) none;
      end = p.end;
    }

fewer-sound : (left fewer : ℕ) (s : List ℕ) → Sound left s → 0 < fewer → Sound fewer s
fewer-sound left fewer s h l = record { room = l; tagged = h.tagged; short = h.short; whole = h.whole }

pub each_fewer : (ended : Bool) (left at : ℕ) (s : List ℕ) → Fewer ended left at s (read_rest ended left at s)
each_fewer ended =
    each-told ended (Fewer ended)
    (λ left at s d fewer l m. read_left ended at s fewer d ∙ rw (unread-all at s, d))
    (λ left at s d h fewer l m.
    let e : fewer - 0 ≡ fewer = omega arith in
    let loud : (fault fewer at s).number ≡ 0 → ⊥ = λ z.
    let f = fault-none fewer at s z in
    h (ap (λ (r : Numbers). r.number) (sound-fault left at s (fewer-sound fewer left s f (omega (arith, f.room, l))))) in
    read_refused ended at s fewer d loud ∙ rw (unread-all at s, d, e))
    (λ left at s d h p k w fewer l m.
    let e : fewer ≡ suc (fewer - 1) = omega (arith, m) in
    let f : fewer - suc (length p.notices) ≡ fewer - 1 - length p.notices = omega (arith, m) in
    ap (λ (x : ℕ). read_rest ended x at s) e
    ∙ rest_reads ended (fewer - 1) at s d (fewer-sound (suc left) (suc (fewer - 1)) s h (omega arith))
    ∙ rw (unread-next at s p.end k, f) (ap (followed (first_notice s)) (w (fewer - 1) (omega (arith, l)) (omega (arith, m)))))
