-- Where a reading ends and why: the notices read encode exactly the bytes before that.
use Prim.Native.Nat.{ℕ, zero, suc, ◌+◌, ◌-◌, ◌≤◌, ◌<◌}
use mathlib.Core.Path.{◌≡◌, refl, sym, ap, ap₂, ◌∙◌}
use mathlib.Core.Bool.{Bool, true, false, cond}
use mathlib.Core.List.{List, [], ◌∷◌, ◌++◌}
use native.Mathlib.Omega.{arith}
use lib.ListN.{length, take, drop, length-drop}
use lib.Seq.{take_all, take-append-add, drop-drop}
use borrow.Author.Tests.{ne_eqb, not-false, eqb-true, leb-true, leb-false}
use Rattle.refusals.specs.Meaning.{Numbers, none}
use Rattle.fields.specs.Meaning.{Bytes, field, size}
use Rattle.fields.proofs.Numbers.{bytes_drop}
use Rattle.batches.specs.Meaning.{fault, Part, stopped, followed, first_notice, field_size, behind, due, read_rest, bytes_of, Fits}
use Rattle.batches.proofs.Faults.{Sound}
use Rattle.batches.proofs.Reading.{each_reading, read_within}
use Rattle.counting.proofs.Firsts.{notice-length, field_write}
use Rattle.counting.specs.Meaning.{unread}

-- what is judged: a byte at the end, the longest field before it
pub due-end : (n : ℕ) → 0 < n → due true n ≡ true
due-end n h = rw (ne_eqb n 0 (λ e. omega (arith, e, h)))

pub none-due : (n : ℕ) → due true n ≡ false → n ≡ 0
none-due n e = eqb-true n 0 (not-false _ e)

pub longest_due : (n : ℕ) → due false n ≡ true → 291 ≤ n
longest_due n e = leb-true 291 n e

pub not-due : (n : ℕ) → due false n ≡ false → n < 291
not-due n e = leb-false 291 n e

-- a reading ends in its part, at a field that has a fault or that is left alone
pub record Told (ended : Bool) (left at : ℕ) (s : List ℕ) (p : Part) : Type 0 where
  pub from : at ≤ p.end
  pub why : p.refusal ≡ cond (due ended (length (unread at s p))) (fault (left - length p.notices) p.end (unread at s p)) none
  pub done : p.refusal.number ≡ 0 → due ended (length (unread at s p)) ≡ false

pub unread-all : (at : ℕ) (s : List ℕ) → drop (at - at) s ≡ s
unread-all at s = let z : at - at ≡ 0 = omega arith in rw z

pub unread-next : (at : ℕ) (s : List ℕ) (end : ℕ) → at + field_size s ≤ end → drop (end - at) s ≡ drop (end - (at + field_size s)) (behind s)
unread-next at s end h =
    let k = end - (at + field_size s) in
    let e : end - at ≡ field_size s + k = omega arith in
    rw e (sym (drop-drop k (field_size s) s))

module _ (ended : Bool) where
  told_waits : (left at : ℕ) (s : List ℕ) → due ended (length s) ≡ false → Told ended left at s (stopped at none)
  told_waits left at s d =
      record {
        from = omega arith;
        why = rw (unread-all at s, d);
        done = λ z. rw (unread-all at s) d;
      }

  told_stops : (left at : ℕ) (s : List ℕ) → due ended (length s) ≡ true → ((fault left at s).number ≡ 0 → ⊥) →
      Told ended left at s (stopped at (fault left at s))
  told_stops left at s d h =
      let e : left - 0 ≡ left = omega arith in
      record {
        from = omega arith;
        why = rw (unread-all at s, d, e);
        done = λ z. absurd (h z);
      }

  told_reads : (left at : ℕ) (s : List ℕ) → due ended (length s) ≡ true → Sound (suc left) s → (p : Part) →
      Told ended left (at + field_size s) (behind s) p →
      Told ended (suc left) at s (followed (first_notice s) p)
  told_reads left at s d h p t =
      let e : suc left - suc (length p.notices) ≡ left - length p.notices = omega arith in
      let u = unread-next at s p.end t.from in
      record {
        from = omega (arith, t.from);
        why = rw (u, e) t.why;
        done = rw u t.done;
      }

  pub each-ends : (left at : ℕ) (s : List ℕ) → Told ended left at s (read_rest ended left at s)
  each-ends = each_reading ended (Told ended) told_waits told_stops told_reads

  module _ (P : ℕ → ℕ → List ℕ → Part → Type 0)
      (waits : (left at : ℕ) (s : List ℕ) → due ended (length s) ≡ false → P left at s (stopped at none))
      (stops : (left at : ℕ) (s : List ℕ) → due ended (length s) ≡ true → ((fault left at s).number ≡ 0 → ⊥) →
      P left at s (stopped at (fault left at s)))
      (reads : (left at : ℕ) (s : List ℕ) → due ended (length s) ≡ true → Sound (suc left) s → (p : Part) →
      at + field_size s ≤ p.end →
      P left (at + field_size s) (behind s) p →
      P (suc left) at s (followed (first_notice s) p)) where
    pub each-told : (left at : ℕ) (s : List ℕ) → P left at s (read_rest ended left at s)
    each-told left at s =
        (each_reading ended (λ left at s p. Told ended left at s p × P left at s p)
        (λ left at s d. (told_waits left at s d, waits left at s d))
        (λ left at s d h. (told_stops left at s d h, stops left at s d h))
        (λ left at s d h p t. (told_reads left at s d h p t.0, reads left at s d h p t.0.from t.1))
        left at s).1

-- A field that is refused was judged.
loud_due : (d : Bool) (r f : Numbers) → r ≡ cond d f none → (r.number ≡ 0 → ⊥) → d ≡ true
loud_due true r f e h = refl
loud_due false r f e h = absurd (h (ap (λ (x : Numbers). x.number) e))

module _ (ended : Bool) (left at : ℕ) (s : List ℕ) (loud : (read_rest ended left at s).refusal.number ≡ 0 → ⊥) where
  abbrev P : Part
  P = read_rest ended left at s

  pub refused-due : due ended (length (unread at s P)) ≡ true
  refused-due = loud_due _ P.refusal _ (each-ends ended left at s).why loud

  pub refused_why : P.refusal ≡ fault (left - length P.notices) P.end (unread at s P)
  refused_why = (each-ends ended left at s).why ∙ rw refused-due

-- The notices read encode the bytes that were read.
pub bytes_take : (s : List ℕ) → Bytes s → (i : ℕ) → Bytes (take i s)
bytes_take s h zero = tt
bytes_take [] h (suc i) = tt
bytes_take (b ∷ s) h (suc i) = (h.0, bytes_take s h.1 i)

pub record Encoded (at : ℕ) (s : List ℕ) (p : Part) : Type 0 where
  pub written : bytes_of p.notices ≡ take (p.end - at) s
  pub fits : Fits p.notices

abbrev Writes : ℕ → ℕ → List ℕ → Part → Type 0
Writes left at s p = Bytes s → Encoded at s p

taken_none : (at : ℕ) (s : List ℕ) → [] ≡ take (at - at) s
taken_none at s = let z : at - at ≡ 0 = omega arith in rw z

taken_next : (left at : ℕ) (s : List ℕ) → Sound left s → Bytes s → (end : ℕ) → at + field_size s ≤ end →
    field 17 (first_notice s) ++ take (end - (at + field_size s)) (behind s) ≡ take (end - at) s
taken_next left at s h bytes end l =
    let f = field 17 (first_notice s) in
    let k = end - (at + field_size s) in
    let e : length f + k ≡ end - at = omega (arith, notice-length s h.whole) in
    sym (take-append-add f (behind s) k) ∙ ap₂ (λ (i : ℕ) (l : List ℕ). take i l) e (field_write s h bytes)

pub each_encoded : (ended : Bool) (left at : ℕ) (s : List ℕ) → Writes left at s (read_rest ended left at s)
each_encoded ended =
    each-told ended Writes
    (λ left at s d bytes. record { written = taken_none at s; fits = tt })
    (λ left at s d h bytes. record { written = taken_none at s; fits = tt })
    (λ left at s d h p l w bytes.
    let x = w (bytes_drop s bytes (field_size s)) in
    record {
      written = ap (λ (l : List ℕ). field 17 (first_notice s) ++ l) x.written ∙ taken_next (suc left) at s h bytes p.end l;
      fits = (
        bytes_take (drop 3 s) (bytes_drop s bytes 3) (size s),
        rw (notice-length s h.whole) h.short,
        x.fits,
      );
    })

-- A batch that is accepted is read to its end.
pub accepted_whole : (left at : ℕ) (s : List ℕ) → (read_rest true left at s).refusal.number ≡ 0 →
    (read_rest true left at s).end ≡ at + length s
accepted_whole left at s z =
    let p = read_rest true left at s in
    let t = each-ends true left at s in
    omega (arith, t.from, read_within true left at s, length-drop (p.end - at) s, none-due (length (unread at s p)) (t.done z))

pub accepted_none : (left at : ℕ) (s : List ℕ) → (read_rest true left at s).refusal.number ≡ 0 → (read_rest true left at s).refusal ≡ none
accepted_none left at s z = let t = each-ends true left at s in t.why ∙ rw (t.done z)

pub accepted_encoded : (left at : ℕ) (s : List ℕ) → Bytes s → (read_rest true left at s).refusal.number ≡ 0 →
    bytes_of (read_rest true left at s).notices ≡ s
accepted_encoded left at s bytes z =
    let p = read_rest true left at s in
    (each_encoded true left at s bytes).written ∙ take_all (p.end - at) s (omega (arith, accepted_whole left at s z))
