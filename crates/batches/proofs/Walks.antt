-- The loop that walks through a part of a batch.
use Prim.Native.Nat.{ℕ, suc, ◌+◌, ◌-◌, ◌≤◌, ◌<◌}
use mathlib.Core.Path.{◌≡◌, refl, ap, sym, ◌∙◌}
use mathlib.Core.Bool.{Bool, true, false}
use mathlib.Core.List.{List}
use borrow.Author.Tests.{le-leb, eqb-true, eqb-false}
use native.Mathlib.Omega.{arith}
use lib.Dec.{eqb}
use lib.ListN.{length, take, drop, length-drop}
use lib.Seq.{drop-drop}
use Rattle.refusals.specs.Meaning.{Numbers, none}
use Rattle.fields.specs.Meaning.{size}
use Rattle.fields.proofs.Rests.{rest-is}
use Rattle.batches.specs.Meaning.{Part, first_notice, field_size, behind, fault, due, stopped, followed, read_rest, walked_by, walk_of}
use Rattle.batches.specs.Inside.{Walking}
use Rattle.batches.proofs.Faults.{Sound, fault-none}
use Rattle.batches.proofs.Reading.{read_left, read_refused, read_more, read_within}

walked_followed : (left : ℕ) (n : List ℕ) (p : Part) → walked_by left (followed n p) ≡ walked_by (left - 1) p
walked_followed left n p =
    let less : left - suc (length p.notices) ≡ left - 1 - length p.notices = omega arith in
    ap (λ k. record { refusal = p.refusal; length = p.end; left = k }) less

walked_stopped : (left at : ℕ) (r : Numbers) → record { refusal = r; length = at; left = left } ≡ walked_by left (stopped at r)
walked_stopped left at r = let same : left ≡ left - 0 = omega arith in ap (λ k. record { refusal = r; length = at; left = k }) same

-- a field without a fault is one of those that may still come
pub walk-room : (left at : ℕ) (s : List ℕ) {r : Numbers} → r ≡ fault left at s → r.number ≡ 0 → 1 ≤ left
walk-room left at s f k = (fault-none left at s (rw (← f) k)).room

module _ (ended : Bool) (part : List ℕ) (all : ℕ) {left passed : ℕ} (w : Walking ended part all left passed) where
  abbrev s : List ℕ
  s = drop passed part

  module _ {d : Bool} (e : d ≡ due ended (length part - passed)) where
    judged : {b : Bool} → d ≡ b → due ended (length s) ≡ b
    judged h = rw length-drop (sym e ∙ h)

    -- nothing more to judge
    pub walk_ends : d ≡ false → {r : Numbers} → r ≡ none → record { refusal = r; length = passed; left = left } ≡ walk_of ended all part
    walk_ends h q = rw q (walked_stopped left passed none ∙ sym (ap (walked_by left) (read_left ended passed s left (judged h))) ∙ w.rest)

    module _ (h : d ≡ true) {r : Numbers} (f : r ≡ fault left passed (take (length part - passed) (drop passed part))) where
      fault-is : r ≡ fault left passed s
      fault-is = f ∙ ap (fault left passed) (rest-is passed part)

      -- a field that is refused
      pub walk_stops : (r.number ≡ 0 → ⊥) → record { refusal = r; length = passed; left = left } ≡ walk_of ended all part
      walk_stops k =
          let refuses : (fault left passed s).number ≡ 0 → ⊥ = rw (← fault-is) k in
          rw fault-is
          (walked_stopped left passed (fault left passed s)
          ∙ sym (ap (walked_by left) (read_refused ended passed s left (judged h) refuses))
          ∙ w.rest)

      -- a notice
      module _ (k : r.number ≡ 0) where
        sound : Sound left s
        sound = fault-none left passed s (rw (← fault-is) k)

        module _ {n : ℕ} (g : n ≡ size (take (length part - passed) (drop passed part))) where
          sized : passed + (3 + n) ≡ passed + field_size s
          sized = let z : n ≡ size s = g ∙ ap size (rest-is passed part) in omega arith

          within : passed + (3 + n) ≤ length part
          within =
              let whole = sound.whole in
              let i = w.inside in
              let long : length s ≡ length part - passed = length-drop passed part in
              omega (arith, sized)

          pub walk_more : Walking ended part all (left - 1) (passed + (3 + n))
          walk_more =
              record {
                inside = within;
                rest =
                    rw (sized, ← drop-drop (field_size s) passed part)
                    (sym
                    (ap (walked_by left) (read_more ended passed s left (judged h) (rw (← fault-is) k))
                    ∙ walked_followed left (first_notice s) (read_rest ended (left - 1) (passed + field_size s) (behind s)))
                    ∙ w.rest);
              }

-- for whoever walks: no more bytes are passed than there are, and where the longest field would be whole, a notice is read or the field is
-- refused
pub walked_within : (ended : Bool) (left : ℕ) (part : List ℕ) → (walk_of ended left part).length ≤ length part
walked_within ended left part = let end = read_within ended left 0 part in omega arith

pub walked_falls :
    (left : ℕ) (part : List ℕ) →
    291 ≤ length part →
    (walk_of false left part).refusal.number ≡ 0 →
    (walk_of false left part).left < left
walked_falls left part l h = go (eqb (fault left 0 part).number 0) refl
  where
    d : due false (length part) ≡ true
    d = le-leb 291 (length part) l

    go : (c : Bool) → eqb (fault left 0 part).number 0 ≡ c → (walk_of false left part).left < left
    go true e =
        let f = eqb-true (fault left 0 part).number 0 e in
        let room = (fault-none left 0 part f).room in
        rw (read_more false 0 part left d f) (omega arith)
    go false e =
        let f = eqb-false (fault left 0 part).number 0 e in absurd (f (rw (read_refused false 0 part left d f) at h))
