-- Parts as they are written one behind another: the first one, then each further one followed by an operator; without any a constant.
use Prim.Native.Nat.{ℕ, ◌+◌, ◌≤◌}
use mathlib.Core.Path.{◌≡◌, refl, sym, ◌∙◌}
use mathlib.Core.Bool.{Bool, true, false, cond}
use mathlib.Core.List.{List, [], ◌∷◌, ◌++◌, append-nil, append_assoc}
use lib.Dec.{eqb}
use lib.ListN.{length, length-append}
use borrow.Author.Tests.{eq-eqb, ne_eqb}
use native.Mathlib.Nat.{add-zero}
use native.Mathlib.Omega.{arith}
use Rattle.lent.specs.Inside.{Wrote}
use Rattle.lent.proofs.Laws.{writing_start, writing_more, writing_done, writing_within}
use Rattle.formula.specs.Meaning.{followed, together}
use Rattle.writing.specs.Inside.{behind, part_nodes, lined, parts_rest, WritingParts}

parts_rest-cons :
    (operator : ℕ) (none : List ℕ) (first : Bool) (part : List ℕ) (parts : List (List ℕ)) →
    parts_rest operator none first (part ∷ parts) ≡ part_nodes operator first part ++ parts_rest operator none false parts
unfolding parts_rest lined followed
parts_rest-cons operator none true part parts = rw append-nil
parts_rest-cons operator none false part parts = sym (append_assoc part (operator ∷ []) (followed operator parts))

pub lined-together :
    (operator constant : ℕ) (parts : List (List ℕ)) →
    lined operator (constant ∷ []) parts ≡ together operator constant parts
unfolding lined together
lined-together operator constant [] = refl
lined-together operator constant (part ∷ parts) = refl

module _ {operator : ℕ} {none : List ℕ} where
  pub parts_start :
      (parts : List (List ℕ)) (b : List ℕ) (start at : ℕ) →
      start ≤ at →
      WritingParts operator none (parts_rest operator none (eqb at start) parts) b start at b at parts
  parts_start parts b start at l = record { past = l; left = writing_start b at (parts_rest operator none (eqb at start) parts) }

  module _ {whole old new : List ℕ} {start at next : ℕ} where
    -- a part more
    module _ (part : List ℕ) (parts : List (List ℕ)) (w : WritingParts operator none whole old start at new next (part ∷ parts)) where
      pub part_within : (most : ℕ) → at + length whole ≤ most → next + length (part_nodes operator (eqb next start) part) ≤ most
      part_within most h =
          writing_within w.left (part_nodes operator (eqb next start) part) (parts_rest operator none false parts)
          (parts_rest-cons operator none (eqb next start) part parts)
          most
          h

      pub part_written :
          1 ≤ length part →
          {c : List ℕ} {m : ℕ} →
          Wrote new next (part_nodes operator (eqb next start) part) c m →
          WritingParts operator none whole old start at c m parts
      part_written l {m = m} v =
          let size = length-append part (behind operator (eqb next start)) in
          let e = v.ends in
          let p = w.past in
          record {
            past = omega arith;
            left =
                rw (ne_eqb m start (λ z. omega (arith, z)))
                (writing_more w.left (part_nodes operator (eqb next start) part) (parts_rest operator none false parts)
                (parts_rest-cons operator none (eqb next start) part parts)
                v);
          }

    -- no part more
    module _ (parts : List (List ℕ)) (w : WritingParts operator none whole old start at new next parts) where
      pub none_within : (most : ℕ) → at + length whole ≤ most → next + 0 ≤ most
      none_within most h = writing_within w.left [] (parts_rest operator none (eqb next start) parts) refl most h

      pub none_written : {c : List ℕ} {m : ℕ} → Wrote new next [] c m → WritingParts operator none whole old start at c m parts
      none_written {c} {m} v =
          let e : m ≡ next = v.ends ∙ add-zero next in
          let u : Wrote new next [] c next = rw e at v in
          let p = w.past in
          record {
            past = omega arith;
            left = rw e (writing_more w.left [] (parts_rest operator none (eqb next start) parts) refl u);
          }

    -- the end: other nodes instead, if no part was written
    module _ (w : WritingParts operator none whole old start at new next []) where
      none_rest : next ≡ start → parts_rest operator none (eqb next start) [] ≡ none ++ []
      unfolding parts_rest lined
      none_rest z = rw (eq-eqb next start z, append-nil none)

      pub instead_written : next ≡ start → {c : List ℕ} {m : ℕ} → Wrote new next none c m → Wrote old at whole c m
      instead_written z v = writing_done (writing_more w.left none [] (none_rest z) v) refl

      pub parts_done : (next ≡ start → ⊥) → Wrote old at whole new next
      unfolding parts_rest followed
      parts_done z = writing_done w.left (rw (ne_eqb next start z))

-- where nothing stands instead of no part, all is written at the end
pub parts_ended :
    {operator : ℕ} {whole old new : List ℕ} {start at next : ℕ} →
    WritingParts operator [] whole old start at new next [] →
    Wrote old at whole new next
unfolding parts_rest lined followed
parts_ended {start = start} {next = next} w = writing_done w.left (nothing (eqb next start))
  where
    nothing : (b : Bool) → cond {A = List ℕ} b [] [] ≡ []
    nothing true = refl
    nothing false = refl

-- parts behind parts, none of which is empty
abbrev pub Some : List (List ℕ) → Type 0
Some [] = Unit {0}
Some (part ∷ parts) = (1 ≤ length part) × Some parts

followed-append :
    (operator : ℕ) (ps qs : List (List ℕ)) →
    followed operator (ps ++ qs) ≡ followed operator ps ++ followed operator qs
unfolding followed
followed-append operator [] qs = refl
followed-append operator (p ∷ ps) qs =
    rw (followed-append operator ps qs) (sym (append_assoc p (operator ∷ followed operator ps) (followed operator qs)))

module _ (operator : ℕ) where
  pub lined-none : (ps : List (List ℕ)) → Some ps → length (lined operator [] ps) ≡ 0 → ps ≡ []
  unfolding lined
  lined-none [] h e = refl
  lined-none (p ∷ ps) h e = absurd (let some = h.0 in omega (arith, e, length-append p (followed operator ps)))

  pub lined-some :
      (constant : ℕ) (ps : List (List ℕ)) →
      (length (lined operator [] ps) ≡ 0 → ⊥) →
      lined operator [] ps ≡ together operator constant ps
  unfolding lined together
  lined-some constant [] h = absurd (h refl)
  lined-some constant (p ∷ ps) h = refl

  pub lined-append :
      (ps qs : List (List ℕ)) →
      Some ps →
      lined operator [] ps ++ parts_rest operator [] (eqb (length (lined operator [] ps)) 0) qs ≡ lined operator [] (ps ++ qs)
  unfolding lined parts_rest
  lined-append [] qs h = refl
  lined-append (p ∷ ps) qs h =
      let size = length-append p (followed operator ps) in
      let some = h.0 in
      rw (ne_eqb (length (p ++ followed operator ps)) 0 (λ z. omega (arith, z)), followed-append operator ps qs)
      (append_assoc p (followed operator ps) (followed operator qs))
