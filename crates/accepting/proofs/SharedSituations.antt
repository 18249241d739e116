-- Two rows of cells overlap exactly if some situation is matched by both, and so with the disagreement of rows.
use Prim.Native.Nat.{ℕ, suc}
use mathlib.Core.Path.{◌≡◌, refl, ap, sym, ◌∙◌}
use mathlib.Core.Bool.{Bool, true, false, not, ◌&&◌}
use mathlib.Core.List.{List, [], ◌∷◌}
use lib.Dec.{T, eqb, eqb→eq, eqb_refl, T_not, not_T}
use lib.ListN.{length}
use native.Mathlib.Omega.{arith}
use Rattle.answers.specs.Meaning.{number, from_number}
use Rattle.answers.specs.declared.Answer.{Answer}
use Rattle.answers.specs.declared.Answer.TheVariants.{Silent}
use Rattle.answers.proofs.Claims.{number_from}
use Rattle.rows.specs.Meaning.{Cell, is, any, Row, cell_matches, matches, cells_share, overlap, disagree, Shared, Disagree}

-- both tests
both : (a b : Bool) → T a → T b → T (a && b)
both true b h k = k
both false b h k = h

left : (a b : Bool) → T (a && b) → T a
left true b h = tt
left false b h = h

right : (a b : Bool) → T (a && b) → T b
right true b h = h
right false b h = absurd h

-- an answer that matches both cells, where they meet
shared : Cell → Cell → Answer
shared (is a) d = a
shared any (is b) = b
shared any any = Silent

shared-one : (c d : Cell) → T (cell_matches c (shared c d))
unfolding shared
shared-one (is a) d = eqb_refl (number a)
shared-one any d = tt

shared-other : (c d : Cell) → T (cells_share c d) → T (cell_matches d (shared c d))
unfolding shared
shared-other (is a) (is b) h = rw (eqb→eq (number a) (number b) h) (eqb_refl (number b))
shared-other (is a) any h = tt
shared-other any (is b) h = eqb_refl (number b)
shared-other any any h = tt

matched_share : (c d : Cell) (a : Answer) → T (cell_matches c a) → T (cell_matches d a) → T (cells_share c d)
matched_share (is b) (is e) a h k = rw (eqb→eq (number b) (number a) h, eqb→eq (number e) (number a) k) (eqb_refl (number a))
matched_share (is b) any a h k = tt
matched_share any d a h k = tt

-- cells that overlap are matched by one situation
shared-cons :
    (c d : Cell) (cells others : List Cell) →
    T (cells_share c d) →
    Shared (length cells) cells others →
    Shared (length (c ∷ cells)) (c ∷ cells) (d ∷ others)
unfolding matches
shared-cons c d cells others h s =
    record {
      situation = shared c d ∷ s.situation;
      wide = ap suc s.wide;
      one = both (cell_matches c (shared c d)) (matches cells s.situation) (shared-one c d) s.one;
      other = both (cell_matches d (shared c d)) (matches others s.situation) (shared-other c d h) s.other;
    }

pub overlap-matched : (c d : List Cell) → length c ≡ length d → T (overlap c d) → Shared (length c) c d
unfolding overlap matches
overlap-matched [] [] e h = record { situation = []; wide = refl; one = tt; other = tt }
overlap-matched [] (d ∷ others) e h = absurd (omega arith)
overlap-matched (c ∷ cells) [] e h = absurd (omega arith)
overlap-matched (c ∷ cells) (d ∷ others) e h =
    shared-cons c d cells others (left (cells_share c d) (overlap cells others) h)
    (overlap-matched cells others (omega arith) (right (cells_share c d) (overlap cells others) h))

-- and cells that one situation matches overlap
pub matched-overlap : (c d : List Cell) (s : List Answer) → T (matches c s) → T (matches d s) → T (overlap c d)
unfolding overlap matches
matched-overlap [] d s h k = tt
matched-overlap (c ∷ cells) [] s h k = tt
matched-overlap (c ∷ cells) (d ∷ others) [] h k = absurd h
matched-overlap (c ∷ cells) (d ∷ others) (a ∷ s) h k =
    both (cells_share c d) (overlap cells others)
    (matched_share c d a (left (cell_matches c a) (matches cells s) h) (left (cell_matches d a) (matches others s) k))
    (matched-overlap cells others s (right (cell_matches c a) (matches cells s) h) (right (cell_matches d a) (matches others s) k))

-- every row of cells matches some situation
overlap_itself : (cells : List Cell) → T (overlap cells cells)
unfolding overlap
overlap_itself [] = tt
overlap_itself (is a ∷ cells) = both (eqb (number a) (number a)) (overlap cells cells) (eqb_refl (number a)) (overlap_itself cells)
overlap_itself (any ∷ cells) = overlap_itself cells

pub some-situation : (cells : List Cell) → Shared (length cells) cells cells
some-situation cells = overlap-matched cells cells refl (overlap_itself cells)

-- the test of two rows and the property
pub number_same : (a b : Answer) → number a ≡ number b → a ≡ b
number_same a b e = sym (number_from a) ∙ ap from_number e ∙ number_from b

module _ (n : ℕ) (p q : Row) where
  pub disagree-shared : length p.cells ≡ n → length q.cells ≡ n → T (disagree p q) → Disagree n p q
  disagree-shared e f h =
      let same : T (not (eqb (number p.outcome) (number q.outcome))) =
      right (overlap p.cells q.cells) (not (eqb (number p.outcome) (number q.outcome))) h in
      record {
        shared =
            rw e at (overlap-matched p.cells q.cells (e ∙ sym f)
            (left (overlap p.cells q.cells) (not (eqb (number p.outcome) (number q.outcome))) h));
        differ =
            λ o. T_not (eqb (number p.outcome) (number q.outcome)) same (rw o (eqb_refl (number q.outcome)));
      }

  pub shared-disagree : Disagree n p q → T (disagree p q)
  shared-disagree w =
      both (overlap p.cells q.cells) (not (eqb (number p.outcome) (number q.outcome)))
      (matched-overlap p.cells q.cells w.shared.situation w.shared.one w.shared.other)
      (not_T (eqb (number p.outcome) (number q.outcome))
      (λ e. w.differ (number_same p.outcome q.outcome (eqb→eq (number p.outcome) (number q.outcome) e))))
