-- What `act` makes (acting): its number shows the answers that a node which is not refused leaves on the stack.
use Prim.Native.Nat.{ℕ, suc, ◌+◌, ◌-◌, ◌*◌, ◌/◌, ◌%◌, ◌^◌, ◌<◌}
use mathlib.Core.Path.{◌≡◌, refl, sym, ◌∙◌}
use mathlib.Core.List.{List, ◌∷◌}
use lib.ListN.{length, get_or, get_or-map}
use borrow.Author.Tests.{lt-ltb}
use native.Mathlib.Omega.{arith}
use Rattle.answers.specs.Meaning.{number, from_number, negate, turn, meet, join}
use Rattle.answers.specs.declared.Answer.{Answer}
use Rattle.answers.proofs.Claims.{number_small, from_number_lem}
use Rattle.situations.specs.Meaning.{answers_of}
use Rattle.nodes.specs.declared.Node.{Node}
use Rattle.nodes.specs.declared.Node.TheVariants.{Constant, Negate, Turn, Meet, Join, Column, Foreign}
use Rattle.nodes.specs.Meaning.{full, climb, act}
use Rattle.nodes.specs.Inside.{turned_by, act_turned}
use Rattle.nodes.proofs.Climbing.{push_clear, down_clear, column-clear, join-clear}
use Rattle.running.proofs.Turning.{turned_by-number, turned_by-rest}
use Rattle.evaluator.specs.Inside.{view, acted, Ready, Small, Within}
use Rattle.evaluator.proofs.Digits.{fits_more, fits_less, fits_less_two, view-put, view-top, view-two}

pub column_within : {node : Node} {k n : ℕ} → Within node n → node ≡ Column k → k < n
column_within {node} {k} w e = w.within k e

-- at the height to which the node leads
pub record Acted (bytes : List ℕ) (node : Node) (times stack height : ℕ) : Type 0 where
  pub below : acted bytes node times stack < 4 ^ (climb full (length bytes) node height).height
  pub holds :
      view (climb full (length bytes) node height).height (acted bytes node times stack)
      ≡ act_turned (answers_of bytes) node times (view height stack)

module _ (bytes : List ℕ) (times stack height : ℕ) (w : Ready stack height) where
  -- an answer put onto the digits that stay: of all, or behind one or two operands
  put-onto :
      (node : Node) (h rest : ℕ) (a : Answer) →
      (climb full (length bytes) node height).height ≡ suc h →
      rest < 4 ^ h →
      acted bytes node times stack ≡ rest * 4 + number a →
      act_turned (answers_of bytes) node times (view height stack) ≡ a ∷ view h rest →
      Acted bytes node times stack height
  put-onto node h rest a e f g x =
      record {
        below = rw (e, g) (fits_more rest h (number a) f (number_small a));
        holds = rw (e, g) (view-put h rest a ∙ sym x);
      }

  pub acting : Small bytes → (node : Node) → (climb full (length bytes) node height).fault ≡ 0 → Acted bytes node times stack height
  unfolding climb act act_turned acted
  acting small (Constant a) q =
      let l : height < 16 = push_clear 16 height q in
      put-onto (Constant a) height stack a (rw (lt-ltb height 16 l) (omega arith)) w.below refl refl
  acting small (Column k) q =
      let l = column-clear full (length bytes) height k q in
      let inside : k < length bytes = l.0 in
      let room : height < 16 = l.1 in
      let d : ℕ = get_or bytes k 0 in
      let same : d % 4 ≡ d = omega (arith, small.small k inside) in
      let turned : from_number ((d % 4 + times % 4) % 4) ≡ turned_by times (from_number d) =
      rw same (turned_by-number (times % 4) d (small.small k inside) ∙ sym (turned_by-rest times (from_number d))) in
      put-onto (Column k) height stack (from_number ((d % 4 + times % 4) % 4))
      (rw (lt-ltb k (length bytes) inside, lt-ltb height 16 room) (omega arith))
      w.below
      (rw (from_number_lem ((d % 4 + times % 4) % 4) (omega arith)))
      (rw (turned, get_or-map from_number bytes k 0))
  acting small Negate q =
      let l : 0 < height = down_clear 0 height q in
      put-onto Negate (height - 1) (stack / 4) (negate (from_number (stack % 4))) (rw (lt-ltb 0 height l) (omega arith))
      (fits_less stack height l w.below) refl (rw (view-top height stack l))
  acting small Turn q =
      let l : 0 < height = down_clear 0 height q in
      put-onto Turn (height - 1) (stack / 4) (turn (from_number (stack % 4))) (rw (lt-ltb 0 height l) (omega arith))
      (fits_less stack height l w.below) refl (rw (view-top height stack l))
  acting small Meet q =
      let l : 1 < height = down_clear 1 height q in
      put-onto Meet (height - 2) (stack / 16) (meet (from_number (stack / 4 % 4)) (from_number (stack % 4)))
      (rw (lt-ltb 1 height l) (omega arith)) (fits_less_two stack height l w.below) refl (rw (view-two height stack l))
  acting small Join q =
      let l : 1 < height = (join-clear full (length bytes) height q).1 in
      put-onto Join (height - 2) (stack / 16) (join (from_number (stack / 4 % 4)) (from_number (stack % 4)))
      (rw (lt-ltb 1 height l) (omega arith)) (fits_less_two stack height l w.below) refl (rw (view-two height stack l))
  acting small Foreign q = absurd (omega (arith, q))
