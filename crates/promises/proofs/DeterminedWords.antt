-- Each public function's contract determines every lent word. Here: the operators on words of situations, and the pushes.
-- `Post` is the contract itself, as the checker reads it off the source. A word is its 64 bits.
use Prim.Native.Nat.{ℕ, ◌+◌, ◌-◌, ◌*◌, ◌≤◌, ◌<◌}
use mathlib.Core.Path.{◌≡◌, refl, ap, sym, subst, ◌∙◌}
use mathlib.Core.Logic.{⊎_elim}
use mathlib.Core.List.{List, map}
use lib.ListN.{length, get_or, length-map, get_or-map}
use lib.Seq.{ext_get_or}
use native.Mathlib.Omega.{arith}
use Rattle.words.specs.Meaning.{bit, packed}
use Rattle.words.proofs.Bits.{bit-small}
use Rattle.words.proofs.Packed.{packed-same}
use Rattle.answers.specs.Meaning.{number}
use Rattle.answers.specs.declared.Answer.{Answer}
use Rattle.answers.proofs.Claims.{from_number_lem}
use Rattle.lanes.specs.Meaning.{pair, Placed}
use Rattle.planes.proofs.Filling.{below_or_not}
use Rattle.promises.specs.Meaning.{DeterminedLent}
use Rattle.lanes.proofs.negate as lanes-negate
use Rattle.lanes.proofs.turn as lanes-turn
use Rattle.lanes.proofs.meet as lanes-meet
use Rattle.lanes.proofs.join as lanes-join
use Rattle.pushes.proofs.constant as pushes-constant
use Rattle.pushes.proofs.column as pushes-column

abbrev pub word : ℕ → ℕ
word w = packed (λ x. bit x w) 64

-- an answer in a lane determines both bits
same_bits : (x b k c d : ℕ) → pair x b k ≡ pair x c d → (bit x b ≡ bit x c) × (bit x k ≡ bit x d)
same_bits x b k c d e =
    let lb = bit-small x b in
    let lk = bit-small x k in
    let lc = bit-small x c in
    let ld = bit-small x d in
    let s : bit x b + 2 * bit x k ≡ bit x c + 2 * bit x d =
    sym (from_number_lem (bit x b + 2 * bit x k) (omega (arith, lb, lk))) ∙ ap number e ∙ from_number_lem (bit x c + 2 * bit x d) (omega (arith, lc, ld)) in
    (omega (arith, s, lb, lk, lc, ld), omega (arith, s, lb, lk, lc, ld))

module _ {g : ℕ → ℕ → Answer} {start room : ℕ} {old x y : List ℕ} (p : Placed g start room old x) (q : Placed g start room old y) where
  module _ (r : start + room ≤ length old) (k : ℕ) (l : k < 16) where
    lane : (i : ℕ) → i < 64 →
        (bit i (get_or x (start + k) 0) ≡ bit i (get_or y (start + k) 0)) × (bit i (get_or x (start + k + 16) 0) ≡ bit i (get_or y (start + k + 16) 0))
    lane i m =
        same_bits i (get_or x (start + k) 0) (get_or x (start + k + 16) 0) (get_or y (start + k) 0) (get_or y (start + k + 16) 0)
        (p.written r k i l m ∙ sym (q.written r k i l m))

    low : word (get_or x (start + k) 0) ≡ word (get_or y (start + k) 0)
    low = packed-same (λ i. bit i (get_or x (start + k) 0)) (λ i. bit i (get_or y (start + k) 0)) 64 (λ i m. (lane i m).0)

    high : word (get_or x (start + k + 16) 0) ≡ word (get_or y (start + k + 16) 0)
    high = packed-same (λ i. bit i (get_or x (start + k + 16) 0)) (λ i. bit i (get_or y (start + k + 16) 0)) 64 (λ i m. (lane i m).1)

  beside : (j : ℕ) → (start ≤ j → start + 32 ≤ j) → word (get_or x j 0) ≡ word (get_or y j 0)
  beside j h = ap word (p.kept j h ∙ sym (q.kept j h))

  each_word : (j : ℕ) → word (get_or x j 0) ≡ word (get_or y j 0)
  each_word j =
      ⊎_elim
      (λ s. ap (λ (l : List ℕ). word (get_or l j 0)) (p.short s ∙ sym (q.short s)))
      (λ r.
      ⊎_elim
      (λ a. beside j (λ h. absurd (omega (arith, a, h))))
      (λ a.
      ⊎_elim
      (λ b.
      let e : start + (j - start) ≡ j = omega (arith, a) in
      subst (λ i. word (get_or x i 0) ≡ word (get_or y i 0)) e (low r (j - start) (omega (arith, a, b))))
      (λ b.
      ⊎_elim
      (λ c.
      let e : start + (j - (start + 16)) + 16 ≡ j = omega (arith, b) in
      subst (λ i. word (get_or x i 0) ≡ word (get_or y i 0)) e (high r (j - (start + 16)) (omega (arith, b, c))))
      (λ c. beside j (λ h. c))
      (below_or_not j (start + 32)))
      (below_or_not j (start + 16)))
      (below_or_not j start))
      (below_or_not (length old) (start + room))

  placed_determined : map word x ≡ map word y
  placed_determined =
      ext_get_or (word 0) (map word x) (map word y) (length-map x word ∙ p.size ∙ sym q.size ∙ sym (length-map y word))
      (λ j l. get_or-map word x j 0 ∙ each_word j ∙ sym (get_or-map word y j 0))

pub lanes_negate_determined :
    DeterminedLent lanes-negate.Kinds.ps lanes-negate.Kinds.r lanes-negate.Reads.Post (λ κs s. map word s.0.now)
lanes_negate_determined = record { result = λ κs a x y s t p q. refl; lent = λ κs a x y s t p q. placed_determined p q }

pub lanes_turn_determined : DeterminedLent lanes-turn.Kinds.ps lanes-turn.Kinds.r lanes-turn.Reads.Post (λ κs s. map word s.0.now)
lanes_turn_determined = record { result = λ κs a x y s t p q. refl; lent = λ κs a x y s t p q. placed_determined p q }

pub lanes_meet_determined : DeterminedLent lanes-meet.Kinds.ps lanes-meet.Kinds.r lanes-meet.Reads.Post (λ κs s. map word s.0.now)
lanes_meet_determined = record { result = λ κs a x y s t p q. refl; lent = λ κs a x y s t p q. placed_determined p q }

pub lanes_join_determined : DeterminedLent lanes-join.Kinds.ps lanes-join.Kinds.r lanes-join.Reads.Post (λ κs s. map word s.0.now)
lanes_join_determined = record { result = λ κs a x y s t p q. refl; lent = λ κs a x y s t p q. placed_determined p q }

pub pushes_constant_determined :
    DeterminedLent pushes-constant.Kinds.ps pushes-constant.Kinds.r pushes-constant.Reads.Post (λ κs s. map word s.0.now)
pushes_constant_determined = record { result = λ κs a x y s t p q. refl; lent = λ κs a x y s t p q. placed_determined p q }

pub pushes_column_determined :
    DeterminedLent pushes-column.Kinds.ps pushes-column.Kinds.r pushes-column.Reads.Post (λ κs s. map word s.0.now)
pushes_column_determined = record { result = λ κs a x y s t p q. refl; lent = λ κs a x y s t p q. placed_determined p q }
