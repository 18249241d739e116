-- The answers that stand at a place once its words are laid: a constant's, or a digit of the situations' numbers, turned.
use Prim.Native.Nat.{ℕ, zero, suc, ◌+◌, ◌*◌, ◌/◌, ◌%◌, ◌≤◌, ◌<◌}
use mathlib.Core.Path.{◌≡◌, ap, sym, ◌∙◌}
use mathlib.Core.List.{List}
use borrow.Author.Tests.{lt-ltb, le-ltb}
use native.Mathlib.Omega.{arith}
use Rattle.answers.specs.Meaning.{number, from_number}
use Rattle.answers.specs.declared.Answer.{Answer}
use Rattle.answers.proofs.Claims.{number_from, number_small}
use Rattle.situations.specs.Meaning.{digit}
use Rattle.nodes.specs.Inside.{turned_by}
use Rattle.running.proofs.Turning.{turned_by-number}
use Rattle.lanes.specs.Meaning.{pair, Placed}
use Rattle.lanes.proofs.Placing.{placed_either}
use Rattle.pushes.specs.Meaning.{everywhere, column_of}
use Rattle.pushes.specs.Inside.{Low, Digit, LaidBy}

pub laid_placed :
    (g : ℕ → ℕ → Answer) (start : ℕ) {old new : List ℕ} (gives : ℕ → ℕ × ℕ → Type 0) →
    ((k x : ℕ) (r : ℕ × ℕ) → k < 16 → x < 64 → gives k r → pair x r.0 r.1 ≡ g k x) →
    LaidBy gives start old new →
    Placed g start 32 old new
laid_placed g start gives same by =
    placed_either g start 32
    (λ room.
    let d = by.done room in
    record {
      size = d.size;
      written = λ r k x l m. same k x _ l m (d.written k l);
      kept = λ j h. d.kept j (λ q. omega (arith, h q)) (λ q. omega (arith, h (omega (arith, q))));
      short = λ l. absurd (omega (arith, l, room));
    })
    by.short

-- a constant
pub constant_is : (a : Answer) {r : ℕ × ℕ} (k x : ℕ) → x < 64 → Digit (number a) r → pair x r.0 r.1 ≡ everywhere a k x
unfolding everywhere
constant_is a k x l d =
    let e : number a % 4 ≡ number a = omega (arith, number_small a) in d.holds x l ∙ (rw (e, number_from a))

-- the three lowest digits are the lane's
low-digits : (e v x : ℕ) → e < 3 → digit (v * 64 + x) e ≡ digit x e
low-digits zero v x l = let q : (v * 64 + x) / 1 % 4 ≡ x / 1 % 4 = omega arith in q
low-digits (suc zero) v x l = let q : (v * 64 + x) / 4 % 4 ≡ x / 4 % 4 = omega arith in q
low-digits (suc (suc zero)) v x l = let q : (v * 64 + x) / 16 % 4 ≡ x / 16 % 4 = omega arith in q
low-digits (suc (suc (suc e))) v x l = absurd (omega arith)

module _ (pass e turns k x : ℕ) {r : ℕ × ℕ} (l : k < 16) (m : x < 64) where
  -- a digit of a number that is the situation's, turned
  turned :
      (d i : ℕ) →
      Digit d r →
      i ≤ 5 →
      d % 4 ≡ (digit ((pass % 4 * 16 + k) * 64 + x) i + turns) % 4 →
      pair x r.0 r.1 ≡ turned_by turns (from_number (digit ((pass % 4 * 16 + k) * 64 + x) i))
  turned d i o b f =
      o.holds x m ∙ ap from_number f ∙ turned_by-number turns (digit ((pass % 4 * 16 + k) * 64 + x) i) (omega arith)

  pub column-low : e < 3 → Low e turns r → pair x r.0 r.1 ≡ column_of pass e turns k x
  unfolding column_of
  column-low b o =
      o.holds x m
      ∙ ap (λ d. turned_by turns (from_number d)) (sym (low-digits e (pass % 4 * 16 + k) x b))
      ∙ (rw (lt-ltb e 5 (omega arith)))

  -- the next two are the word's, and the highest is the pass's
  pub column_3 : e ≡ 3 → Digit (pass % 4 * 16 + turns % 4 + k) r → pair x r.0 r.1 ≡ column_of pass e turns k x
  unfolding column_of
  column_3 b o =
      let q : ((pass % 4 * 16 + k) * 64 + x) / 64 % 4 ≡ (pass % 4 * 16 + k) % 4 = omega arith in
      rw b (turned (pass % 4 * 16 + turns % 4 + k) 3 o (omega arith) (rw q (omega arith)))

  pub column_4 : e ≡ 4 → Digit (pass % 4 * 4 + turns % 4 + k / 4) r → pair x r.0 r.1 ≡ column_of pass e turns k x
  unfolding column_of
  column_4 b o =
      let q : ((pass % 4 * 16 + k) * 64 + x) / 256 % 4 ≡ (pass % 4 * 4 + k / 4) % 4 = omega arith in
      rw b (turned (pass % 4 * 4 + turns % 4 + k / 4) 4 o (omega arith) (rw q (omega arith)))

  pub column_5 : 5 ≤ e → Digit (pass % 4 + turns % 4) r → pair x r.0 r.1 ≡ column_of pass e turns k x
  unfolding column_of
  column_5 b o =
      let q : ((pass % 4 * 16 + k) * 64 + x) / 1024 % 4 ≡ pass % 4 % 4 = omega arith in
      rw (le-ltb e 5 b) (turned (pass % 4 + turns % 4) 5 o (omega arith) (rw q (omega arith)))
