-- A situation by value spelled column by column: what it has in a column, and the ways out of `column` and `situation_at`.
use Prim.Native.Nat.{ℕ, zero, suc, ◌+◌, ◌≤◌, ◌<◌}
use mathlib.Core.Path.{◌≡◌, refl, ap, sym, ◌∙◌}
use mathlib.Core.Logic.{⊎_elim}
use mathlib.Core.List.{List, [], ◌∷◌, ◌++◌, map}
use lib.ListN.{length, get_or, set, replicate, length-append, length-set, get_or-eq_default}
use lib.Seq.{get_or-set_same, get_or-set_other, get_or-take, length-take-le, ext_get_or}
use native.Mathlib.Nat.{eq-or-lt_of_le}
use native.Mathlib.Omega.{arith}
use Rattle.answers.specs.Meaning.{number}
use Rattle.answers.specs.declared.Answer.{Answer}
use Rattle.answers.specs.declared.Answer.TheVariants.{Silent}
use Rattle.situations.specs.Meaning.{situation_at, by_value}
use Rattle.situations.proofs.Columns.{zeros, zeros_at}
use Rattle.situations.proofs.Numbers.{situation_at-length}
use Rattle.base4.specs.Inside.{Spelling}

pub column-none : (n w k : ℕ) → n ≤ k → 0 ≡ number (get_or (situation_at n w) k Silent)
column-none n w k l = ap number (sym (get_or-eq_default (situation_at n w) Silent {n = k} (rw (situation_at-length n w) l)))

padded_at : (s : List Answer) (j k : ℕ) → get_or (map number s ++ zeros j) k 0 ≡ number (get_or s k Silent)
padded_at [] j k = zeros_at j k
padded_at (a ∷ s) j zero = refl
padded_at (a ∷ s) j (suc k) = padded_at s j k

by_value_at : (s : List Answer) (k : ℕ) → k < 6 → get_or (by_value s).answers k 0 ≡ number (get_or s k Silent)
by_value_at s k l = get_or-take 6 (map number s ++ zeros 6) k 0 l ∙ padded_at s 6 k

by_value-size : (s : List Answer) → length (by_value s).answers ≡ 6
by_value-size s =
    length-take-le 6 (map number s ++ zeros 6) (rw (length-append (map number s) (zeros 6)) (omega arith))

-- spelling in six bytes
pub spelling_none : (s : List Answer) → Spelling s (replicate 6 0) 0
spelling_none s = record { size = refl; counted = omega arith; done = λ k l. absurd (omega (arith, l)) }

pub spelling_more :
    (s : List Answer) (i d : ℕ) {answers : List ℕ} →
    Spelling s answers i →
    i < 6 →
    d ≡ number (get_or s i Silent) →
    Spelling s (set answers i d) (i + 1)
spelling_more s i d {answers} p l e =
    let size = p.size in
    record {
      size = length-set answers i d ∙ p.size;
      counted = omega arith;
      done = λ k h.
          ⊎_elim
          (λ q. rw q (get_or-set_same answers i d 0 (omega (arith, size)) ∙ e))
          (λ q. get_or-set_other answers i k d 0 (λ z. omega (arith, q, z)) ∙ p.done k q)
          (eq-or-lt_of_le {n = k} {m = i} (omega (arith, h)));
    }

pub spelling_all :
    (n w i : ℕ) {answers : List ℕ} →
    Spelling (situation_at n w) answers i →
    6 ≤ i →
    record { length = n; answers = answers } ≡ by_value (situation_at n w)
spelling_all n w i {answers} p l =
    let size = p.size in
    let same : answers ≡ (by_value (situation_at n w)).answers =
    ext_get_or 0 answers (by_value (situation_at n w)).answers (size ∙ sym (by_value-size (situation_at n w)))
    (λ k h. p.done k (omega (arith, h, size)) ∙ sym (by_value_at (situation_at n w) k (omega (arith, h, size)))) in
    rw (same, situation_at-length n w)
