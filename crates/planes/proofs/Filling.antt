-- One pass more: its words after those of the passes before it.
use Prim.Native.Nat.{ℕ, ◌+◌, ◌-◌, ◌*◌, ◌^◌, ◌≤◌, ◌<◌}
use mathlib.Core.Path.{◌≡◌, refl, subst, ◌∙◌}
use mathlib.Core.Logic.{◌⊎◌, inl, inr, ⊎_elim}
use mathlib.Core.Bool.{Bool, true, false, cond}
use mathlib.Core.List.{List, ◌++◌}
use lib.Bits.{bit_and, and_le_r}
use lib.Dec.{ltb}
use lib.ListN.{length, take, drop, length-drop, get_or, replicate, length-replicate}
use borrow.Author.Tests.{ltb-true, ltb-false}
use native.Mathlib.Omega.{arith}
use borrow.Rule.Slice.PartMut.{put_mid, same_len_mid}
use Rattle.std.proofs.Math.ListN.{get_or-append}
use Rattle.std.proofs.lemmas.List.{length-take-le, get_or-take, get_or-drop, get_or-append_right}
use Rattle.words.specs.Meaning.{bit}
use Rattle.words.proofs.Bits.{bit-and, each_two}
use Rattle.refusals.specs.Meaning.{Numbers}
use Rattle.answers.specs.Meaning.{from_number}
use Rattle.answers.specs.declared.Answer.TheVariants.{Silent}
use Rattle.situations.proofs.Columns.{zeros_at}
use Rattle.planes.specs.declared.Extent.{Extent}
use Rattle.planes.specs.Meaning.{answer_at}
use Rattle.lanes.specs.Meaning.{pair}
use Rattle.planes.specs.Inside.{Ran, Within, Stored, StoredAt, FilledTo, total}

-- two cases
pub below_or_not : (a b : ℕ) → (a < b) ⊎ (b ≤ a)
below_or_not a b = go (ltb a b) refl
  where
    go : (t : Bool) → ltb a b ≡ t → (a < b) ⊎ (b ≤ a)
    go true e = inl (ltb-true a b e)
    go false e = inr (ltb-false a b e)

-- a part of the words, put back in its place
pub stored_at :
    (start count lanes : ℕ) (words : List ℕ) {old part : List ℕ} →
    start + count ≤ length old →
    length words ≡ count →
    Stored words lanes (length words) (take (start + count - start) (drop start old)) part →
    StoredAt words lanes count start old (put_mid start (start + count - start) old part)
stored_at start count lanes words {old} {part} room e s =
    let k : start + count - start ≡ count = omega arith in
    let head : length (take start old) ≡ start = length-take-le start old (omega arith) in
    let tail : length (drop start old) ≡ length old - start = length-drop start old in
    let mid : length (take (start + count - start) (drop start old)) ≡ count =
    length-take-le (start + count - start) (drop start old) (omega (arith, tail)) ∙ k in
    let size : length part ≡ count = s.size ∙ mid in
    let rest : List ℕ = part ++ drop (start + count - start) (drop start old) in
    record {
      size = same_len_mid start (start + count - start) old part s.size;
      written = λ i l.
          get_or-append_right (take start old) rest start (start + i) 0 head (omega arith)
          ∙ (let z : start + i - start ≡ i = omega arith in
          rw (z, get_or-append part (drop (start + count - start) (drop start old)) 0 i (omega (arith, size, l)))
          (s.written i (omega (arith, e, l))));
      kept = λ j h.
          ⊎_elim
          (λ b. get_or-append (take start old) rest 0 j (omega (arith, head, b)) ∙ get_or-take start old j 0 b)
          (λ b.
          let c : start + count ≤ j = h b in
          let z : start + (start + count - start + (j - start - count)) ≡ j = omega (arith, c) in
          get_or-append_right (take start old) rest start j 0 head b
          ∙ get_or-append_right part (drop (start + count - start) (drop start old)) count (j - start) 0 size (omega (arith, c))
          ∙ get_or-drop (start + count - start) (drop start old) (j - start - count) 0
          ∙ get_or-drop start old (start + count - start + (j - start - count)) 0
          ∙ (rw z))
          (below_or_not j start);
    }

-- only the lanes of a mask
masked : (x b k m : ℕ) (t : Bool) → bit x m ≡ cond t 1 0 → pair x (bit_and b m) (bit_and k m) ≡ cond t (pair x b k) Silent
masked x b k m true e =
    rw (bit-and x b m, bit-and x k m, e)
    (each_two (λ b k. from_number (bit_and b 1 + 2 * bit_and k 1) ≡ from_number (b + 2 * k)) (search refl) x b k)
masked x b k m false e =
    rw (bit-and x b m, bit-and x k m, e)
    (each_two (λ b k. from_number (bit_and b 0 + 2 * bit_and k 0) ≡ Silent) (search refl) x b k)

pub filled_none : (nodes : List ℕ) (n : ℕ) → FilledTo nodes n 0 (replicate 64 0) (replicate 64 0)
filled_none nodes n =
    record {
      buries = length-replicate {A = ℕ} 64 0;
      keeps = length-replicate {A = ℕ} 64 0;
      answered = λ k x l. absurd (omega (arith, l));
      low = λ k l. absurd (omega (arith, l));
      high = λ k l. absurd (omega (arith, l));
      buried = λ k l. zeros_at 64 k;
      kept = λ k l. zeros_at 64 k;
    }

-- one pass more
module _
    (nodes : List ℕ) (n first : ℕ) (e : Extent) {bury keep stack b k : List ℕ} {r : Numbers}
    (w : Within n e) (fits : first + e.count ≤ total e) (f : FilledTo nodes n first bury keep) (q : Ran nodes n first stack r) (z : r.number ≡ 0)
    (s : StoredAt (take e.count stack) e.lanes e.count first bury b)
    (t : StoredAt (take e.count (drop 16 stack)) e.lanes e.count first keep k) where
  new_answer : (i x : ℕ) → i < e.count → x < 64 → pair x (get_or b (first + i) 0) (get_or k (first + i) 0) ≡ answer_at nodes n ((first + i) * 64 + x)
  new_answer i x l m =
      let most = w.most in
      let high : 16 + i ≡ i + 16 = omega arith in
      rw (s.written i l, t.written i l, get_or-take e.count stack i 0 l, get_or-take e.count (drop 16 stack) i 0 l, get_or-drop 16 stack i 0, high)
      (masked x (get_or stack i 0) (get_or stack (i + 16) 0) e.lanes (ltb ((first + i) * 64 + x) (4 ^ n))
      (w.lanes (first + i) x (omega (arith, fits, l)) m)
      ∙ (rw (q.answered z i x (omega (arith, l, most)) m)))

  lanes_small : (v : ℕ) → bit_and v e.lanes < 18446744073709551616
  lanes_small v = omega (arith, and_le_r v e.lanes, w.small)

  -- a word of before, or a new one
  each_word :
      (P : ℕ → Type 0) →
      ((i : ℕ) → i < first → P i) →
      ((i : ℕ) → i < e.count → P (first + i)) →
      (i : ℕ) →
      i < first + e.count →
      P i
  each_word P old new i l =
      ⊎_elim
      (λ h. old i h)
      (λ h.
      let c : first + (i - first) ≡ i = omega (arith, h) in
      subst P c (new (i - first) (omega (arith, h, l))))
      (below_or_not i first)

  pub filled_more : FilledTo nodes n (first + e.count) b k
  filled_more =
      record {
        buries = s.size ∙ f.buries;
        keeps = t.size ∙ f.keeps;
        answered = λ i x l m.
            each_word (λ i. pair x (get_or b i 0) (get_or k i 0) ≡ answer_at nodes n (i * 64 + x))
            (λ i h. rw (s.kept i (λ g. absurd (omega (arith, g, h))), t.kept i (λ g. absurd (omega (arith, g, h)))) (f.answered i x h m))
            (λ i h. new_answer i x h m)
            i
            l;
        low = each_word (λ i. get_or b i 0 < 18446744073709551616)
            (λ i h. rw (s.kept i (λ g. absurd (omega (arith, g, h)))) (f.low i h))
            (λ i h. rw (s.written i h) (lanes_small (get_or (take e.count stack) i 0)));
        high = each_word (λ i. get_or k i 0 < 18446744073709551616)
            (λ i h. rw (t.kept i (λ g. absurd (omega (arith, g, h)))) (f.high i h))
            (λ i h. rw (t.written i h) (lanes_small (get_or (take e.count (drop 16 stack)) i 0)));
        buried = λ i l. s.kept i (λ g. l) ∙ f.buried i (omega (arith, l));
        kept = λ i l. t.kept i (λ g. l) ∙ f.kept i (omega (arith, l));
      }
