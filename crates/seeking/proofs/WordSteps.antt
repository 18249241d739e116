-- A word from which no step fails: every answer in it is contained in the answer after each step.
use Prim.Native.Nat.{ℕ, zero, suc, ◌+◌, ◌-◌, ◌*◌, ◌/◌, ◌%◌, ◌^◌, ◌≤◌, ◌<◌}
use mathlib.Core.Path.{◌≡◌, refl, ap, sym, ◌∙◌}
use mathlib.Core.Bool.{Bool, true, false, cond, not}
use mathlib.Core.List.{List}
use lib.Dec.{eqb}
use lib.Pow.{pow-add}
use lib.Bits.{bit_and, bit_or, bit_xor, or_lt, or_add_and, and_le_l, and_le_r}
use lib.ListN.{length, get_or}
use borrow.Author.Tests.{eqb-true}
use native.Mathlib.Nat.{div-div-eq-div-mul, mul_comm, zero-add}
use native.Mathlib.Omega.{arith}
use Rattle.std.specs.Bool.{MatchBool, OnFalse}
use Rattle.std.specs.List.{AllWithin, range_with_len}
use Rattle.std.proofs.lemmas.List.FromFn.{length-range_with_len, get_or-range_with_len}
use Rattle.words.specs.Meaning.{bit, ones}
use Rattle.words.proofs.Bits.{bit-and, bit-xor, bit-ones, bit-none, Both, each-bit, each_two, all_below, tested}
use Rattle.answers.specs.Meaning.{from_number, contained}
use Rattle.steps.specs.Inside.{held, grown}
use Rattle.steps.proofs.SetBit.{set-clear, set_stays}
use Rattle.seeking.specs.declared.sifting.TheConstants.{CLEAR}
use Rattle.seeking.specs.Inside.{Clear, lost, Within, Tried, Kept, Sifted}
use Rattle.seeking.proofs.LaneBits.{power_small, set-low, set-high}

-- the masks
mask : (k r : ℕ) → all_below 64 (λ x. eqb (bit x r + bit k x) 1) ≡ true → Clear k r
mask k r e = record { opens = λ x l. eqb-true (bit x r + bit k x) 1 (tested (λ x. eqb (bit x r + bit k x) 1) 64 e x l) }

pub clear_is : (k : ℕ) → k < 6 → Clear k (get_or CLEAR k 0)
unfolding all_below
clear_is zero l = mask 0 6148914691236517205 refl
clear_is (suc zero) l = mask 1 3689348814741910323 refl
clear_is (suc (suc zero)) l = mask 2 1085102592571150095 refl
clear_is (suc (suc (suc zero))) l = mask 3 71777214294589695 refl
clear_is (suc (suc (suc (suc zero)))) l = mask 4 281470681808895 refl
clear_is (suc (suc (suc (suc (suc zero))))) l = mask 5 4294967295 refl
clear_is (suc (suc (suc (suc (suc (suc k)))))) l = absurd (omega arith)

-- where a bit is lost
lost_at : (x b a : ℕ) → x < 64 → bit x (bit_and b (bit_xor a ones)) ≡ lost (bit x b) (bit x a)
lost_at x b a l = rw (bit-and x b (bit_xor a ones), bit-xor x a ones, bit-ones x l)

bit_shift : (x a w : ℕ) → bit x (w / 2 ^ a) ≡ bit (x + a) w
bit_shift x a w = ap (λ q. q % 2) (div-div-eq-div-mul w (2 ^ a) (2 ^ x) ∙ (rw (pow-add 2 x a, mul_comm (2 ^ x) (2 ^ a))))

module _ (k : ℕ) (l : k < 6) where
  pub apart_is : 1 * 2 ^ k % 18446744073709551616 ≡ 2 ^ k
  apart_is = omega (arith, power_small k l)

  pub apart_fits : 1 * 2 ^ k % 18446744073709551616 < 64
  apart_fits = omega (arith, power_small k l)

-- inside a word
pub within-lost :
    (word k : ℕ) {m : ℕ} →
    k < 6 →
    Clear k m →
    Within word k (bit_and (bit_and word (bit_xor (word / 2 ^ (1 * 2 ^ k % 18446744073709551616)) ones)) m)
within-lost word k {m} l c =
    rw (apart_is k l)
    (record { passed = λ z x h. each-bit (λ b. bit k x ≡ b → Goal x) (opened z x h, closed x) k x refl })
  where
    Goal : ℕ → Type 0
    Goal x = lost (bit x word) (bit (bit_or x (2 ^ k)) word) ≡ 0

    after : ℕ
    after = word / 2 ^ 2 ^ k

    opened : bit_and (bit_and word (bit_xor after ones)) m ≡ 0 → (x : ℕ) → x < 64 → bit k x ≡ 0 → Goal x
    opened z x h e =
        let o : bit x m ≡ 1 = omega (arith, c.opens x h) in
        let s : bit_and (bit x (bit_and word (bit_xor after ones))) 1 ≡ 0 =
        ap (λ q. bit_and (bit x (bit_and word (bit_xor after ones))) q) (sym o)
        ∙ sym (bit-and x (bit_and word (bit_xor after ones)) m)
        ∙ ap (bit x) z
        ∙ bit-none x h in
        rw (set-clear k x e, ← bit_shift x (2 ^ k) word, ← lost_at x word after h)
        (each-bit (λ b. bit_and b 1 ≡ 0 → b ≡ 0) (λ q. refl, λ q. q) x (bit_and word (bit_xor after ones)) s)

    closed : (x : ℕ) → bit k x ≡ 1 → Goal x
    closed x e = rw (set_stays k x e) (each-bit (λ b. lost b b ≡ 0) (search refl) x word)

module _ (words : List ℕ) where
  held_at : (word x : ℕ) → x < 64 → held words (word * 64 + x) ≡ bit x (get_or words word 0)
  held_at word x l =
      let e : (word * 64 + x) / 64 ≡ word = omega arith in
      let f : (word * 64 + x) % 64 ≡ x = omega arith in
      rw (e, f)

  module _ (word k : ℕ) where
    pub tried_within : {r : ℕ} → k < 6 → Within (get_or words word 0) k r → Tried words word k r
    tried_within l w =
        record {
          passed = λ z x h.
              let p : 2 ^ k < 64 = omega (arith, power_small k l) in
              rw (set-low k word x l h, held_at word x h, held_at word (bit_or x (2 ^ k)) (or_lt 6 x (2 ^ k) h p)) (w.passed z x h);
        }

    -- to another word
    module _ (l : 6 ≤ k) (f : k < 12) where
      to_is : 1 * 2 ^ (k - 6) % 18446744073709551616 ≡ 2 ^ (k - 6)
      to_is = apart_is (k - 6) (omega arith)

      pub to_inside : word < 64 → bit_or word (1 * 2 ^ (k - 6) % 18446744073709551616) < 64
      to_inside h = or_lt 6 word (1 * 2 ^ (k - 6) % 18446744073709551616) h (apart_fits (k - 6) (omega arith))

      pub to_times : word < 64 → bit_or word (1 * 2 ^ (k - 6) % 18446744073709551616) * 8 < 18446744073709551616
      to_times h = omega (arith, to_inside h)

      pub tried_beyond :
          Tried words word k (bit_and (get_or words word 0) (bit_xor (get_or words (bit_or word (1 * 2 ^ (k - 6) % 18446744073709551616)) 0) ones))
      tried_beyond =
          rw to_is
          (record {
            passed = λ z x h.
                rw (
                  set-high k word x l h,
                  held_at word x h,
                  held_at (bit_or word (2 ^ (k - 6))) x h,
                  ← lost_at x (get_or words word 0) (get_or words (bit_or word (2 ^ (k - 6))) 0) h,
                  z,
                )
                (bit-none x h);
          })

-- an answer is contained in another one where neither of its bits is lost
abbrev Told : ℕ → ℕ → ℕ → ℕ → Type 0
Told b k c d = bit_or (lost b c) (lost k d) ≡ cond (contained (from_number (b + 2 * k)) (from_number (c + 2 * d))) 0 1

told : (x b k y c d : ℕ) → Told (bit x b) (bit x k) (bit y c) (bit y d)
told x b k y c d =
    each-bit (Told (bit x b) (bit x k) (bit y c))
    (each-bit (λ c. Both (Told (bit x b) (bit x k) c))
    (each_two (λ b k. Both (λ c. Both (Told b k c))) (search refl) x b k)
    y
    c)
    y
    d

not-lost : (t : Bool) → ◌≡◌ {A = ℕ} 0 (cond t 0 1) → t ≡ true
not-lost true e = refl
not-lost false e = absurd (omega arith)

module _ (bury keep : List ℕ) where
  kept_both : (v w : ℕ) → lost (held bury v) (held bury w) ≡ 0 → lost (held keep v) (held keep w) ≡ 0 → grown bury keep v w ≡ true
  kept_both v w e f =
      not-lost (grown bury keep v w)
      (rw (e, f) at
      (told (v % 64) (get_or bury (v / 64) 0) (get_or keep (v / 64) 0) (w % 64) (get_or bury (w / 64) 0) (get_or keep (w / 64) 0)))

  pub kept_at :
      (word k : ℕ) {a b : ℕ} → Tried bury word k a → Tried keep word k b → OnFalse (not (eqb (bit_or a b) 0)) (Kept bury keep word k)
  kept_at word k {a} {b} t u = go (eqb (bit_or a b) 0) refl
    where
      go : (s : Bool) → eqb (bit_or a b) 0 ≡ s → OnFalse (not s) (Kept bury keep word k)
      go true e =
          let z : bit_or a b ≡ 0 = eqb-true (bit_or a b) 0 e in
          let p : a ≡ 0 = omega (arith, or_add_and a b, and_le_r a b) in
          let q : b ≡ 0 = omega (arith, or_add_and a b, and_le_l a b) in
          record { kept = λ x h. kept_both (word * 64 + x) (bit_or (word * 64 + x) (2 ^ k)) (t.passed p x h) (u.passed q x h) }
      go false e = tt

  -- bit after bit
  pub sifted :
      (n word : ℕ) {r : Bool} (P : Type 0) →
      MatchBool r P (AllWithin (Kept bury keep word) (range_with_len 0 (2 * n)) 0 (length (range_with_len 0 (2 * n)))) →
      Sifted bury keep n word r
  sifted n word {r} P m =
      record {
        passed = λ e k l.
            let all : AllWithin (Kept bury keep word) (range_with_len 0 (2 * n)) 0 (length (range_with_len 0 (2 * n))) = rw e at m in
            rw (get_or-range_with_len 0 (2 * n) k 0 l, zero-add) at (all k 0 (omega arith) (rw (length-range_with_len 0 (2 * n)) l));
      }

-- a word that may lose something is told so whatever it loses
module _ (bury keep : List ℕ) (n word : ℕ) where
  pub sifted_fails : Sifted bury keep n word true
  sifted_fails = record { passed = λ e. absurd (never e) }
    where
      never : true ≡ false → ⊥
      never e = let z : ◌≡◌ {A = ℕ} 0 1 = cc in omega arith
