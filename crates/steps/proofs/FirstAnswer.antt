-- The steps at one column: the ways out of `first_answer`.
use Prim.Native.Nat.{ℕ, zero, suc, ◌+◌, ◌-◌, ◌*◌, ◌/◌, ◌%◌, ◌^◌, ◌≤◌, ◌<◌}
use mathlib.Core.Path.{◌≡◌, refl, ap, sym, ◌∙◌}
use mathlib.Core.Bool.{Bool, true, false}
use mathlib.Core.List.{List}
use lib.Bits.{bit_or, or_lt}
use lib.ListN.{length, get_or, set, get_or-eq_default}
use lib.Seq.{set_out}
use native.Mathlib.Nat.{pow-suc, pow-le-pow_right, zero-lt-suc, div-div-eq-div-mul, mul_comm}
use native.Mathlib.Omega.{arith}
use Rattle.words.specs.Meaning.{bit}
use Rattle.answers.specs.Meaning.{number, from_number, contained}
use Rattle.answers.specs.declared.Answer.{Answer}
use Rattle.answers.specs.declared.Answer.TheVariants.{Silent, Bury, Keep, Clash}
use Rattle.answers.proofs.Claims.{from_number_lem}
use Rattle.answers.proofs.Every.{each}
use Rattle.situations.specs.Meaning.{weight, digit, index, situation_at}
use Rattle.situations.proofs.Columns.{situation_at-column}
use Rattle.situations.proofs.Numbers.{index-situation_at}
use Rattle.situations.proofs.Raised.{index-raised}
use Rattle.situations.proofs.Weights.{weight_power, power_shift, power_small}
use Rattle.planes.specs.Meaning.{lane}
use Rattle.steps.specs.Meaning.{in_words, first_from, first_answer}
use Rattle.steps.specs.Inside.{grown, AtColumn}
use Rattle.steps.proofs.SetBit.{set-clear, set_stays}

self : (x : Answer) → contained x x ≡ true
self = each _ (search refl)

-- what a column's answer makes of the search
module _ (f : List Answer → Answer) (s : List Answer) (c : ℕ) where
  silent_bury : get_or s c Silent ≡ Silent → contained (f s) (f (set s c Bury)) ≡ false → 1 ≡ first_answer f s c
  unfolding first_answer first_from
  silent_bury o a = rw (o, a)

  silent_keep :
      get_or s c Silent ≡ Silent →
      contained (f s) (f (set s c Bury)) ≡ true →
      contained (f s) (f (set s c Keep)) ≡ false →
      2 ≡ first_answer f s c
  unfolding first_answer first_from
  silent_keep o a b = rw (o, a, b)

  silent_none :
      get_or s c Silent ≡ Silent →
      contained (f s) (f (set s c Bury)) ≡ true →
      contained (f s) (f (set s c Keep)) ≡ true →
      4 ≡ first_answer f s c
  unfolding first_answer first_from
  silent_none o a b = rw (o, a, b)

  bury_clash : get_or s c Silent ≡ Bury → contained (f s) (f (set s c Clash)) ≡ false → 3 ≡ first_answer f s c
  unfolding first_answer first_from
  bury_clash o a = rw (o, a)

  bury-none : get_or s c Silent ≡ Bury → contained (f s) (f (set s c Clash)) ≡ true → 4 ≡ first_answer f s c
  unfolding first_answer first_from
  bury-none o a = rw (o, a)

  keep_clash : get_or s c Silent ≡ Keep → contained (f s) (f (set s c Clash)) ≡ false → 3 ≡ first_answer f s c
  unfolding first_answer first_from
  keep_clash o a = rw (o, a)

  keep_none : get_or s c Silent ≡ Keep → contained (f s) (f (set s c Clash)) ≡ true → 4 ≡ first_answer f s c
  unfolding first_answer first_from
  keep_none o a = rw (o, a)

  clash_none : get_or s c Silent ≡ Clash → 4 ≡ first_answer f s c
  unfolding first_answer first_from
  clash_none o = rw o

  pub beyond-none : length s ≤ c → 4 ≡ first_answer f s c
  beyond-none l =
      silent_none (get_or-eq_default s Silent l) (rw (set_out s c Bury l) (self (f s))) (rw (set_out s c Keep l) (self (f s)))

-- the two bits of a digit
pub power_odd : (e : ℕ) → 2 ^ suc (2 * e) ≡ 2 * 4 ^ e
power_odd e = pow-suc 2 (2 * e) ∙ ap (λ p. p * 2) (power_shift e) ∙ mul_comm (4 ^ e) 2

module _ (w e : ℕ) where
  bit_even : bit (2 * e) w ≡ digit w e % 2
  bit_even = rw (power_shift e) (omega arith)

  bit_odd : bit (suc (2 * e)) w ≡ digit w e / 2
  bit_odd = rw (pow-suc 2 (2 * e), power_shift e, ← div-div-eq-div-mul w (4 ^ e) 2) (omega arith)

  lower_set : digit w e % 2 ≡ 0 → bit_or w (4 ^ e) ≡ w + 4 ^ e
  lower_set d = rw (power_shift e) at (set-clear (2 * e) w (bit_even ∙ d))

  lower_stays : digit w e % 2 ≡ 1 → bit_or w (4 ^ e) ≡ w
  lower_stays d = rw (power_shift e) at (set_stays (2 * e) w (bit_even ∙ d))

  higher_set : digit w e / 2 ≡ 0 → bit_or w (2 * 4 ^ e) ≡ w + 2 * 4 ^ e
  higher_set d = rw (power_odd e) at (set-clear (suc (2 * e)) w (bit_odd ∙ d))

  higher_stays : digit w e / 2 ≡ 1 → bit_or w (2 * 4 ^ e) ≡ w
  higher_stays d = rw (power_odd e) at (set_stays (suc (2 * e)) w (bit_odd ∙ d))

never : {A : Type 0} {t : Bool} → t ≡ true → t ≡ false → A
never e f = absurd (let z : ◌≡◌ {A = ℕ} 0 1 = cc in omega arith)

-- by the words, at a column and its place in base 4
module _ (bury keep : List ℕ) (n w c : ℕ) (k : AtColumn n w c) where
  reached :
      (a : Answer) (old : ℕ) →
      old ≡ digit w (n - 1 - c) →
      index (set (situation_at n w) c a) + old * 4 ^ (n - 1 - c) ≡ w + number a * 4 ^ (n - 1 - c)
  reached a old o = rw o (index-raised n w c k.has a k.here.inside)

  bury_lower : 0 ≡ digit w (n - 1 - c) → index (set (situation_at n w) c Bury) ≡ bit_or w (4 ^ (n - 1 - c))
  bury_lower o =
      let r : index (set (situation_at n w) c Bury) + 0 * 4 ^ (n - 1 - c) ≡ w + 1 * 4 ^ (n - 1 - c) = reached Bury 0 o in
      omega (arith, lower_set w (n - 1 - c) (rw (← o)))

  keep_higher : 0 ≡ digit w (n - 1 - c) → index (set (situation_at n w) c Keep) ≡ bit_or w (2 * 4 ^ (n - 1 - c))
  keep_higher o =
      let r : index (set (situation_at n w) c Keep) + 0 * 4 ^ (n - 1 - c) ≡ w + 2 * 4 ^ (n - 1 - c) = reached Keep 0 o in
      omega (arith, higher_set w (n - 1 - c) (rw (← o)))

  clash_higher : 1 ≡ digit w (n - 1 - c) → index (set (situation_at n w) c Clash) ≡ bit_or w (2 * 4 ^ (n - 1 - c))
  clash_higher o =
      let r : index (set (situation_at n w) c Clash) + 1 * 4 ^ (n - 1 - c) ≡ w + 3 * 4 ^ (n - 1 - c) = reached Clash 1 o in
      omega (arith, higher_set w (n - 1 - c) (rw (← o)))

  clash_lower : 2 ≡ digit w (n - 1 - c) → index (set (situation_at n w) c Clash) ≡ bit_or w (4 ^ (n - 1 - c))
  clash_lower o =
      let r : index (set (situation_at n w) c Clash) + 2 * 4 ^ (n - 1 - c) ≡ w + 3 * 4 ^ (n - 1 - c) = reached Clash 2 o in
      omega (arith, lower_set w (n - 1 - c) (rw (← o)))

  column : (old : ℕ) → old ≡ digit w (n - 1 - c) → get_or (situation_at n w) c Silent ≡ from_number old
  column old o = situation_at-column n w c k.has ∙ ap from_number (sym o)

  compared :
      (a : Answer) {p : ℕ} {g t : Bool} →
      index (set (situation_at n w) c a) ≡ p →
      g ≡ grown bury keep w p →
      g ≡ t →
      contained (in_words bury keep (situation_at n w)) (in_words bury keep (set (situation_at n w) c a)) ≡ t
  unfolding in_words
  compared a e h q = rw (index-situation_at n w k.here.inside, e) (sym h ∙ q)

  itself : {p : ℕ} {g : Bool} → p ≡ w → g ≡ grown bury keep w p → g ≡ true
  itself e h = h ∙ (rw e (self (lane bury keep w)))

  module _ {g : Bool} (h : g ≡ grown bury keep w (bit_or w (4 ^ (n - 1 - c)))) where
    lower_fails :
        (old : ℕ) → old ≡ digit w (n - 1 - c) → g ≡ false → bit_or old 1 ≡ first_answer (in_words bury keep) (situation_at n w) c
    lower_fails zero o q =
        silent_bury (in_words bury keep) (situation_at n w) c (column 0 o) (compared Bury (bury_lower o) h q)
    lower_fails (suc zero) o q = never (itself (lower_stays w (n - 1 - c) (rw (← o))) h) q
    lower_fails (suc (suc zero)) o q =
        keep_clash (in_words bury keep) (situation_at n w) c (column 2 o) (compared Clash (clash_lower o) h q)
    lower_fails (suc (suc (suc zero))) o q = never (itself (lower_stays w (n - 1 - c) (rw (← o))) h) q
    lower_fails (suc (suc (suc (suc old)))) o q = absurd (omega arith)

    module _ (y : g ≡ true) {d : Bool} (j : d ≡ grown bury keep w (bit_or w (2 * 4 ^ (n - 1 - c)))) where
      higher_fails :
          (old : ℕ) → old ≡ digit w (n - 1 - c) → d ≡ false → bit_or old 2 ≡ first_answer (in_words bury keep) (situation_at n w) c
      higher_fails zero o q =
          silent_keep (in_words bury keep) (situation_at n w) c (column 0 o) (compared Bury (bury_lower o) h y)
          (compared Keep (keep_higher o) j q)
      higher_fails (suc zero) o q =
          bury_clash (in_words bury keep) (situation_at n w) c (column 1 o) (compared Clash (clash_higher o) j q)
      higher_fails (suc (suc zero)) o q = never (itself (higher_stays w (n - 1 - c) (rw (← o))) j) q
      higher_fails (suc (suc (suc zero))) o q = never (itself (higher_stays w (n - 1 - c) (rw (← o))) j) q
      higher_fails (suc (suc (suc (suc old)))) o q = absurd (omega arith)

      none_at : (old : ℕ) → old ≡ digit w (n - 1 - c) → d ≡ true → 4 ≡ first_answer (in_words bury keep) (situation_at n w) c
      none_at zero o q =
          silent_none (in_words bury keep) (situation_at n w) c (column 0 o) (compared Bury (bury_lower o) h y)
          (compared Keep (keep_higher o) j q)
      none_at (suc zero) o q =
          bury-none (in_words bury keep) (situation_at n w) c (column 1 o) (compared Clash (clash_higher o) j q)
      none_at (suc (suc zero)) o q =
          keep_none (in_words bury keep) (situation_at n w) c (column 2 o) (compared Clash (clash_lower o) h y)
      none_at (suc (suc (suc zero))) o q = clash_none (in_words bury keep) (situation_at n w) c (column 3 o)
      none_at (suc (suc (suc (suc old)))) o q = absurd (omega arith)

      pub none-fails : d ≡ true → 4 ≡ first_answer (in_words bury keep) (situation_at n w) c
      none-fails q = none_at (digit w (n - 1 - c)) refl q

  -- a digit with one bit set is an answer's number
  set_small : (old m : ℕ) → old ≡ digit w (n - 1 - c) → m < 4 → bit_or old m ≤ 3
  set_small old m o l = omega (arith, or_lt 2 old m (rw o (omega arith)) l)

  told : {a : Answer} {m : ℕ} → a ≡ from_number m → m ≤ 3 → number a ≡ m
  told i l = ap number i ∙ from_number_lem _ l

  -- the same with the column's weight
  module _ {b : ℕ} (v : b ≡ weight (n - 1 - c)) where
    weight_is : b ≡ 4 ^ (n - 1 - c)
    weight_is = v ∙ weight_power (n - 1 - c) (omega (arith, k.has, k.here.most))

    weight-small : b ≤ 1024
    weight-small =
        rw weight_is (pow-le-pow_right {n = 4} (zero-lt-suc 3) {i = n - 1 - c} {j = 5} (omega (arith, k.has, k.here.most)))

    times_small : (m : ℕ) → m ≤ 3 → m * b < 4096
    times_small zero l = omega arith
    times_small (suc zero) l = omega (arith, weight-small)
    times_small (suc (suc zero)) l = omega (arith, weight-small)
    times_small (suc (suc (suc zero))) l = omega (arith, weight-small)
    times_small (suc (suc (suc (suc m)))) l = absurd (omega arith)

    pub times_fits : (m : ℕ) → m ≤ 3 → m * b < 18446744073709551616
    times_fits m l = omega (arith, times_small m l)

    pub here-inside : w < 4096
    here-inside = omega (arith, power_small n k.here.most, k.here.inside)

    pub lower_inside : bit_or w b < 4096
    lower_inside = or_lt 12 w b here-inside (omega (arith, weight-small))

    pub higher_inside : (m : ℕ) → m ≤ 3 → bit_or w (m * b) < 4096
    higher_inside m l = or_lt 12 w (m * b) here-inside (times_small m l)

    module _ {g : Bool} (h : g ≡ grown bury keep w (bit_or w b)) where
      pub tried_lower :
          (a : Answer) (old : ℕ) →
          old ≡ digit w (n - 1 - c) →
          g ≡ false →
          a ≡ from_number (bit_or old 1) →
          number a ≡ first_answer (in_words bury keep) (situation_at n w) c
      tried_lower a old o q i = told i (set_small old 1 o (omega arith)) ∙ lower_fails (rw weight_is at h) old o q

      module _ (y : g ≡ true) {d : Bool} (j : d ≡ grown bury keep w (bit_or w (2 * b))) where
        pub tried_higher :
            (a : Answer) (old : ℕ) →
            old ≡ digit w (n - 1 - c) →
            d ≡ false →
            a ≡ from_number (bit_or old 2) →
            number a ≡ first_answer (in_words bury keep) (situation_at n w) c
        tried_higher a old o q i =
            told i (set_small old 2 o (omega arith)) ∙ higher_fails (rw weight_is at h) y (rw weight_is at j) old o q

        pub tried_none : d ≡ true → 4 ≡ first_answer (in_words bury keep) (situation_at n w) c
        tried_none q = none-fails (rw weight_is at h) y (rw weight_is at j) q

pub ruleset answer_laws = (tried_lower, tried_higher, tried_none)
