-- The own rows of all situations of n columns: a column has each answer in every fourth situation, so a row has n times a fourth of
-- the four answers' shares on average.
use Prim.Native.Nat.{ℕ, zero, suc, ◌+◌, ◌*◌, ◌/◌, ◌%◌, ◌^◌, ◌≤◌, ◌<◌}
use mathlib.Core.Path.{◌≡◌}
use mathlib.Core.List.{List, [], ◌∷◌, map, map-append}
use native.Mathlib.Nat.{pow-suc, mul_assoc, mul_right_comm, suc-mul, mul-le-mul, le_refl}
use native.Mathlib.Omega.{arith}
use Rattle.answers.specs.Meaning.{from_number}
use Rattle.answers.specs.declared.Answer.{Answer}
use Rattle.answers.specs.declared.Answer.TheVariants.{Silent, Bury, Keep, Clash}
use Rattle.situations.specs.Meaning.{situation_at}
use Rattle.situations.proofs.Weights.{weight_power, power_small}
use Rattle.base4.specs.Meaning.{situations_from, situations_of}
use Rattle.rows.specs.Meaning.{is}
use Rattle.formula.specs.Meaning.{total}
use Rattle.formula.proofs.Shares.{total-append, cell_share, cell_shares}

module _ (d : Answer) where
  -- what the own row of a situation has, those of some situations, and a column with each answer once
  abbrev pub own_share : List Answer → ℕ
  own_share s = cell_shares d (map is s)

  abbrev pub own_shares : List (List Answer) → ℕ
  own_shares l = total (map own_share l)

  abbrev pub column_share : ℕ
  column_share = own_share (Silent ∷ Bury ∷ Keep ∷ Clash ∷ [])

  last_column :
      (n w v k : ℕ) → v ≡ w * 4 + k → k < 4 →
      own_share (situation_at (suc n) v) ≡ own_share (situation_at n w) + own_share (from_number k ∷ [])
  unfolding situation_at
  last_column n w v k e l =
      let high : v / 4 ≡ w = omega arith in
      let low : v % 4 ≡ k = omega arith in
      rw (high, low, map-append) (total-append (cell_share d) (map is (situation_at n w)) (is (from_number k) ∷ []))

  one_more : (n w m : ℕ) → own_shares (situations_from (suc n) (w * 4) (m * 4)) ≡ 4 * own_shares (situations_from n w m) + m * column_share
  unfolding situations_from total
  one_more n w zero = omega arith
  one_more n w (suc m) =
      let four : suc m * 4 ≡ suc (suc (suc (suc (m * 4)))) = omega arith in
      let next : suc (suc (suc (suc (w * 4)))) ≡ suc w * 4 = omega arith in
      let silent = last_column n w (w * 4) 0 (omega arith) (omega arith) in
      let bury = last_column n w (suc (w * 4)) 1 (omega arith) (omega arith) in
      let keep = last_column n w (suc (suc (w * 4))) 2 (omega arith) (omega arith) in
      let clash = last_column n w (suc (suc (suc (w * 4)))) 3 (omega arith) (omega arith) in
      let rest = one_more n (suc w) m in
      rw (four, next) (omega (arith, suc-mul m column_share))

  all-columns : (n : ℕ) → 4 * own_shares (situations_from n 0 (4 ^ n)) ≡ n * (4 ^ n * column_share)
  unfolding situations_from situation_at total
  all-columns zero = omega arith
  all-columns (suc n) =
      let q : ℕ = 4 ^ n * column_share in
      let less = all-columns n in
      let more = one_more n 0 (4 ^ n) in
      rw (pow-suc, mul_right_comm (4 ^ n) 4 column_share, ← mul_assoc (suc n) q 4, suc-mul n q) (omega arith)

  pub own_shares_most : (n : ℕ) → n ≤ 6 → own_shares (situations_of n) ≤ 6144 * column_share
  own_shares_most n l =
      let all = all-columns n in
      let most = mul-le-mul l (mul-le-mul (power_small n l) (le_refl column_share)) in
      rw (weight_power n l) (omega arith)
