-- The first byte above a limit: what stands before it, lists without one, and the loop that looks for it.
use Prim.Native.Nat.{ℕ, zero, suc, ◌+◌, ◌≤◌, ◌<◌}
use mathlib.Core.Path.{◌≡◌, refl, sym, ap, ◌∙◌}
use mathlib.Core.Bool.{Bool, true, false, cond}
use mathlib.Core.List.{List, [], ◌∷◌}
use lib.ListN.{length, get_or}
use lib.Dec.{ltb}
use borrow.Author.Tests.{le-ltb, ltb-false}
use native.Mathlib.Omega.{arith}
use Rattle.fields.specs.Meaning.{first_above, above}
use Rattle.std.specs.Prelude.{Some, None}
use Rattle.std.proofs.lemmas.Option.{cond_some, none-some}
use Rattle.std.proofs.lemmas.List.Recursion.{is_position_or_len}

-- what stands before the first byte above a limit, and a list without such a byte
pub first_above_before : (limit : ℕ) (s : List ℕ) (k : ℕ) → k < first_above limit s → get_or s k 0 ≤ limit
unfolding first_above
first_above_before limit [] k h = absurd (omega arith)
first_above_before limit (b ∷ s) k h = go (ltb limit b) refl k h (λ i. first_above_before limit s i)
  where
    go :
        (test : Bool) →
        ltb limit b ≡ test →
        (k : ℕ) →
        k < cond (ltb limit b) 0 (suc (first_above limit s)) →
        ((i : ℕ) → i < first_above limit s → get_or s i 0 ≤ limit) →
        get_or (b ∷ s) k 0 ≤ limit
    go true e k l r = absurd (let z : k < 0 = rw e at l in omega arith)
    go false e zero l r = ltb-false limit b e
    go false e (suc k) l r = r k (let z : suc k < suc (first_above limit s) = rw e at l in omega arith)

pub first_above-all : (limit : ℕ) (s : List ℕ) → ((k : ℕ) → k < length s → get_or s k 0 ≤ limit) → first_above limit s ≡ length s
unfolding first_above
first_above-all limit [] h = refl
first_above-all limit (b ∷ s) h = rw (le-ltb limit b (h 0 (omega arith)), first_above-all limit s (λ k l. h (suc k) (omega arith)))

one_more : (n : ℕ) → suc n ≡ 1 + n
one_more n = omega arith

-- the library's search for a place finds it
pub above_lem : (limit : ℕ) (s : List ℕ) → above limit s ≡ cond (ltb (first_above limit s) (length s)) (Some (first_above limit s)) None
unfolding first_above
above_lem limit s =
    ap (λ k. cond (ltb k (length s)) (Some k) None)
    (sym (is_position_or_len (first_above limit) (λ b. ltb limit b) refl (λ x xs. ap (cond (ltb limit x) 0) (one_more (first_above limit xs))) s))

module _ (limit : ℕ) (s : List ℕ) where
  pub above-found : {k : ℕ} → above limit s ≡ Some k → (ltb (first_above limit s) (length s) ≡ true) × (first_above limit s ≡ k)
  above-found {k} e = cond_some (ltb (first_above limit s) (length s)) (first_above limit s) k (sym (above_lem limit s) ∙ e)

  pub above_none : above limit s ≡ None → ltb (first_above limit s) (length s) ≡ false
  above_none e = cond-none (ltb (first_above limit s) (length s)) (sym (above_lem limit s) ∙ e)
    where
      cond-none : (b : Bool) → cond b (Some (first_above limit s)) None ≡ None → b ≡ false
      cond-none true q = absurd (none-some _ (sym q))
      cond-none false q = refl
