-- What `parse` gives of bytes with no plus in front, and of bytes that are no text.
use Prim.Native.Nat.{ℕ, ◌^◌, ◌<◌}
use mathlib.Core.Path.{◌≡◌, refl, sym, ap, ◌∙◌}
use mathlib.Core.Bool.{Bool, true, false}
use Rattle.std.specs.Prelude.{◌&&◌}
use mathlib.Core.List.{List, [], ◌∷◌}
use lib.Dec.{eqb}
use lib.ListN.{length, get_or}
use borrow.Author.Tests.{eqb-true, eq-eqb}
use native.Mathlib.Omega.{arith}
use Rattle.std.proofs.Common.{rules}
use Rattle.std.specs.Prelude.{Option, Some, None, is_some, Result, Ok, Err}
use Rattle.std.specs.Borrow.{Bor}
use Rattle.std.specs.List.{starts_with}
use Rattle.std.specs.Result.{MatchResult, OkIff, result_ok}
use Rattle.std.specs.Str.{IsUtf8}
use Rattle.std.specs.Str.Parse.{ParsesUnsigned}
use Rattle.std.proofs.lemmas.Str.{IsUtf8-from_ascii}
use Rattle.std.proofs.lemmas.Str.Parse.{IsNumeralModel, numerals_by_fold, parse_plain}
use Rattle.std.proofs.lemmas.Fmt.{IsAscii-from_digits}
use Rattle.decimals.specs.Meaning.{number_in, Digits, value_onto, value_of}
use Rattle.decimals.proofs.Values.{given_exactly, given-value, given-none}

own : IsNumeralModel Digits value_of
unfolding value_onto
own = numerals_by_fold Digits (search rules) value_onto (search rules)

-- what is no number gives none
no_number : (s : List ℕ) → (is_some (number_in s) ≡ true → ⊥) → None ≡ number_in s
no_number s h = go (is_some (number_in s)) refl
  where
    go : (b : Bool) → is_some (number_in s) ≡ b → None ≡ number_in s
    go true e = absurd (h e)
    go false e = sym (given-none s e)

pub parsed : {E : Type 0} (s : List ℕ) (r : Result ℕ E) → ParsesUnsigned 64 10 s r → (get_or s 0 0 ≡ 43 → ⊥) → result_ok r ≡ number_in s
parsed s r h plus = go r (parse_plain own 64 s r h plus)
  where
    go : {E : Type 0} (r : Result ℕ E) → OkIff r (Digits s × (0 < length s) × (value_of s < 2 ^ 64)) (value_of s) → result_ok r ≡ number_in s
    go (Ok n) (p, e) = sym (given-value s ((given_exactly s).1 (p.1, p.0, p.2)) ∙ ap Some (sym e))
    go (Err e) p = no_number s (λ g. let d = (given_exactly s).0 g in p (d.1, d.0, d.2))

-- a plus in front is no digit
and-left : (a : Bool) → true ≡ (a && true) → a ≡ true
and-left true h = refl
and-left false h = sym h

module _ (s : List ℕ) {b : Bool} (e : b ≡ starts_with eqb s (43 ∷ [])) where
  pub plus_none : b ≡ true → None ≡ number_in s
  plus_none h = go s (sym h ∙ e)
    where
      go : (s : List ℕ) → true ≡ starts_with eqb s (43 ∷ []) → None ≡ number_in s
      go [] i = refl
      go (x ∷ xs) i =
          let plus : x ≡ 43 = sym (eqb-true 43 x (and-left (eqb 43 x) i)) in
          no_number (x ∷ xs) (λ g. let low = ((given_exactly (x ∷ xs)).0 g).1.0 in omega arith)

  pub no_plus : b ≡ false → get_or s 0 0 ≡ 43 → ⊥
  no_plus h = go s (sym h ∙ e)
    where
      go : (s : List ℕ) → false ≡ starts_with eqb s (43 ∷ []) → get_or s 0 0 ≡ 43 → ⊥
      go [] i z = absurd (omega (arith, z))
      go (x ∷ xs) i z = let same = eq-eqb 43 x (sym z) in let plus : false ≡ true = rw same at i in absurd (cc plus)

-- digits are text, so that what is no text gives none
digits_text : (s : List ℕ) → Digits s → IsUtf8 s
digits_text s d = IsUtf8-from_ascii s (IsAscii-from_digits s (own.to s d))

module _ {E : Type 0} (s : List ℕ) (P : E → Type 0) where
  pub no_text-none :
      (r : Result (Bor (List ℕ)) E) {o : Option (Bor (List ℕ))} →
      MatchResult r (λ t. (t.now ≡ s) × IsUtf8 s) (λ e. (IsUtf8 s → ⊥) × P e) →
      o ≡ result_ok r →
      o ≡ None →
      None ≡ number_in s
  no_text-none (Ok t) m e i = absurd (cc (sym e ∙ i))
  no_text-none (Err x) m e i = no_number s (λ g. m.0 (digits_text s ((given_exactly s).0 g).1))

  pub text_same :
      (r : Result (Bor (List ℕ)) E) {o : Option (Bor (List ℕ))} (t : Bor (List ℕ)) →
      MatchResult r (λ t. (t.now ≡ s) × IsUtf8 s) (λ e. (IsUtf8 s → ⊥) × P e) →
      o ≡ result_ok r →
      o ≡ Some t →
      t.now ≡ s
  text_same (Ok u) t m e i = (let same : u ≡ t = cc (sym e ∙ i) in ap (λ (b : Bor (List ℕ)). b.now) (sym same)) ∙ m.0
  text_same (Err x) t m e i = absurd (cc (sym e ∙ i))
