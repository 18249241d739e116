-- Writing into a lent buffer: one run of bytes behind another, and what is left of a whole.
use Prim.Native.Nat.{ℕ, suc, ◌+◌, ◌≤◌, ◌<◌}
use mathlib.Core.Bool.{Bool, true, false, cond}
use mathlib.Core.Path.{◌≡◌, refl, ap, sym, ◌∙◌}
use mathlib.Core.List.{List, [], ◌∷◌, ◌++◌}
use lib.Dec.{ltb}
use lib.ListN.{length, set, length-append, length-set}
use lib.Seq.{sets, length-sets}
use borrow.Author.Tests.{lt-ltb, le-ltb}
use native.Mathlib.Nat.{add-zero}
use native.Mathlib.Omega.{arith}
use Rattle.lent.specs.Meaning.{WroteWhole}
use Rattle.lent.specs.Inside.{Wrote, Writing}

pub sets_append : (l : List ℕ) (i : ℕ) (xs ys : List ℕ) → sets l i (xs ++ ys) ≡ sets (sets l i xs) (i + length xs) ys
sets_append l i [] ys = rw add-zero
sets_append l i (x ∷ xs) ys =
    let e : i + suc (length xs) ≡ suc i + length xs = omega arith in
    rw e (sets_append (set l i x) (suc i) xs ys)

-- nothing, and bytes that are only counted
pub wrote_none : (b : List ℕ) (i : ℕ) → Wrote b i [] b i
wrote_none b i = record { ends = sym (add-zero i); holds = λ h. refl; long = refl }

pub wrote_counted : (b : List ℕ) (i : ℕ) (xs : List ℕ) {next : ℕ} → next ≡ i + length xs → length b < next → Wrote b i xs b next
wrote_counted b i xs e l = record { ends = e; holds = λ h. absurd (omega (arith, h)); long = refl }

-- one byte, and one run behind another
pub wrote_one : (b : List ℕ) (i x : ℕ) {next : ℕ} → next ≡ i + 1 → Wrote b i (x ∷ []) (set b i x) next
wrote_one b i x e = record { ends = e; holds = λ h. refl; long = length-set b i x }

pub wrote_then : {b c d xs ys : List ℕ} {i m n : ℕ} → Wrote b i xs c m → Wrote c m ys d n → Wrote b i (xs ++ ys) d n
wrote_then {b} {xs = xs} {ys = ys} {i = i} v w =
    record {
      ends = simp length-append (let e = v.ends in let f = w.ends in omega arith);
      holds =
          λ h.
          let e = w.ends in
          let f = v.long in
          w.holds (omega (arith, h)) ∙ (rw (v.holds (omega (arith, h)), v.ends) (sym (sets_append b i xs ys)));
      long = w.long ∙ v.long;
    }

-- a whole that is still to be written, and what is left of it behind a run
pub writing_start : (b : List ℕ) (i : ℕ) (whole : List ℕ) → Writing b i whole b i whole
writing_start b i whole = record { ends = refl; holds = λ h. refl; long = refl }

module _ {old new : List ℕ} {at next : ℕ} {whole rest : List ℕ} (w : Writing old at whole new next rest) where
  pub writing_more : (xs ys : List ℕ) {c : List ℕ} {m : ℕ} → rest ≡ xs ++ ys → Wrote new next xs c m → Writing old at whole c m ys
  writing_more xs ys e v =
      let size : length rest ≡ length xs + length ys = ap length e ∙ length-append xs ys in
      let p = w.ends in
      let q = v.ends in
      let l = w.long in
      record {
        ends = omega arith;
        holds =
            λ h.
            (rw (v.holds (omega (arith, h)), v.ends) (sym (sets_append new next xs ys) ∙ ap (sets new next) (sym e))) ∙ w.holds h;
        long = v.long ∙ w.long;
      }

  pub writing_done : rest ≡ [] → Wrote old at whole new next
  writing_done e =
      let none : length rest ≡ 0 = ap length e in
      let p = w.ends in
      record { ends = omega arith; holds = λ h. ap (sets new next) (sym e) ∙ w.holds (omega (arith, h)); long = w.long }

  -- the place behind a run is within what the place behind the whole is within
  pub writing_within : (xs ys : List ℕ) → rest ≡ xs ++ ys → (most : ℕ) → at + length whole ≤ most → next + length xs ≤ most
  writing_within xs ys e most h =
      let size : length rest ≡ length xs + length ys = ap length e ∙ length-append xs ys in
      let p = w.ends in
      omega arith

-- the same of a first part
pub within_first : (xs ys : List ℕ) {whole : List ℕ} → whole ≡ xs ++ ys → (at most : ℕ) → at + length whole ≤ most → at + length xs ≤ most
within_first xs ys e at most h = let size = ap length e ∙ length-append xs ys in omega arith

-- what public functions promise, and what they say inside
pub placed-none : (b : List ℕ) (i : ℕ) → WroteWhole b i [] b i
placed-none b i = record { ends = sym (add-zero i); holds = same (ltb (length b) (i + 0)) }
  where
    same : (s : Bool) → b ≡ cond s b b
    same true = refl
    same false = refl

pub placed-counted : (b : List ℕ) (i : ℕ) (xs : List ℕ) {next : ℕ} → next ≡ i + length xs → length b < next → WroteWhole b i xs b next
placed-counted b i xs e l = record { ends = e; holds = rw (lt-ltb (length b) (i + length xs) (omega arith)) }

pub placed-written : {b xs c : List ℕ} {i next : ℕ} → Wrote b i xs c next → next ≤ length b → WroteWhole b i xs c next
placed-written {b} {xs} {i = i} w l =
    let e = w.ends in
    record { ends = e; holds = rw (le-ltb (length b) (i + length xs) (omega arith)) (w.holds l) }

module _ {b xs c : List ℕ} {i next : ℕ} (p : WroteWhole b i xs c next) where
  pub placed_nothing : length b < next → c ≡ b
  placed_nothing l = let e = p.ends in p.holds ∙ (rw (lt-ltb (length b) (i + length xs) (omega arith)))

  pub placed-all : next ≤ length b → c ≡ sets b i xs
  placed-all l = let e = p.ends in p.holds ∙ (rw (le-ltb (length b) (i + length xs) (omega arith)))

  pub placed_wrote : Wrote b i xs c next
  placed_wrote = record { ends = p.ends; holds = placed-all; long = same (ltb (length b) (i + length xs)) p.holds }
    where
      same : (s : Bool) → c ≡ cond s b (sets b i xs) → length c ≡ length b
      same true e = ap length e
      same false e = ap length e ∙ length-sets b i xs
