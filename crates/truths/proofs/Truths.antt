-- Sets of truths and their numbers; a test of two, and when, member by member.
use mathlib.Core.Path.{◌≡◌, refl, sym, ap}
use mathlib.Core.Bool.{Bool, true, false, cond}
use mathlib.Core.List.Memᴰ
use mathlib.Core.List.{List, [], ◌∷◌, ◌++◌, map}
use lib.Dec.{eqb}
use Rattle.std.specs.List.{flat_map}
use Rattle.answers.specs.declared.Answer.{Answer}
use Rattle.answers.specs.declared.Answer.TheVariants.{Silent}
use Rattle.sets.specs.Meaning.{Among, pairs, answer_set, answers_in}
use Rattle.sets.proofs.Members.{Same, same_map, same-pairs}
use Rattle.sets.proofs.Numbers.{Numbered, set_same, members-same, answers-same}
use Rattle.truths.specs.Meaning.{truth_number, truth_set, truths_in, whenever}
use Rattle.truths.proofs.Whenever.{subset_whenever}

-- A fact about both truths.
both : (P : Bool → Type 0) → P false × P true → (t : Bool) → P t
both P h false = h.0
both P h true = h.1

two_truths : (P : Bool → Bool → Type 0) → (P false false × P false true) × (P true false × P true true) → (t u : Bool) → P t u
two_truths P h t = both (P t) (both (λ t. P t false × P t true) h t)

-- Each of the two stands among both.
pub each_truth : (t : Bool) → Among t (false ∷ true ∷ [])
each_truth = both _ (search (Memᴰ.head, Memᴰ.tail, refl))

truths_numbered : Numbered truth_number (false ∷ true ∷ [])
truths_numbered =
    record {
      complete = each_truth;
      power = two_truths _ (search refl);
      zero_bit = both _ (search refl);
      alike = two_truths (λ t u. eqb (truth_number t) (truth_number u) ≡ true → t ≡ u) ((λ h. refl, λ h. h), (λ h. sym h, λ h. refl));
      itself = both _ (search refl);
    }

pub truths_same : (ts : List Bool) → Same (truths_in (truth_set ts)) ts
truths_same = members-same truth_number _ truths_numbered

-- When, truth by truth.
map-same : {A : Type 0} (s : List A) → map (λ a. a) s ≡ s
map-same [] = refl
map-same (a ∷ s) = ap (λ s. a ∷ s) (map-same s)

abbrev pub said_or_silent : List Answer → Bool → List Answer
said_or_silent ps t = cond t (map (λ p. p) ps) (Silent ∷ [])

pub whenever-flat : (ts : List Bool) (ps : List Answer) → flat_map (said_or_silent ps) ts ≡ whenever ts ps
whenever-flat [] ps = refl
whenever-flat (false ∷ ts) ps = ap (λ s. Silent ∷ s) (whenever-flat ts ps)
whenever-flat (true ∷ ts) ps = rw (map-same ps) (ap (λ s. ps ++ s) (whenever-flat ts ps))

-- Sets that were handed on as numbers.
pub not_handed : (f : Bool → Bool) (ts : List Bool) → truth_set (map f (truths_in (truth_set ts))) ≡ truth_set (map f ts)
not_handed f ts = set_same _ (same_map f (truths_same ts))

pub joint_handed : (f : Bool → Bool → Bool) (ts us : List Bool) →
    truth_set (pairs f (truths_in (truth_set ts)) (truths_in (truth_set us))) ≡ truth_set (pairs f ts us)
joint_handed f ts us = set_same _ (same-pairs f (truths_same ts) (truths_same us))

pub when_handed : (ts : List Bool) (ps : List Answer) →
    answer_set (whenever (truths_in (truth_set ts)) (answers_in (answer_set ps))) ≡ answer_set (whenever ts ps)
when_handed ts ps =
    let tests = truths_in (truth_set ts) in
    let policies = answers_in (answer_set ps) in
    let h = truths_same ts in
    let k = answers-same ps in
    set_same _ (subset_whenever tests ts policies ps h.0 k.0, subset_whenever ts tests ps policies h.1 k.1)
