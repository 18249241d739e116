-- "24 when: a test, then a policy, silent where the test is false", on sets.
use mathlib.Core.Path.{◌≡◌, refl}
use mathlib.Core.Bool.{Bool, true, false, cond, true≢false, false≢true}
use mathlib.Core.Logic.{◌⊎◌, inl, inr, ⊎_elim, ⊎_map, ◌↔◌}
use mathlib.Core.List.Memᴰ
use mathlib.Core.List.{List, [], ◌∷◌}
use Rattle.answers.specs.declared.Answer.{Answer}
use Rattle.answers.specs.declared.Answer.TheVariants.{Silent}
use Rattle.sets.specs.Meaning.{Among}
use Rattle.sets.proofs.Members.{Subset}
use Rattle.truths.specs.Meaning.{whenever}

-- silent where the test may be false, or one of the policy's answers where it may be true
abbrev Either : Answer → List Bool → List Answer → Type 0
Either a ts ps = (Among false ts × (a ≡ Silent)) ⊎ (Among true ts × Among a ps)

more : (a : Answer) (t : Bool) (ts : List Bool) (ps : List Answer) → Either a ts ps → Either a (t ∷ ts) ps
more a t ts ps (inl h) = inl (Memᴰ.tail h.0, h.1)
more a t ts ps (inr h) = inr (Memᴰ.tail h.0, h.1)

among_either : (a : Answer) (ts : List Bool) (ps : List Answer) → Among a (whenever ts ps) → Either a ts ps
among_either a [] ps i = absurd (Memᴰ.not-nil i)
among_either a (false ∷ ts) ps i =
    ⊎_elim (λ e. inl (Memᴰ.head refl, e)) (λ j. more a false ts ps (among_either a ts ps j)) (Memᴰ.cases_cons i)
among_either a (true ∷ ts) ps i =
    ⊎_elim (λ j. inr (Memᴰ.head refl, j)) (λ j. more a true ts ps (among_either a ts ps j)) (Memᴰ.append_cases ps i)

silent_among : (a : Answer) (ts : List Bool) (ps : List Answer) → Among false ts → a ≡ Silent → Among a (whenever ts ps)
silent_among a [] ps i e = absurd (Memᴰ.not-nil i)
silent_among a (false ∷ ts) ps i e = Memᴰ.head e
silent_among a (true ∷ ts) ps i e =
    ⊎_elim (λ q. absurd (false≢true q)) (λ j. Memᴰ.append_right ps (silent_among a ts ps j e)) (Memᴰ.cases_cons i)

said_among : (a : Answer) (ts : List Bool) (ps : List Answer) → Among true ts → Among a ps → Among a (whenever ts ps)
said_among a [] ps i m = absurd (Memᴰ.not-nil i)
said_among a (true ∷ ts) ps i m = Memᴰ.append_left (whenever ts ps) m
said_among a (false ∷ ts) ps i m =
    ⊎_elim (λ q. absurd (true≢false q)) (λ j. Memᴰ.tail (said_among a ts ps j m)) (Memᴰ.cases_cons i)

pub whenever_either : (a : Answer) (ts : List Bool) (ps : List Answer) →
    Among a (whenever ts ps) ↔ ((Among false ts × (a ≡ Silent)) ⊎ (Among true ts × Among a ps))
whenever_either a ts ps = (
  among_either a ts ps,
  ⊎_elim (λ h. silent_among a ts ps h.0 h.1) (λ h. said_among a ts ps h.0 h.1),
)

-- a truth that the test may have, and an answer that the policy may give
pub cond_among : (t : Bool) (a : Answer) (ts : List Bool) (ps : List Answer) → Among t ts → Among a ps →
    Among (cond t a Silent) (whenever ts ps)
cond_among true a ts ps i j = said_among a ts ps i j
cond_among false a ts ps i j = silent_among Silent ts ps i refl

-- more truths and more answers leave more open
pub subset_whenever : (ts us : List Bool) (ps qs : List Answer) → Subset ts us → Subset ps qs → Subset (whenever ts ps) (whenever us qs)
subset_whenever ts us ps qs h k a i =
    (whenever_either a us qs).1
    (⊎_map (λ e. (h false e.0, e.1)) (λ e. (h true e.0, k a e.1)) ((whenever_either a ts ps).0 i))
