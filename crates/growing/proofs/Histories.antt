-- Under the law nothing that was said is lost: bury stays bury or clash, and a merged history only grows.
use Prim.Native.Nat.{ℕ, zero, suc, ◌<◌}
use mathlib.Core.Path.{◌≡◌, refl, sym, ◌∙◌}
use mathlib.Core.Logic.{◌⊎◌, inl, inr}
use mathlib.Core.List.{List, [], ◌∷◌}
use lib.Dec.{T}
use lib.ListN.{length, get_or}
use native.Mathlib.Omega.{arith}
use Rattle.answers.specs.Meaning.{contained}
use Rattle.answers.specs.declared.Answer.{Answer}
use Rattle.answers.specs.declared.Answer.TheVariants.{Silent, Bury, Keep, Clash}
use Rattle.situations.specs.Meaning.{merge, Within}
use Rattle.situations.proofs.Merging.{within-refl, within_trans, merge-length, merge-left, merge-right}
use Rattle.growing.specs.Meaning.{Grows, Long, merged}
use Rattle.growing.proofs.Mergers.{grow_within}

bury_in : (x : Answer) → T (contained Bury x) → (x ≡ Bury) ⊎ (x ≡ Clash)
bury_in Silent h = absurd h
bury_in Bury h = inl refl
bury_in Keep h = absurd h
bury_in Clash h = inr refl

keep_in : (x : Answer) → T (contained Keep x) → (x ≡ Keep) ⊎ (x ≡ Clash)
keep_in Silent h = absurd h
keep_in Bury h = absurd h
keep_in Keep h = inl refl
keep_in Clash h = inr refl

-- a merged history contains each of its situations
pub merged-length : (n : ℕ) (s : List Answer) (more : List (List Answer)) → length s ≡ n → length (merged s more) ≡ n
unfolding merged
merged-length n s [] e = e
merged-length n s (t ∷ more) e = merged-length n (merge s t) more (merge-length s t ∙ e)

pub merged-first : (n : ℕ) (s : List Answer) (more : List (List Answer)) → length s ≡ n → Long n more → Within s (merged s more)
unfolding merged
merged-first n s [] e h = within-refl s
merged-first n s (t ∷ more) e h =
    within_trans s (merge s t) (merged (merge s t) more) (merge-left s t) (merged-first n (merge s t) more (merge-length s t ∙ e) h.1)

pub merged-member :
    (n : ℕ) (s : List Answer) (more : List (List Answer)) →
    length s ≡ n →
    Long n more →
    (k : ℕ) →
    k < length more →
    Within (get_or more k []) (merged s more)
unfolding merged
merged-member n s [] e h k l = absurd (omega arith)
merged-member n s (t ∷ more) e h zero l =
    within_trans t (merge s t) (merged (merge s t) more) (merge-right s t (e ∙ sym h.0)) (merged-first n (merge s t) more (merge-length s t ∙ e) h.1)
merged-member n s (t ∷ more) e h (suc k) l = merged-member n (merge s t) more (merge-length s t ∙ e) h.1 k (omega arith)

long-member : (n : ℕ) (more : List (List Answer)) → Long n more → (k : ℕ) → k < length more → length (get_or more k []) ≡ n
long-member n [] h k l = absurd (omega arith)
long-member n (t ∷ more) h zero l = h.0
long-member n (t ∷ more) h (suc k) l = long-member n more h.1 k (omega arith)

module _ (f : List Answer → Answer) (n : ℕ) (g : Grows f n) where
  pub bury_stays : (s t : List Answer) → length s ≡ n → length t ≡ n → f s ≡ Bury → (f (merge s t) ≡ Bury) ⊎ (f (merge s t) ≡ Clash)
  bury_stays s t a b e = bury_in (f (merge s t)) (rw e at (g.first s t a b))

  pub keep_stays : (s t : List Answer) → length s ≡ n → length t ≡ n → f s ≡ Keep → (f (merge s t) ≡ Keep) ⊎ (f (merge s t) ≡ Clash)
  keep_stays s t a b e = keep_in (f (merge s t)) (rw e at (g.first s t a b))

  module _ (s : List Answer) (more : List (List Answer)) (e : length s ≡ n) (h : Long n more) where
    pub history_first : T (contained (f s) (f (merged s more)))
    history_first = grow_within f n g s (merged s more) e (merged-length n s more e) (merged-first n s more e h)

    pub history_member : (k : ℕ) → k < length more → T (contained (f (get_or more k [])) (f (merged s more)))
    history_member k l =
        grow_within f n g (get_or more k []) (merged s more) (long-member n more h k l) (merged-length n s more e) (merged-member n s more e h k l)
