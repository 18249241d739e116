-- What stands in the lists that an operator makes of sets.
use mathlib.Core.Path.{◌≡◌, refl, sym, ap}
use mathlib.Core.Logic.{⊎_elim}
use mathlib.Core.List.Memᴰ
use mathlib.Core.List.{List, [], ◌∷◌, map}
use Rattle.sets.specs.Meaning.{Among, pairs}

-- Every member of the one is a member of the other; and the same members.
abbrev pub Subset : {A : Type 0} → List A → List A → Type 0
Subset {A} s t = (a : A) → Among a s → Among a t

abbrev pub Same : {A : Type 0} → List A → List A → Type 0
Same s t = Subset s t × Subset t s

pub subset_map : {A B : Type 0} (f : A → B) (s t : List A) → Subset s t → Subset (map f s) (map f t)
subset_map f s t h b i = let j = Memᴰ.of_map f s i in Memᴰ.cast (sym j.2) (Memᴰ.map f (h j.0 j.1))

pub same_map : {A B : Type 0} (f : A → B) {s t : List A} → Same s t → Same (map f s) (map f t)
same_map f {s} {t} h = (subset_map f s t h.0, subset_map f t s h.1)

module _ {A B C : Type 0} (f : A → B → C) where
  -- An operator's result on two members, and two members that a result is of.
  pub pairs_among : {a : A} {b : B} (xs : List A) (ys : List B) → Among a xs → Among b ys → Among (f a b) (pairs f xs ys)
  pairs_among [] ys i j = absurd (Memᴰ.not-nil i)
  pairs_among {a} {b} (x ∷ xs) ys (Memᴰ.head e) j =
      Memᴰ.append_left (pairs f xs ys) (Memᴰ.cast (ap (λ z. f z b) e) (Memᴰ.map (f x) j))
  pairs_among (x ∷ xs) ys (Memᴰ.tail i) j = Memᴰ.append_right (map (f x) ys) (pairs_among xs ys i j)

  pub among_pairs : (xs : List A) (ys : List B) {c : C} → Among c (pairs f xs ys) →
      (a : A) × (b : B) × Among a xs × Among b ys × (f a b ≡ c)
  among_pairs [] ys i = absurd (Memᴰ.not-nil i)
  among_pairs (x ∷ xs) ys {c} i =
      ⊎_elim
      (λ j. let k = Memᴰ.of_map (f x) ys j in (x, k.0, Memᴰ.head refl, k.1, k.2))
      (λ j. let k = among_pairs xs ys j in (k.0, k.1, Memᴰ.tail k.2, k.3, k.4))
      (Memᴰ.append_cases (map (f x) ys) i)

  pub subset_pairs : (s t : List A) (u v : List B) → Subset s t → Subset u v → Subset (pairs f s u) (pairs f t v)
  subset_pairs s t u v h k c i =
      let j = among_pairs s u i in
      Memᴰ.cast (sym j.4) (pairs_among t v (h j.0 j.2) (k j.1 j.3))

  pub same-pairs : {s t : List A} {u v : List B} → Same s t → Same u v → Same (pairs f s u) (pairs f t v)
  same-pairs {s} {t} {u} {v} h k = (subset_pairs s t u v h.0 k.0, subset_pairs t s v u h.1 k.1)
