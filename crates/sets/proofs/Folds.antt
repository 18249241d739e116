-- What is made of a list by an operator in any order, any grouping and any number of times hangs on its members alone.
use mathlib.Core.Path.{◌≡◌, refl, sym, ◌∙◌}
use mathlib.Core.List.Memᴰ
use mathlib.Core.List.{List, [], ◌∷◌, ◌++◌}
use Rattle.sets.specs.Meaning.{Among}
use Rattle.sets.proofs.Members.{Same}

module _ {A B : Type 0} (op : B → B → B) (unit : B)
    (assoc : (x y z : B) → op (op x y) z ≡ op x (op y z)) (comm : (x y : B) → op x y ≡ op y x) (idem : (x : B) → op x x ≡ x)
    (neutral : (x : B) → op unit x ≡ x)
    (g : A → B) (F : List A → B) (none : F [] ≡ unit) (more : (a : A) (s : List A) → F (a ∷ s) ≡ op (g a) (F s)) where
  pub fold-append : (s t : List A) → F (s ++ t) ≡ op (F s) (F t)
  fold-append [] t = rw (none, neutral (F t))
  fold-append (a ∷ s) t = rw (more a (s ++ t), more a s, fold-append s t, assoc (g a) (F s) (F t))

  absorbed : {a : A} (s : List A) → Among a s → op (g a) (F s) ≡ F s
  absorbed {a = a} [] x' = elim x' [ ]
  absorbed {a} (b ∷ s) (Memᴰ.head e) = rw (more b s, e, ← assoc (g b) (g b) (F s), idem (g b))
  absorbed {a} (b ∷ s) (Memᴰ.tail i) =
      rw (more b s, ← assoc (g a) (g b) (F s), comm (g a) (g b), assoc (g b) (g a) (F s), absorbed s i)

  within : (s t : List A) → ((a : A) → Among a s → Among a t) → op (F s) (F t) ≡ F t
  within [] t h = rw (none, neutral (F t))
  within (a ∷ s) t h =
      rw (more a s, assoc (g a) (F s) (F t), within s t (λ b i. h b (Memᴰ.tail i)), absorbed t (h a (Memᴰ.head refl)))

  pub fold_same : {s t : List A} → Same s t → F s ≡ F t
  fold_same {s} {t} h = sym (within t s h.1) ∙ comm (F t) (F s) ∙ within s t h.0
