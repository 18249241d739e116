-- A voice's record over some notices: which numbers they are refused with, and what becomes of them where the voice is refused.
use Prim.Native.Nat.{ℕ, suc, ◌≤◌, ◌<◌}
use mathlib.Core.Path.{◌≡◌, refl, ap, subst, ◌∙◌}
use mathlib.Core.Bool.{Bool, true, false, cond, not}
use mathlib.Core.List.{List, [], ◌∷◌, ◌++◌, map}
use native.Mathlib.Omega.{arith}
use lib.Dec.{T, ltb, eqb}
use lib.ListN.{length}
use borrow.Author.Tests.{lt-ltb, le-ltb, ltb-true, ltb-false, ne_eqb}
use Rattle.refusals.specs.Meaning.{Numbers}
use Rattle.answers.specs.declared.Answer.{Answer}
use Rattle.answers.specs.Meaning.{Reply}
use Rattle.notices.specs.Meaning as notice
use Rattle.notices.proofs.Found.{Found, read_rest-found}
use Rattle.trees.specs.Meaning.{Policy, Read, refused}
use Rattle.voices.specs.Meaning.{read_voice, heard, received, speak_of}
use Rattle.counts.specs.Meaning as counts
use Rattle.counts.specs.Meaning.{count, gave, refused_as, counts_of}
use Rattle.weeks.specs.Meaning.{replies}
use Rattle.replying.specs.Meaning.{spoken, refuse_reply}
use Rattle.replying.proofs.VoiceNumbers.{Makes, read_voice_makes, speak_of-spoken}
use Rattle.replying.proofs.ReplyLaws.{refuses_loud}
use Rattle.counting.specs.Meaning.{sum, first_number}
use Rattle.counting.proofs.Totals.{Numbered, counts_append}

-- counting replies by what is known of their notices
module _ {A B : Type 0} (test : B → Bool) (f : A → B) where
  pub count_map : (other : A → Bool) → ((x : A) → test (f x) ≡ other x) → (xs : List A) → count test (map f xs) ≡ count other xs
  unfolding count
  count_map other h [] = refl
  count_map other h (x ∷ xs) = rw (h x, count_map other h xs)

  pub count_never : ((x : A) → test (f x) ≡ false) → (xs : List A) → count test (map f xs) ≡ 0
  unfolding count
  count_never h [] = refl
  count_never h (x ∷ xs) = rw (h x) (count_never h xs)

  pub count_always : ((x : A) → test (f x) ≡ true) → (xs : List A) → count test (map f xs) ≡ length xs
  unfolding count
  count_always h [] = refl
  count_always h (x ∷ xs) = rw (h x) (ap suc (count_always h xs))

pub replies-length : (voice : List ℕ) (ns : List (List ℕ)) → length (replies voice ns) ≡ length ns
replies-length voice [] = refl
replies-length voice (n ∷ ns) = ap suc (replies-length voice ns)

pub replies-append : (voice : List ℕ) (ns ms : List (List ℕ)) → replies voice (ns ++ ms) ≡ replies voice ns ++ replies voice ms
replies-append voice [] ms = refl
replies-append voice (n ∷ ns) ms = ap (λ (rs : List Reply). speak_of n voice ∷ rs) (replies-append voice ns ms)

-- the counts of notices one behind another are the sums
pub record_append : (voice : List ℕ) (ns ms : List (List ℕ)) →
    counts_of (replies voice (ns ++ ms)) ≡ sum (counts_of (replies voice ns)) (counts_of (replies voice ms))
record_append voice ns ms = ap counts_of (replies-append voice ns ms) ∙ counts_append (replies voice ns) (replies voice ms)

-- every number is below 22, and so among the places
pub spoken-small : (k : ℕ) → T (spoken k) → k < 22
spoken-small k h = go (ltb k 22) refl
  where
    large : 22 ≤ k → ⊥
    large l =
        rw (
          le-ltb k 2 (omega (arith, l)),
          ne_eqb k 3 (λ e. omega (arith, e, l)),
          ne_eqb k 4 (λ e. omega (arith, e, l)),
          lt-ltb 15 k (omega (arith, l)),
          le-ltb k 22 (omega (arith, l)),
        ) at h

    go : (b : Bool) → ltb k 22 ≡ b → k < 22
    go true e = ltb-true k 22 e
    go false e = absurd (large (ltb-false k 22 e))

pub replies-numbered : (voice : List ℕ) (ns : List (List ℕ)) → Numbered (replies voice ns)
replies-numbered voice [] = tt
replies-numbered voice (n ∷ ns) = (
  let l = spoken-small (speak_of n voice).refusal.number (speak_of-spoken n voice) in omega (arith, l),
  replies-numbered voice ns,
)

-- a number that no notice and no voice is refused with counts nothing, nor does 0
not_as : (k : ℕ) (r : Reply) → (r.refusal.number ≡ k → ⊥) → refused_as k r ≡ false
not_as k r h = rw (ne_eqb r.refusal.number k h) (alike (counts.refused r))
  where
    alike : (b : Bool) → cond b false false ≡ false
    alike true = refl
    alike false = refl

pub unspoken_none : (k : ℕ) → (T (spoken k) → ⊥) → (voice : List ℕ) (ns : List (List ℕ)) → count (refused_as k) (replies voice ns) ≡ 0
unspoken_none k h voice ns =
    count_never (refused_as k) (λ n. speak_of n voice)
    (λ n. not_as k (speak_of n voice) (λ e. h (subst (λ (m : ℕ). T (spoken m)) e (speak_of-spoken n voice)))) ns

pub zero-none : (voice : List ℕ) (ns : List (List ℕ)) → count (refused_as 0) (replies voice ns) ≡ 0
zero-none voice ns = count_never (refused_as 0) (λ n. speak_of n voice) (λ n. zero_as (speak_of n voice).refusal.number) ns
  where
    zero_as : (m : ℕ) → cond (not (eqb m 0)) (eqb m 0) false ≡ false
    zero_as m = go (eqb m 0)
      where
        go : (b : Bool) → cond (not b) b false ≡ false
        go true = refl
        go false = refl

-- Where the voice is refused: each notice is, under its own number or else the voice's.
pub unheard-notice : (n voice : List ℕ) (q : Numbers) → notice.read_facts n ≡ notice.refused q → speak_of n voice ≡ refuse_reply q
unheard-notice n voice q e = rw e

module _ (voice : List ℕ) (r : Numbers) (e : read_voice voice ≡ refused r) where
  pub unheard_voice : (n : List ℕ) (fs : List notice.Fact) → notice.read_facts n ≡ notice.facts fs → speak_of n voice ≡ refuse_reply r
  unheard_voice n fs f = rw (f, e)

  voice_loud : r.number ≡ 0 → ⊥
  voice_loud = refuses_loud r (subst (λ (x : Read Policy). Makes x) e (read_voice_makes voice))

  first-reply : (x : notice.Reading) (n : List ℕ) → Found 32 n x →
      let k = cond (eqb (notice.noticed x).refusal.number 0) r.number (notice.noticed x).refusal.number in
      ((received (heard x (refused r))).refusal.number ≡ k) × (k ≡ 0 → ⊥)
  first-reply (notice.facts fs) n h = (refl, voice_loud)
  first-reply (notice.refused q) n h = rw (ne_eqb q.number 0 h) (refl, h)

  first-number : (n : List ℕ) → ((speak_of n voice).refusal.number ≡ first_number r n) × (first_number r n ≡ 0 → ⊥)
  first-number n = rw e (first-reply (notice.read_facts n) n (read_rest-found 32 0 0 n))

  refused-each : (n : List ℕ) → counts.refused (speak_of n voice) ≡ true
  refused-each n = let h = first-number n in rw (h.0, ne_eqb (first_number r n) 0 h.1)

  module _ (ns : List (List ℕ)) where
    pub unheard-refused : count counts.refused (replies voice ns) ≡ length ns
    unheard-refused = count_always counts.refused (λ n. speak_of n voice) refused-each ns

    pub unheard-gave : (a : Answer) → count (gave a) (replies voice ns) ≡ 0
    unheard-gave a = count_never (gave a) (λ n. speak_of n voice) (λ n. rw (refused-each n)) ns

    pub unheard_as : (k : ℕ) → count (refused_as k) (replies voice ns) ≡ count (λ n. eqb (first_number r n) k) ns
    unheard_as k =
        count_map (refused_as k) (λ n. speak_of n voice) (λ n. eqb (first_number r n) k)
        (λ n. rw (refused-each n, (first-number n).0)) ns
