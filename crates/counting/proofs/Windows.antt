-- A batch that comes in parts of any length: each is read as far as its fields are whole, and the counts of the whole are those of
-- what was read of each, counted one onto another.
use Prim.Native.Nat.{ℕ, ◌+◌, ◌-◌, ◌≤◌, ◌<◌}
use mathlib.Core.Path.{◌≡◌, refl, sym, ap, subst, ◌∙◌}
use mathlib.Core.Bool.{Bool, true, false, cond}
use mathlib.Core.List.{List, [], ◌∷◌, ◌++◌, append_assoc}
use native.Mathlib.Omega.{arith}
use lib.Dec.{eqb}
use lib.ListN.{length, take, drop, length-append}
use borrow.Author.Tests.{eqb-true, eqb-false}
use Rattle.fields.specs.Meaning.{Bytes}
use Rattle.fields.proofs.Numbers.{bytes-append, bytes_drop}
use Rattle.batches.specs.Meaning.{Part, read_rest, read_batch, MOST}
use Rattle.batches.proofs.Reading.{read_few}
use Rattle.counts.specs.Meaning.{counts_of, plus, LARGEST}
use Rattle.weeks.specs.Meaning.{replies, week_by, week_of, onto_of}
use Rattle.counting.specs.Meaning.{behind_these, moved, moved_refusal, joined, AllBytes, in_windows}
use Rattle.counting.proofs.Totals.{plus-append}
use Rattle.counting.proofs.Ends.{not-due, each-ends, each-told, each_encoded}
use Rattle.counting.proofs.Parts.{Onward, goes_on, stays_refused, number-moved, each-moved}
use Rattle.counting.proofs.Written.{whole, write_read}
use Rattle.counting.proofs.Records.{replies-length, replies-append}

-- what was read of a part is a batch of its own, of exactly the notices read
pub part_accepted : (ended : Bool) (left : ℕ) (s : List ℕ) → left ≤ MOST → Bytes s →
    let p = read_rest ended left 0 s in read_batch (take p.end s) ≡ whole 0 p.notices
part_accepted ended left s l bytes =
    let p = read_rest ended left 0 s in
    let t = each_encoded ended left 0 s bytes in
    let e : p.end - 0 ≡ p.end = omega arith in
    ap read_batch (rw e at (sym t.written))
    ∙ write_read p.notices MOST 0 (omega (arith, l, read_few ended left 0 s)) t.fits

-- fewer bytes are kept than the longest field has
pub few-kept : (left : ℕ) (s : List ℕ) → let p = read_rest false left 0 s in p.refusal.number ≡ 0 → length (drop p.end s) < 291
few-kept left s z =
    let p = read_rest false left 0 s in
    let e : p.end - 0 ≡ p.end = omega arith in
    rw e at (not-due (length (drop (p.end - 0) s)) ((each-ends false left 0 s).done z))

-- and a part that holds the longest field is not left alone: a notice is read of it
none_read : (ended : Bool) (left at : ℕ) (s : List ℕ) → length (read_rest ended left at s).notices ≡ 0 → (read_rest ended left at s).end ≡ at
none_read ended =
    each-told ended (λ left at s p. length p.notices ≡ 0 → p.end ≡ at)
    (λ left at s d e. refl) (λ left at s d h e. refl) (λ left at s d h p l w e. absurd (omega (arith, e)))

pub some_read : (left : ℕ) (s : List ℕ) → 291 ≤ length s →
    let p = read_rest false left 0 s in
    p.refusal.number ≡ 0 → 0 < length p.notices
some_read left s h z = go (eqb (length (read_rest false left 0 s).notices) 0) refl
  where
    go : (b : Bool) → eqb (length (read_rest false left 0 s).notices) 0 ≡ b → 0 < length (read_rest false left 0 s).notices
    go true e =
        let none = none_read false left 0 s (eqb-true (length (read_rest false left 0 s).notices) 0 e) in
        let kept : length s < 291 = rw none at (few-kept left s z) in
        absurd (omega (arith, h, kept))
    go false e = let some = eqb-false (length (read_rest false left 0 s).notices) 0 e in omega (arith, some)

-- from an offset on
module _ (by left : ℕ) (s : List ℕ) where
  pub read_from : (ended : Bool) → read_rest ended left by s ≡ moved by (read_rest ended left 0 s)
  read_from ended =
      let e : by ≡ by + 0 = omega arith in
      ap (λ (at : ℕ). read_rest ended left at s) e ∙ each-moved ended by left 0 s

  module _ (more : List ℕ) where
    abbrev P : Part
    P = read_rest false left 0 s

    pub goes_on_from : P.refusal.number ≡ 0 →
        read_rest true left by (s ++ more)
        ≡ behind_these P.notices (read_rest true (left - length P.notices) (by + P.end) (drop P.end s ++ more))
    goes_on_from z =
        let e : by + P.end - by ≡ P.end = omega arith in
        rw e at (subst (λ (x : Part). Onward more left by s x) (read_from false) (goes_on more false left by s)
        (number-moved by P.refusal ∙ z))

    pub stays_refused_from : (P.refusal.number ≡ 0 → ⊥) → read_rest true left by (s ++ more) ≡ moved by P
    stays_refused_from h = read_whole ∙ ap (moved by) (stays_refused more left 0 s h)
      where
        read_whole : read_rest true left by (s ++ more) ≡ moved by (read_rest true left 0 (s ++ more))
        read_whole =
            let e : by ≡ by + 0 = omega arith in
            ap (λ (at : ℕ). read_rest true left at (s ++ more)) e ∙ each-moved true by left 0 (s ++ more)

behind_both : (ns ms : List (List ℕ)) (p : Part) → behind_these (ns ++ ms) p ≡ behind_these ns (behind_these ms p)
behind_both ns ms p = rw (append_assoc ns ms p.notices)

-- counted onto what was counted before
module _ (voice : List ℕ) where
  pub counted-onto : (ended : Bool) (ns : List (List ℕ)) (left : ℕ) (s : List ℕ) → length ns + left ≤ MOST → Bytes s →
      let p = read_rest ended left 0 s in
      (onto_of (counts_of (replies voice ns)) (take p.end s) voice).counts ≡ counts_of (replies voice (ns ++ p.notices))
  counted-onto ended ns left s l bytes =
      let p = read_rest ended left 0 s in
      let few : length p.notices ≤ left = read_few ended left 0 s in
      let fits : length (replies voice ns ++ replies voice p.notices) ≤ LARGEST =
      omega (
        arith,
        length-append (replies voice ns) (replies voice p.notices),
        replies-length voice ns,
        replies-length voice p.notices,
        few,
        l,
      ) in
      ap (λ (q : Part). plus (counts_of (replies voice ns)) (counts_of (replies voice q.notices)))
      (part_accepted ended left s (omega arith) bytes)
      ∙ plus-append (replies voice ns) (replies voice p.notices) fits
      ∙ ap counts_of (sym (replies-append voice ns p.notices))

  -- the program's loop, from any of its turns on
  module _ (last : List ℕ) (bytes-last : Bytes last) where
    abbrev Counted : List (List ℕ) → ℕ → ℕ → List ℕ → List (List ℕ) → Type 0
    Counted ns left at kept parts =
        in_windows voice (counts_of (replies voice ns)) left at kept parts last
        ≡ week_by voice (behind_these ns (read_rest true left at (kept ++ joined parts last)))

    last_window : (ns : List (List ℕ)) (left at : ℕ) (kept : List ℕ) → length ns + left ≤ MOST → Bytes kept → Counted ns left at kept []
    unfolding in_windows
    last_window ns left at kept l bytes =
        let s = kept ++ last in
        rw (read_from at left s true, counted-onto true ns left s l (bytes-append kept last bytes bytes-last))

    module _ (ns : List (List ℕ)) (left at : ℕ) (kept part : List ℕ) (parts : List (List ℕ)) (l : length ns + left ≤ MOST)
        (bytes : Bytes (kept ++ part)) where
      abbrev S : List ℕ
      S = kept ++ part

      abbrev Q : Part
      Q = read_rest false left 0 S

      next_window : (b : Bool) → eqb Q.refusal.number 0 ≡ b →
          Counted (ns ++ Q.notices) (left - length Q.notices) (at + Q.end) (drop Q.end S) parts →
          cond b
          (in_windows voice (counts_of (replies voice (ns ++ Q.notices))) (left - length Q.notices) (at + Q.end) (drop Q.end S)
          parts last)
          (record { refusal = moved_refusal at Q.refusal; counts = counts_of (replies voice (ns ++ Q.notices)) })
          ≡ week_by voice (behind_these ns (read_rest true left at (kept ++ (part ++ joined parts last))))
      next_window true e later =
          let on = goes_on_from at left S (joined parts last) (eqb-true Q.refusal.number 0 e) in
          let rest = read_rest true (left - length Q.notices) (at + Q.end) (drop Q.end S ++ joined parts last) in
          later ∙ ap (week_by voice) (behind_both ns Q.notices rest ∙ ap (behind_these ns) (sym on))
          ∙ ap (λ (s : List ℕ). week_by voice (behind_these ns (read_rest true left at s))) (append_assoc kept part (joined parts last))
      next_window false e later =
          rw (
            ← append_assoc kept part (joined parts last),
            stays_refused_from at left S (joined parts last) (eqb-false Q.refusal.number 0 e),
          )

    pub windows_from : (parts : List (List ℕ)) (ns : List (List ℕ)) (left at : ℕ) (kept : List ℕ) → length ns + left ≤ MOST → Bytes kept →
        AllBytes parts →
        Counted ns left at kept parts
    unfolding in_windows
    windows_from [] ns left at kept l bytes all = last_window ns left at kept l bytes
    windows_from (part ∷ parts) ns left at kept l bytes all =
        let s = kept ++ part in
        let p = read_rest false left 0 s in
        let b : Bytes s = bytes-append kept part bytes all.0 in
        rw (counted-onto false ns left s l b)
        (next_window ns left at kept part parts l b (eqb p.refusal.number 0) refl
        (windows_from parts (ns ++ p.notices) (left - length p.notices) (at + p.end) (drop p.end s)
        (omega (arith, length-append ns p.notices, read_few false left 0 s, l)) (bytes_drop s b p.end) all.1))

    -- .. and so from the first on
    pub in_windows_lem : (parts : List (List ℕ)) → AllBytes parts →
        in_windows voice (counts_of []) MOST 0 [] parts last ≡ week_of (joined parts last) voice
    in_windows_lem parts all = windows_from parts [] MOST 0 [] (omega arith) tt all
