-- The field at the front of some bytes: what it is where it has no fault, written and read, and with more bytes behind it.
use Prim.Native.Nat.{ℕ, suc, ◌+◌, ◌≤◌, ◌<◌}
use mathlib.Core.Path.{◌≡◌, refl, sym, ap, ap₂, ◌∙◌}
use mathlib.Core.Bool.{Bool, true, false, cond}
use mathlib.Core.List.{List, [], ◌∷◌, ◌++◌}
use native.Mathlib.Omega.{arith}
use lib.Dec.{ltb}
use lib.ListN.{length, take, drop, length-append, length-drop, take-append-drop}
use lib.Seq.{length-take-le, take-append-le, drop-append-le, take-append_seam, drop_at, drop-drop}
use borrow.Author.Tests.{le-ltb, ltb-false, eq-eqb, ne_eqb}
use Rattle.refusals.specs.Meaning.{Numbers, none, refused, SHORT, TAG, LEN, WEEK}
use Rattle.fields.specs.Meaning.{Bytes, two, two_bytes, field, tag, size}
use Rattle.fields.proofs.Numbers.{two_read_write, two_write_read}
use Rattle.batches.specs.Meaning.{fault, followed, first_notice, field_size, behind, due, read_rest}
use Rattle.batches.proofs.Faults.{Sound}

-- the five tests, as what they gave
abbrev pub judged : ℕ → Bool → Bool → Bool → Bool → Bool → Numbers
judged at a b c d e =
    cond a (refused SHORT at)
    (cond b (cond c (refused WEEK at) (cond d (refused LEN at) (cond e (refused SHORT at) none))) (refused TAG at))

pub sound-fault : (left at : ℕ) (s : List ℕ) → Sound left s → fault left at s ≡ none
unfolding fault
sound-fault left at s h =
    let w : 3 + size s ≤ length s = h.whole in
    let l : 0 < left = h.room in
    rw (
      le-ltb (length s) 3 (omega arith),
      eq-eqb (tag s) 17 h.tagged,
      ne_eqb left 0 (λ e. omega (arith, e, l)),
      le-ltb 288 (size s) h.short,
      le-ltb (length s) (3 + size s) w,
    )

-- a field without a fault is read
pub rest_reads : (ended : Bool) (left at : ℕ) (s : List ℕ) → due ended (length s) ≡ true → Sound (suc left) s →
    read_rest ended (suc left) at s ≡ followed (first_notice s) (read_rest ended left (at + field_size s) (behind s))
unfolding read_rest
rest_reads ended left at s d h = rw (d, sound-fault (suc left) at s h)

-- more bytes behind it: the header is the same
tag-more : (s more : List ℕ) → 3 ≤ length s → tag (s ++ more) ≡ tag s
tag-more [] more h = absurd (omega arith)
tag-more (a ∷ s) more h = refl

pub size-more : (s more : List ℕ) → 3 ≤ length s → size (s ++ more) ≡ size s
size-more [] more h = absurd (omega arith)
size-more (a ∷ []) more h = absurd (omega arith)
size-more (a ∷ b ∷ []) more h = absurd (omega arith)
size-more (a ∷ b ∷ c ∷ s) more h = refl

-- .. and so is the fault, where the longest field would be whole
value-more : (n k l : ℕ) (x y z : Numbers) → 291 ≤ k → 291 ≤ l →
    cond (ltb 288 n) x (cond (ltb k (3 + n)) y z) ≡ cond (ltb 288 n) x (cond (ltb l (3 + n)) y z)
value-more n k l x y z i j = go (ltb 288 n) refl
  where
    go : (b : Bool) → ltb 288 n ≡ b → cond b x (cond (ltb k (3 + n)) y z) ≡ cond b x (cond (ltb l (3 + n)) y z)
    go true e = refl
    go false e =
        let m : n ≤ 288 = ltb-false 288 n e in
        rw (le-ltb k (3 + n) (omega arith), le-ltb l (3 + n) (omega arith))

pub fault-more : (left at : ℕ) (s more : List ℕ) → 291 ≤ length s → fault left at (s ++ more) ≡ fault left at s
unfolding fault
fault-more left at s more h =
    let three : 3 ≤ length s = omega arith in
    let longer : 291 ≤ length (s ++ more) = rw (length-append s more) (omega arith) in
    rw (
      le-ltb (length (s ++ more)) 3 (omega arith),
      le-ltb (length s) 3 three,
      tag-more s more three,
      size-more s more three,
      value-more (size s) (length (s ++ more)) (length s) (refused LEN at) (refused SHORT at) none longer h,
    )

module _ {left : ℕ} (s more : List ℕ) (h : Sound left s) where
  three : 3 ≤ length s
  three = let w : 3 + size s ≤ length s = h.whole in omega arith

  pub sound_more : Sound left (s ++ more)
  sound_more =
      record {
        room = h.room;
        tagged = tag-more s more three ∙ h.tagged;
        short = rw (size-more s more three) h.short;
        whole = rw (size-more s more three, length-append s more) (let w : 3 + size s ≤ length s = h.whole in omega arith);
      }

  pub notice-more : first_notice (s ++ more) ≡ first_notice s
  notice-more =
      let w : 3 + size s ≤ length s = h.whole in
      rw (size-more s more three, drop-append-le 3 s more three)
      (take-append-le (size s) (drop 3 s) more (rw (length-drop 3 s) (omega arith)))

  pub behind_more : behind (s ++ more) ≡ behind s ++ more
  behind_more = rw (size-more s more three) (drop-append-le (3 + size s) s more h.whole)

-- A field that is written is read.
module _ (left : ℕ) (n rest : List ℕ) (h : length n ≤ 288) where
  pub size-written : size (field 17 n ++ rest) ≡ length n
  size-written = two_write_read (length n)

  pub sound-written : Sound (suc left) (field 17 n ++ rest)
  sound-written =
      record {
        room = omega arith;
        tagged = refl;
        short = rw size-written h;
        whole = rw size-written (rw (length-append n rest) (omega arith));
      }

  pub notice-written : first_notice (field 17 n ++ rest) ≡ n
  notice-written = rw size-written (take-append_seam n rest)

  pub behind-written : behind (field 17 n ++ rest) ≡ rest
  behind-written = rw size-written (drop_at (field 17 n) rest (3 + length n) (omega arith))

-- A field that is read was written.
pub notice-length : (s : List ℕ) → field_size s ≤ length s → length (first_notice s) ≡ size s
notice-length s h = length-take-le (size s) (drop 3 s) (rw (length-drop 3 s) (omega arith))

field_parts : (a b c k : ℕ) (xs : List ℕ) → a ≡ 17 → two_bytes k ≡ b ∷ c ∷ [] → 17 ∷ two_bytes k ++ xs ≡ a ∷ b ∷ c ∷ xs
field_parts a b c k xs e f = ap₂ (λ (t : ℕ) (ys : List ℕ). t ∷ ys ++ xs) (sym e) f

pub field_write : {left : ℕ} (s : List ℕ) → Sound left s → Bytes s → field 17 (first_notice s) ++ behind s ≡ s
field_write [] h bytes = absurd (let w = h.whole in omega arith)
field_write (a ∷ []) h bytes = absurd (let w = h.whole in omega arith)
field_write (a ∷ b ∷ []) h bytes = absurd (let w = h.whole in omega arith)
field_write (a ∷ b ∷ c ∷ s) h bytes =
    let k = two b c in
    let all = a ∷ b ∷ c ∷ s in
    ap (λ (l : List ℕ). field 17 (take k s) ++ l) (sym (drop-drop k 3 all))
    ∙ field_parts a b c (length (take k s)) (take k s ++ drop k s) h.tagged
    (ap (λ (m : ℕ). two_bytes m) (notice-length all h.whole) ∙ two_read_write bytes.1.0 bytes.1.1.0)
    ∙ ap (λ (l : List ℕ). a ∷ b ∷ c ∷ l) (take-append-drop k s)
