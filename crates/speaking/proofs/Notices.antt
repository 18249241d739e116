-- Reading a notice inverts writing it; a notice is accepted exactly when it is the writing of a lawful list, the only one.
use Prim.Native.Nat.{ℕ, zero, suc, ◌+◌, ◌≤◌}
use mathlib.Core.Path.{◌≡◌, refl, sym, ap, ap₂, subst, ◌∙◌}
use mathlib.Core.Bool.{Bool, true, false, cond}
use mathlib.Core.List.{List, [], ◌∷◌, ◌++◌}
use native.Mathlib.Omega.{arith}
use lib.Dec.{eqb}
use lib.ListN.{length, get_or, drop}
use borrow.Author.Tests.{le-ltb, ne_eqb, eqb-true, eqb-false}
use Rattle.refusals.specs.Meaning.{Numbers, none, after}
use Rattle.fields.specs.Meaning.{two, two_bytes, four_bytes, Bytes}
use Rattle.fields.proofs.Numbers.{two_write_read, four_write_read, two-small, four-small, two_read_write, four_read_write, byte_at}
use Rattle.fields.proofs.Numbers.{bytes_drop, bytes-append, two_bytes_lem, four_bytes_lem}
use Rattle.notices.specs.Meaning.{Fact, first_fact, fault, Reading, facts, refused, followed, read_rest, read_facts, noticed, notice_of}
use Rattle.notices.specs.Meaning.{facts_in, field_of, bytes_of, Fits, Rises, Lawful}
use Rattle.notices.proofs.Faults.{Sound, fault-none}
use Rattle.notices.proofs.Found.{Found, read_rest-found}

-- Writing, then reading.
field_passes : (left at least : ℕ) (f : Fact) (rest : List ℕ) → least ≤ f.number → fault (suc left) at least (field_of f ++ rest) ≡ none
unfolding fault
field_passes left at least f rest h =
    rw (
      le-ltb (length (field_of f ++ rest)) 3 (omega arith),
      ne_eqb (suc left) 0 (λ e. omega (arith, e)),
      le-ltb (length (field_of f ++ rest)) 9 (omega arith),
      two_write_read f.number,
      le-ltb f.number least h,
    )

field_read : (left at least : ℕ) (f : Fact) (rest : List ℕ) → least ≤ f.number →
    read_rest (suc left) at least (field_of f ++ rest) ≡ followed f (read_rest left (at + 9) (f.number + 1) rest)
unfolding read_rest
field_read left at least f rest h =
    rw (
      ne_eqb (length (field_of f ++ rest)) 0 (λ e. omega (arith, e)),
      field_passes left at least f rest h,
      two_write_read f.number,
      four_write_read f.value,
    )

none_read : (left at least : ℕ) → read_rest left at least [] ≡ facts []
unfolding read_rest
none_read zero at least = refl
none_read (suc left) at least = refl

pub write_read : (fs : List Fact) (left at least : ℕ) → length fs ≤ left → Rises least fs → read_rest left at least (bytes_of fs) ≡ facts fs
write_read [] left at least h r = none_read left at least
write_read (f ∷ fs) zero at least h r = absurd (omega arith)
write_read (f ∷ fs) (suc left) at least h r =
    field_read left at least f (bytes_of fs) r.0 ∙ ap (followed f) (write_read fs left (at + 9) (f.number + 1) (omega arith) r.1)

-- Reading, then writing.
nine : (s : List ℕ) → 9 ≤ length s →
    get_or s 0 0 ∷ get_or s 1 0 ∷ get_or s 2 0 ∷ get_or s 3 0 ∷ get_or s 4 0 ∷ get_or s 5 0 ∷ get_or s 6 0 ∷ get_or s 7 0 ∷ get_or s 8 0 ∷ drop 9 s ≡ s
nine [] h = absurd (omega arith)
nine (a ∷ []) h = absurd (omega arith)
nine (a ∷ b ∷ []) h = absurd (omega arith)
nine (a ∷ b ∷ c ∷ []) h = absurd (omega arith)
nine (a ∷ b ∷ c ∷ d ∷ []) h = absurd (omega arith)
nine (a ∷ b ∷ c ∷ d ∷ e ∷ []) h = absurd (omega arith)
nine (a ∷ b ∷ c ∷ d ∷ e ∷ f ∷ []) h = absurd (omega arith)
nine (a ∷ b ∷ c ∷ d ∷ e ∷ f ∷ g ∷ []) h = absurd (omega arith)
nine (a ∷ b ∷ c ∷ d ∷ e ∷ f ∷ g ∷ k ∷ []) h = absurd (omega arith)
nine (a ∷ b ∷ c ∷ d ∷ e ∷ f ∷ g ∷ k ∷ l ∷ s) h = refl

-- the bytes of a field, from its parts
parts : (f : Fact) (a b c d e : ℕ) (xs rest : List ℕ) → a ≡ 16 → two b c ≡ 6 → two_bytes f.number ≡ d ∷ e ∷ [] →
    four_bytes f.value ≡ xs →
    field_of f ++ rest ≡ a ∷ b ∷ c ∷ d ∷ e ∷ xs ++ rest
parts f a b c d e xs rest tag size number value =
    let h : b ≡ 0 = omega arith in
    let l : c ≡ 6 = omega arith in
    ap₂ (λ ys zs. 16 ∷ 0 ∷ 6 ∷ (ys ++ zs) ++ rest) number value ∙ rw (tag, h, l)

module _ {left least : ℕ} (s : List ℕ) (h : Sound left least s) (bytes : Bytes s) where
  field_write : field_of (first_fact s) ++ drop 9 s ≡ s
  field_write =
      parts (first_fact s) (get_or s 0 0) (get_or s 1 0) (get_or s 2 0) (get_or s 3 0) (get_or s 4 0)
      (get_or s 5 0 ∷ get_or s 6 0 ∷ get_or s 7 0 ∷ get_or s 8 0 ∷ []) (drop 9 s)
      h.tagged h.sized
      (two_read_write (byte_at s bytes 3) (byte_at s bytes 4))
      (four_read_write (byte_at s bytes 5) (byte_at s bytes 6) (byte_at s bytes 7) (byte_at s bytes 8))
      ∙ nine s h.whole

abbrev pub Written : ℕ → ℕ → List ℕ → Reading → Type 0
Written left least s (facts fs) = (bytes_of fs ≡ s) × (length fs ≤ left) × Rises least fs × Fits fs
Written left least s (refused x) = Unit

written_none : (left least : ℕ) (s : List ℕ) (e : Bool) → eqb (length s) 0 ≡ e → (r : Reading) → ((length s ≡ 0 → ⊥) →
    Written left least s r) →
    Written left least s (cond e (facts []) r)
written_none left least [] true e r h = (refl, omega arith, tt, tt)
written_none left least (b ∷ s) true e r h = absurd (never (eqb-true (length (b ∷ s)) 0 e))
  where
    never : length (b ∷ s) ≡ 0 → ⊥
    never q = omega (arith, q)
written_none left least s false e r h = h (eqb-false (length s) 0 e)

written-more : (left least : ℕ) (s : List ℕ) → Sound (suc left) least s → Bytes s → (r : Reading) →
    Written left ((first_fact s).number + 1) (drop 9 s) r →
    Written (suc left) least s (followed (first_fact s) r)
written-more left least s h bytes (facts fs) w = (
  ap (λ l. field_of (first_fact s) ++ l) w.0 ∙ field_write s h bytes,
  omega (arith, w.1),
  (h.rises, w.2),
  (
    two-small (byte_at s bytes 3) (byte_at s bytes 4),
    four-small (byte_at s bytes 5) (byte_at s bytes 6) (byte_at s bytes 7) (byte_at s bytes 8),
    w.3,
  ),
)
written-more left least s h bytes (refused x) w = tt

written_after : (left least : ℕ) (s : List ℕ) (x : Numbers) (r : Reading) → (x.number ≡ 0 → Written left least s r) →
    Written left least s (after x refused r)
written_after left least s x r h = go (eqb x.number 0) refl
  where
    go : (b : Bool) → eqb x.number 0 ≡ b → Written left least s (cond b r (refused x))
    go true e = h (eqb-true x.number 0 e)
    go false e = tt

pub read_write : (left at least : ℕ) (s : List ℕ) → Bytes s → Written left least s (read_rest left at least s)
unfolding read_rest
read_write zero at least s bytes = written_none zero least s (eqb (length s) 0) refl (refused (fault zero at least s)) (λ h. tt)
read_write (suc left) at least s bytes =
    let rest = read_rest left (at + 9) ((first_fact s).number + 1) (drop 9 s) in
    written_none (suc left) least s (eqb (length s) 0) refl (after (fault (suc left) at least s) refused (followed (first_fact s) rest))
    (λ h. written_after (suc left) least s (fault (suc left) at least s) (followed (first_fact s) rest)
    (λ z. written-more left least s (fault-none (suc left) at least s z) bytes rest
    (read_write left (at + 9) ((first_fact s).number + 1) (drop 9 s) (bytes_drop s bytes 9))))

-- What is written is bytes.
pub bytes_of-bytes : (fs : List Fact) → Fits fs → Bytes (bytes_of fs)
bytes_of-bytes [] h = tt
bytes_of-bytes (f ∷ fs) h =
    bytes-append (field_of f) (bytes_of fs) (
      omega arith,
      (
        omega arith,
        (
          omega arith,
          bytes-append (two_bytes f.number) (four_bytes f.value)
              (two_bytes_lem f.number h.0) (four_bytes_lem f.value h.1),
        ),
      ),
    )
    (bytes_of-bytes fs h.2)

-- Accepted exactly.
pub read_lawful : (fs : List Fact) → Lawful fs → read_facts (bytes_of fs) ≡ facts fs
read_lawful fs h = write_read fs 32 0 0 h.few h.rises

pub accepted_lawful : (fs : List Fact) → Lawful fs → notice_of (bytes_of fs) ≡ record { refusal = none; facts = length fs }
accepted_lawful fs h = ap noticed (read_lawful fs h)

pub lawful_only : (fs gs : List Fact) → Lawful fs → Lawful gs → bytes_of fs ≡ bytes_of gs → fs ≡ gs
lawful_only fs gs h i e =
    let q : facts fs ≡ facts gs = sym (read_lawful fs h) ∙ ap read_facts e ∙ read_lawful gs i in
    cc

written_lawful : (s : List ℕ) (x : Reading) → Written 32 0 s x → Found 32 s x → (noticed x).refusal.number ≡ 0 →
    (fs : List Fact) × (Lawful fs × (bytes_of fs ≡ s))
written_lawful s (facts fs) w f z = (fs, (record { few = w.1; rises = w.2; fits = w.3 }, w.0))
written_lawful s (refused r) w f z = absurd (f z)

pub lawful_accepted : (s : List ℕ) → Bytes s → (notice_of s).refusal.number ≡ 0 → (fs : List Fact) × (Lawful fs × (bytes_of fs ≡ s))
lawful_accepted s bytes = written_lawful s (read_facts s) (read_write 32 0 0 s bytes) (read_rest-found 32 0 0 s)

pub found_lawful : (fs : List Fact) → Lawful fs → facts_in 32 (bytes_of fs) ≡ fs
found_lawful fs h = subst (λ (x : Reading). Found 32 (bytes_of fs) x) (read_lawful fs h) (read_rest-found 32 0 0 (bytes_of fs))
