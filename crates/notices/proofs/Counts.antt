-- Facts are counted until a field is refused or the notice ends, and what is wrong there is what is wrong with the notice.
use Prim.Native.Nat.{ℕ, zero, suc, ◌+◌, ◌-◌, ◌*◌, ◌≤◌, ◌<◌}
use mathlib.Core.Path.{◌≡◌, refl, sym, ap, ◌∙◌, subst}
use mathlib.Core.Bool.{Bool, true, false, cond}
use mathlib.Core.List.{List, []}
use native.Mathlib.Omega.{arith}
use lib.ListN.{length, get_or, take, drop, length-drop}
use lib.Seq.{get_or-drop, drop-drop}
use borrow.Author.Tests.{lt-ltb, le-ltb, eq-eqb, ne_eqb}
use Rattle.std.specs.Prelude.{Result, Err}
use Rattle.refusals.specs.Meaning.{Numbers, none, numbers}
use Rattle.refusals.specs.declared.Refusal.{Refusal}
use Rattle.fields.specs.Meaning.{two, two_at}
use Rattle.fields.proofs.Rests.{rest-is}
use Rattle.notices.specs.Meaning.{Fact, Reading, facts, refused, followed, first_fact, fault, read_rest, noticed, notice_of, facts_read}
use Rattle.notices.specs.Inside.{sound, sounds, least_at}
use Rattle.notices.proofs.Faults.{Sound, fault-none}
use Rattle.notices.proofs.Found.{Found, read_rest-found}
use Rattle.notices.proofs.SoundFields.{no_fault, sound-is, unsound}

-- One field after another.
module _ (before least : ℕ) (s : List ℕ) {b : Bool} (e : b ≡ sound (32 - before) least s) where
  pub count_stops : b ≡ false → before ≡ before + sounds (32 - before) least s
  unfolding sounds
  count_stops h = go (32 - before) (sym e ∙ h)
    where
      go : (left : ℕ) → sound left least s ≡ false → before ≡ before + sounds left least s
      go zero q = omega arith
      go (suc left) q = rw q (omega arith)

  module _ (h : b ≡ true) where
    pub field-sound : Sound (32 - before) least s
    field-sound = sound-is (32 - before) least s (sym h ∙ e)

    pub count_passes : {last r : ℕ} → last ≡ two (get_or s 3 0) (get_or s 4 0) →
        r ≡ before + 1 + sounds (32 - (before + 1)) (last + 1) (take (length s - 9) (drop 9 s)) →
        r ≡ before + sounds (32 - before) least s
    unfolding sounds
    count_passes {last} l w =
        let room = field-sound.room in
        let k : 32 - before ≡ suc (32 - (before + 1)) = omega arith in
        let q : sound (suc (32 - (before + 1))) least s ≡ true = rw (← k) (sym e ∙ h) in
        w ∙ (rw (rest-is 9 s, l, k, q) (omega arith))

-- What `count_facts` gives.
pub ruleset count_laws = (count_stops, field-sound, count_passes)

-- What reading gives where the counting ends.
abbrev pub Ended : ℕ → Reading → Type 0
Ended count (facts fs) = length fs ≡ count
Ended count (refused r) = ⊥

ended_more : (f : Fact) (count : ℕ) (r : Reading) → Ended count r → Ended (suc count) (followed f r)
ended_more f count (facts fs) h = ap suc h
ended_more f count (refused r) h = h

-- what the least number is after so many fields of a rest
unfoldable least_from : ℕ → List ℕ → ℕ → ℕ
least_from least s zero = least
least_from least s (suc i) = two_at s (9 * i + 3) + 1

same-fault : {left left' at at' least least' : ℕ} {s s' : List ℕ} → left ≡ left' → at ≡ at' → least ≡ least' → s ≡ s' →
    fault left at least s ≡ fault left' at' least' s'
same-fault e f g h = rw (e, f, g, h)

-- the fault of the field behind so many fields of a rest
abbrev fault_from : ℕ → ℕ → ℕ → List ℕ → ℕ → Numbers
fault_from left at least s count = fault (left - count) (at + 9 * count) (least_from least s count) (drop (9 * count) s)

no_field : (left at least : ℕ) (s : List ℕ) → length s ≡ 0 → read_rest left at least s ≡ facts []
unfolding read_rest
no_field zero at least s h = rw (eq-eqb (length s) 0 h)
no_field (suc left) at least s h = rw (eq-eqb (length s) 0 h)

bad_field : (left at least : ℕ) (s : List ℕ) → 0 < length s → (Sound left least s → ⊥) → read_rest left at least s ≡ refused (fault left at least s)
unfolding read_rest
bad_field zero at least s h q = rw (ne_eqb (length s) 0 (λ e. omega (arith, e)))
bad_field (suc left) at least s h q =
    rw (
      ne_eqb (length s) 0 (λ e. omega (arith, e)),
      ne_eqb (fault (suc left) at least s).number 0 (λ e. q (fault-none (suc left) at least s e)),
    )

good_field : (left at least : ℕ) (s : List ℕ) → Sound (suc left) least s →
    read_rest (suc left) at least s ≡ followed (first_fact s) (read_rest left (at + 9) ((first_fact s).number + 1) (drop 9 s))
unfolding read_rest
good_field left at least s x =
    rw (ne_eqb (length s) 0 (λ e. omega (arith, e, x.whole)), no_fault (suc left) at least s x)

-- what reading gives where the counting ends
record Led (left at least : ℕ) (s : List ℕ) (count : ℕ) : Type 0 where
  ended : length s ≤ 9 * count → Ended count (read_rest left at least s)
  stopped : 9 * count < length s → read_rest left at least s ≡ refused (fault_from left at least s count)

led_none : (left at least : ℕ) (s : List ℕ) → (Sound left least s → ⊥) → Led left at least s 0
unfolding least_from
led_none left at least s q =
    record {
      ended = λ h. rw (no_field left at least s (omega arith)) refl;
      stopped = λ h. bad_field left at least s h q ∙ ap refused (same-fault (omega arith) (omega arith) refl refl);
    }

refused-more : (f : Fact) {r : Reading} {x y : Numbers} → r ≡ refused x → x ≡ y → followed f r ≡ refused y
refused-more f e h = rw (e, h)

two-behind : (s : List ℕ) (at : ℕ) → two_at (drop 9 s) at ≡ two_at s (9 + at)
two-behind s at = rw (get_or-drop 9 s at 0, get_or-drop 9 s (at + 1) 0) (ap (λ (k : ℕ). two (get_or s (9 + at) 0) (get_or s k 0)) (omega arith))

least-behind : (least : ℕ) (s : List ℕ) (count : ℕ) → least_from (two_at s 3 + 1) (drop 9 s) count ≡ least_from least s (suc count)
unfolding least_from
least-behind least s zero = refl
least-behind least s (suc i) = ap (λ (k : ℕ). k + 1) (two-behind s (9 * i + 3) ∙ ap (two_at s) (omega arith))

fault-behind : (left at least : ℕ) (s : List ℕ) (count : ℕ) →
    fault_from left (at + 9) (two_at s 3 + 1) (drop 9 s) count ≡ fault_from (suc left) at least s (suc count)
fault-behind left at least s count =
    let e : 9 + 9 * count ≡ 9 * suc count = omega arith in
    same-fault (omega arith) (omega arith) (least-behind least s count) (drop-drop (9 * count) 9 s ∙ rw e)

led_more : (left at least : ℕ) (s : List ℕ) (count : ℕ) → Sound (suc left) least s →
    Led left (at + 9) ((first_fact s).number + 1) (drop 9 s) count → Led (suc left) at least s (suc count)
led_more left at least s count x l =
    record {
      ended = λ h. rw (good_field left at least s x)
          (ended_more (first_fact s) count (read_rest left (at + 9) ((first_fact s).number + 1) (drop 9 s))
          (l.ended (simp length-drop (omega arith))));
      stopped = λ h. good_field left at least s x ∙
          refused-more (first_fact s) (l.stopped (simp length-drop (omega (arith, x.whole)))) (fault-behind left at least s count);
    }

led : (left at least : ℕ) (s : List ℕ) → Led left at least s (sounds left least s)
unfolding sounds
led zero at least s = led_none zero at least s (λ x. omega (arith, x.room))
led (suc left) at least s = choose (sound (suc left) least s) refl (led left (at + 9) ((first_fact s).number + 1) (drop 9 s))
  where
    choose : {count : ℕ} (b : Bool) → sound (suc left) least s ≡ b → Led left (at + 9) ((first_fact s).number + 1) (drop 9 s) count →
        Led (suc left) at least s (cond b (suc count) 0)
    choose {count} true q l = led_more left at least s count (sound-is (suc left) least s (sym q)) l
    choose false q l = led_none (suc left) at least s (unsound (suc left) least s q)

ended_noticed : (count : ℕ) (r : Reading) → Ended count r → record { refusal = none; facts = count } ≡ noticed r
ended_noticed count (facts fs) h = rw h
ended_noticed count (refused r) h = absurd h

least-is : (s : List ℕ) (count : ℕ) → least_at s (count * 9) ≡ least_from 0 s count
unfolding least_at least_from
least-is s zero = refl
least-is s (suc i) =
    let e : suc i * 9 - 6 ≡ 9 * i + 3 = omega arith in
    rw (le-ltb (suc i * 9) 9 (omega arith), e)

-- The least number at an offset, by its test.
pub least_first : (s : List ℕ) (at : ℕ) → at < 9 → 0 ≡ least_at s at
unfolding least_at
least_first s at h = rw (lt-ltb at 9 h)

pub least-next : (s : List ℕ) (at : ℕ) {last : ℕ} → 9 ≤ at → last ≡ two (get_or s (at - 6) 0) (get_or s (at - 5) 0) → last + 1 ≡ least_at s at
unfolding least_at
least-next s at h e =
    let k : at - 6 + 1 ≡ at - 5 = omega arith in
    rw (le-ltb at 9 h, k, e)

-- What `least_at` returns.
pub ruleset least_laws = (least_first, least-next)

few : (left least : ℕ) (s : List ℕ) → sounds left least s ≤ left
unfolding sounds
few zero least s = omega arith
few (suc left) least s = choose (sound (suc left) least s) (few left ((first_fact s).number + 1) (drop 9 s))
  where
    choose : {count : ℕ} (b : Bool) → count ≤ left → cond b (suc count) 0 ≤ suc left
    choose true h = omega arith
    choose false h = omega arith

-- The whole notice.
module _ (s : List ℕ) {count : ℕ} (e : count ≡ 0 + sounds 32 0 s) where
  pub notice-few : count ≤ 32
  notice-few = omega (arith, e, few 32 0 s)

  whole : Led 32 0 0 s count
  whole = let f : sounds 32 0 s ≡ count = omega (arith, e) in rw f at (led 32 0 0 s)

  pub notice-ends : length s ≤ count * 9 → record { refusal = none; facts = count } ≡ notice_of s
  notice-ends h = ended_noticed count (read_rest 32 0 0 s) (whole.ended (omega arith))

  -- the field where the counting stops
  module _ {least : ℕ} (h : count * 9 < length s) (l : least ≡ least_at s (count * 9)) {r : Numbers}
      (w : r ≡ fault (32 - count) (count * 9) least (take (length s - count * 9) (drop (count * 9) s))) where
    stops : read_rest 32 0 0 s ≡ refused r
    stops =
        let f : count * 9 ≡ 9 * count = omega arith in
        whole.stopped (omega arith) ∙ ap refused (sym (w ∙ same-fault refl (omega arith) (l ∙ least-is s count) (rest-is (count * 9) s ∙ rw f)))

    -- it is refused
    stops_refused : r ≡ none → ⊥
    stops_refused n =
        let P : Reading → Type 0 = Found 32 s in
        let f : Found 32 s (refused r) = subst P stops (read_rest-found 32 0 0 s) in
        f (ap (λ (r : Numbers). r.number) n)

  module _ {least : ℕ} (h : count * 9 < length s) (l : least ≡ least_at s (count * 9)) where
    pub notice_stops : (q : Result ℕ Refusal) (x : Refusal) →
        numbers x ≡ fault (32 - count) (count * 9) least (take (length s - count * 9) (drop (count * 9) s)) → q ≡ Err x →
        facts_read q ≡ notice_of s
    notice_stops q x w i = rw i (sym (ap noticed (stops h l w)))

    pub notice-refused : none ≡ fault (32 - count) (count * 9) least (take (length s - count * 9) (drop (count * 9) s)) →
        record { refusal = none; facts = count } ≡ notice_of s
    notice-refused w = absurd (stops_refused h l w refl)

-- What `read_notice` gives.
pub ruleset notice_laws = (notice-few, notice-ends, notice_stops, notice-refused)
