-- Pass after pass: the words of one after those of another are the answers at all situations. The ways out of `fill`.
use Prim.Native.Nat.{ℕ, ◌+◌, ◌-◌, ◌*◌, ◌^◌, ◌≤◌, ◌<◌, min}
use mathlib.Core.Path.{◌≡◌, refl, ap, sym, ◌∙◌}
use mathlib.Core.Logic.{◌⊎◌, ⊎_elim}
use mathlib.Core.List.{List}
use lib.ListN.{length, take, drop, length-drop, replicate, length-replicate}
use borrow.Author.Tests.{le-ltb}
use native.Mathlib.Omega.{arith}
use borrow.Rule.Slice.PartMut.{put_mid}
use Rattle.std.proofs.lemmas.List.{length-take-le}
use Rattle.words.proofs.Bits.{bit-none}
use Rattle.std.specs.Prelude.{Result, Err}
use Rattle.refusals.specs.Meaning.{none, refused, numbers, refusal_at, SITUATION}
use Rattle.refusals.specs.declared.Kind.TheVariants.{Situation}
use Rattle.refusals.specs.declared.Refusal.{Refusal}
use Rattle.refusals.proofs.Checks.{kind_refuses}
use Rattle.situations.specs.Meaning.{fault}
use Rattle.situations.proofs.Silent.{silent_sound, silent_short, silent_long}
use Rattle.nodes.specs.Meaning.{full, heights, evaluate_of}
use Rattle.running.proofs.Heights.{evaluate-heights}
use Rattle.planes.specs.declared.Extent.{Extent}
use Rattle.planes.specs.declared.Planes.{Planes}
use Rattle.planes.specs.Meaning.{refuse_filled, filled, planes_of}
use Rattle.planes.specs.Inside.{Ran, Within, Stored, FilledTo, Filling, total}
use Rattle.planes.proofs.Filling.{below_or_not, stored_at, filled_none, filled_more}
use Rattle.planes.proofs.Words.{bury-same, keep_same}

-- what is refused is refused as at the situation that is silent everywhere
module _ (nodes : List ℕ) (n : ℕ) where
  silent_heights : 1 ≤ n → n ≤ 6 → (evaluate_of nodes (replicate n 0)).refusal ≡ heights full n 0 0 nodes
  silent_heights some most = evaluate-heights nodes (replicate n 0) ∙ (rw (silent_sound n some most, length-replicate {A = ℕ} n 0))

  outside-heights : fault (replicate n 0) ≡ refused SITUATION n → (evaluate_of nodes (replicate n 0)).refusal ≡ refused SITUATION n
  outside-heights e = evaluate-heights nodes (replicate n 0) ∙ (rw e)

  -- the array is refused in its first pass, or it has not 1 to 6 columns
  refused-filled : (x : Refusal) → numbers x ≡ (evaluate_of nodes (replicate n 0)).refusal → refuse_filled (numbers x) ≡ planes_of nodes n
  unfolding planes_of
  refused-filled x e = rw (← e, kind_refuses x.kind)

  pub filling_refused :
      {stack : List ℕ} {first : ℕ} (r : Result Planes Refusal) (x : Refusal) →
      1 ≤ n →
      n ≤ 6 →
      Ran nodes n first stack (numbers x) →
      r ≡ Err x →
      filled r ≡ planes_of nodes n
  filling_refused r x some most q j = rw j (refused-filled x (q.told ∙ sym (silent_heights some most)))

  pub outside-filled :
      (x : Refusal) → (n < 1) ⊎ ((1 ≤ n) × (6 < n)) → x ≡ refusal_at Situation n → refuse_filled (numbers x) ≡ planes_of nodes n
  outside-filled x l e =
      refused-filled x (ap numbers e ∙ sym (outside-heights (⊎_elim (λ h. silent_short n h) (λ h. silent_long n h.1) l)))

-- pass after pass
pub filling_none : (nodes : List ℕ) (n : ℕ) {e : Extent} → Within n e → Filling nodes n e 0 (replicate 64 0) (replicate 64 0)
filling_none nodes n {e = e} w =
    let z : min (0 * 16) (total e) ≡ 0 = omega arith in
    record { within = w; counted = omega arith; filled = rw z (filled_none nodes n); fine = λ l. absurd (omega (arith, l)) }

module _ (nodes : List ℕ) (n passes : ℕ) {e : Extent} {bury keep : List ℕ} (f : Filling nodes n e passes bury keep) where
  -- the words of a pass, and those behind it
  filling_fits : passes < e.passes → (passes * 16 + e.count ≤ total e) × (min ((passes + 1) * 16) (total e) ≡ passes * 16 + e.count)
  filling_fits l =
      let most = f.within.most in
      ⊎_elim
      (λ h. let c : e.count ≡ 16 = f.within.whole h in (omega (arith, l), omega (arith, l)))
      (λ h. (omega (arith, h, l), omega (arith, h, l, most)))
      (below_or_not 1 e.passes)

  pub filling_more :
      {stack b k : List ℕ} →
      length stack ≡ 512 →
      passes < e.passes →
      Ran nodes n (passes * 16) stack none →
      Stored (take e.count stack) e.lanes (length (take e.count stack)) (take (passes * 16 + e.count - passes * 16) (drop (passes * 16) bury)) b →
      Stored (take (16 + e.count - 16) (drop 16 stack)) e.lanes (length (take (16 + e.count - 16) (drop 16 stack)))
      (take (passes * 16 + e.count - passes * 16) (drop (passes * 16) keep))
      k →
      Filling nodes n e (passes + 1)
      (put_mid (passes * 16) (passes * 16 + e.count - passes * 16) bury b)
      (put_mid (passes * 16) (passes * 16 + e.count - passes * 16) keep k)
  filling_more {stack} {b} {k} long l q s t =
      let w : Within n e = f.within in
      let most = w.most in
      let few = w.few in
      let fits = (filling_fits l).0 in
      let behind = (filling_fits l).1 in
      let inside : passes * 16 + e.count ≤ 64 = omega (arith, fits, most, few, w.some) in
      let before : min (passes * 16) (total e) ≡ passes * 16 = omega (arith, fits) in
      let filled : FilledTo nodes n (passes * 16) bury keep = rw before at f.filled in
      let same : 16 + e.count - 16 ≡ e.count = omega arith in
      let low : length (take e.count stack) ≡ e.count = length-take-le e.count stack (omega (arith, long, most)) in
      let high : length (take e.count (drop 16 stack)) ≡ e.count =
      length-take-le e.count (drop 16 stack) (omega (arith, long, most, length-drop 16 stack)) in
      record {
        within = w;
        counted = omega arith;
        filled = rw behind
            (filled_more nodes n (passes * 16) e w fits filled q refl
            (stored_at (passes * 16) e.count e.lanes (take e.count stack) (rw filled.buries inside) low s)
            (stored_at (passes * 16) e.count e.lanes (take e.count (drop 16 stack)) (rw filled.keeps inside) high (rw same at t)));
        fine = λ h. sym q.told;
      }

  filled-all : e.passes ≤ passes → FilledTo nodes n 64 bury keep
  filled-all l =
      let w : Within n e = f.within in
      let beyond = w.beyond in
      let done : min (passes * 16) (total e) ≡ total e = omega (arith, w.most, w.some, l) in
      let all : total e ≤ 64 = omega (arith, w.few, w.most, w.some) in
      let g : FilledTo nodes n (total e) bury keep = rw done at f.filled in
      record {
        buries = g.buries;
        keeps = g.keeps;
        answered = λ i x o m.
            ⊎_elim
            (λ h. g.answered i x h m)
            (λ h. rw (g.buried i h, g.kept i h, bit-none x m, le-ltb (i * 64 + x) (4 ^ n) (omega (arith, h, beyond))))
            (below_or_not i (total e));
        low = λ i o. ⊎_elim (λ h. g.low i h) (λ h. rw (g.buried i h) (omega arith)) (below_or_not i (total e));
        high = λ i o. ⊎_elim (λ h. g.high i h) (λ h. rw (g.kept i h) (omega arith)) (below_or_not i (total e));
        buried = λ i o. g.buried i (omega (arith, o, all));
        kept = λ i o. g.kept i (omega (arith, o, all));
      }

  pub filling_all : 1 ≤ n → n ≤ 6 → e.passes ≤ passes → record { refusal = none; bury = bury; keep = keep } ≡ planes_of nodes n
  unfolding planes_of
  filling_all some most l =
      let w : Within n e = f.within in
      let a = filled-all l in
      let z : (evaluate_of nodes (replicate n 0)).refusal ≡ none = silent_heights nodes n some most ∙ f.fine (omega (arith, w.some, l)) in
      rw (z, bury-same nodes n a, keep_same nodes n a)
