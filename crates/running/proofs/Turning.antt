-- Turns that stand one after another are done at once (run-turns), as both machines do it behind a column (run_past).
use Prim.Native.Nat.{ℕ, zero, suc, ◌+◌, ◌-◌, ◌%◌, ◌≤◌, ◌<◌}
use mathlib.Core.Path.{◌≡◌, refl, sym, ◌∙◌}
use mathlib.Core.Bool.{Bool, true, false, cond}
use mathlib.Core.List.{List, [], ◌∷◌}
use lib.Dec.{eqb}
use lib.ListN.{length, drop, get_or, length-drop}
use lib.Seq.{drop-drop}
use borrow.Author.Tests.{lt-ltb, eqb-true}
use native.Mathlib.Nat.{add-zero}
use native.Mathlib.Omega.{arith}
use Rattle.answers.specs.Meaning.{number, from_number, turn}
use Rattle.answers.specs.declared.Answer.{Answer}
use Rattle.answers.specs.declared.Answer.TheVariants.{Silent}
use Rattle.answers.proofs.Claims.{from_number_lem, number_from, number_small, turn-number}
use Rattle.nodes.specs.declared.Node.{Node}
use Rattle.nodes.specs.declared.Node.TheVariants.{Constant, Negate, Turn, Meet, Join, Column, Foreign}
use Rattle.nodes.specs.declared.Profile.{Profile}
use Rattle.nodes.specs.Meaning.{climb, act, run, turns, past}
use Rattle.nodes.specs.Inside.{turned_by, act_turned}

-- turning a number
pub turned_by-number : (n d : ℕ) → d ≤ 3 → from_number ((d + n) % 4) ≡ turned_by n (from_number d)
unfolding turned_by
turned_by-number zero d h = let e : (d + 0) % 4 ≡ d = omega arith in rw e
turned_by-number (suc n) d h =
    let small : (d + 1) % 4 ≤ 3 = omega arith in
    let e : (d + suc n) % 4 ≡ ((d + 1) % 4 + n) % 4 = omega arith in
    rw (e, turned_by-number n ((d + 1) % 4) small, turn-number (from_number d) {x = d} (sym (from_number_lem d h)) refl)

-- a run does the turns that an array begins with at once
turns-short : (nodes : List ℕ) → turns nodes ≤ length nodes
unfolding turns
turns-short [] = omega arith
turns-short (b ∷ nodes) = go (eqb b 5) (turns-short nodes)
  where
    go : (t : Bool) → turns nodes ≤ length nodes → cond t (suc (turns nodes)) 0 ≤ suc (length nodes)
    go true h = omega arith
    go false h = omega arith

pub run-turns :
    (profile : Profile) (s : List Answer) (place : ℕ) (p : Answer) (stack : List Answer) (nodes : List ℕ) →
    run profile s place (p ∷ stack) nodes
    ≡ run profile s (place + turns nodes) (turned_by (turns nodes) p ∷ stack) (drop (turns nodes) nodes)
unfolding run climb act turns turned_by
run-turns profile s place p stack [] = rw (add-zero place)
run-turns profile s place p stack (b ∷ nodes) = go (eqb b 5) refl (run-turns profile s (suc place) (turn p) stack nodes)
  where
    go :
        (t : Bool) →
        eqb b 5 ≡ t →
        run profile s (suc place) (turn p ∷ stack) nodes
        ≡ run profile s (suc place + turns nodes) (turned_by (turns nodes) (turn p) ∷ stack) (drop (turns nodes) nodes) →
        run profile s place (p ∷ stack) (b ∷ nodes)
        ≡ run
        profile
        s
        (place + cond t (suc (turns nodes)) 0)
        (turned_by (cond t (suc (turns nodes)) 0) p ∷ stack)
        (drop (cond t (suc (turns nodes)) 0) (b ∷ nodes))
    go true e h =
        let f : place + suc (turns nodes) ≡ suc place + turns nodes = omega arith in
        rw (eqb-true b 5 e, lt-ltb 0 (suc (length stack)) (omega arith), f) h
    go false e h = rw (add-zero place)

-- only an answer's number modulo 4 counts
pub turned_by-rest : (n : ℕ) (p : Answer) → turned_by n p ≡ turned_by (n % 4) p
turned_by-rest n p =
    let e : (number p + n) % 4 ≡ (number p + n % 4) % 4 = omega arith in
    let small = number_small p in
    rw (number_from p) at (sym (turned_by-number n (number p) small) ∙ (rw e) ∙ turned_by-number (n % 4) (number p) small)

-- where a run goes on
module _ (nodes : List ℕ) (start : ℕ) where
  pub past-ahead : (node : Node) → start ≤ past node nodes start
  unfolding past
  past-ahead (Constant a) = omega arith
  past-ahead (Column k) = omega arith
  past-ahead Negate = omega arith
  past-ahead Turn = omega arith
  past-ahead Meet = omega arith
  past-ahead Join = omega arith
  past-ahead Foreign = omega arith

  pub past-inside : (node : Node) → start ≤ length nodes → past node nodes start ≤ length nodes
  unfolding past
  past-inside (Constant a) l = l
  past-inside (Column k) l = omega (arith, turns-short (drop start nodes), length-drop start nodes)
  past-inside Negate l = l
  past-inside Turn l = l
  past-inside Meet l = l
  past-inside Join l = l
  past-inside Foreign l = l

  module _ (profile : Profile) (s : List Answer) (stack : List Answer) where
    column-past :
        (p : Answer) (next : ℕ) →
        next ≡ start + turns (drop start nodes) →
        run profile s start (p ∷ stack) (drop start nodes)
        ≡ run profile s next (turned_by (next - start) p ∷ stack) (drop next nodes)
    column-past p next e =
        let d : next - start ≡ turns (drop start nodes) = omega arith in
        run-turns profile s start p stack (drop start nodes) ∙ (rw (d, e, drop-drop (turns (drop start nodes)) start nodes))

    -- a run may go on behind the turns that follow a column, with its answer turned so many times
    pub run_past :
        (node : Node) →
        run profile s start (act s node stack) (drop start nodes)
        ≡ run profile s (past node nodes start) (act_turned s node (past node nodes start - start) stack) (drop (past node nodes start) nodes)
    unfolding past act act_turned
    run_past (Constant a) = refl
    run_past (Column k) = column-past (get_or s k Silent) (start + turns (drop start nodes)) refl
    run_past Negate = refl
    run_past Turn = refl
    run_past Meet = refl
    run_past Join = refl
    run_past Foreign = refl

-- a turn of a machine's loop comes nearer to the end
module _ (nodes : List ℕ) (i : ℕ) (node : Node) {next : ℕ} (p : next ≡ past node nodes (i + 1)) where
  pub next-ahead : i + 1 ≤ next
  next-ahead = rw p (past-ahead nodes (i + 1) node)

  pub next_less : i < length nodes → length nodes - next < length nodes - i
  next_less l = omega (arith, next-ahead)
