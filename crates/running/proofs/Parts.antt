-- Running an appended list is running the one and then the other (run-append).
use Prim.Native.Nat.{ℕ, suc, ◌+◌}
use mathlib.Core.Path.{◌≡◌, refl}
use mathlib.Core.Bool.{Bool, true, false, cond}
use mathlib.Core.List.{List, [], ◌∷◌, ◌++◌}
use lib.Dec.{eqb}
use lib.ListN.{length}
use borrow.Author.Tests.{eqb-true}
use native.Mathlib.Nat.{add-zero}
use native.Mathlib.Omega.{arith}
use Rattle.refusals.specs.Meaning.{Numbers, none, refused, after}
use Rattle.answers.specs.declared.Answer.{Answer}
use Rattle.answers.specs.declared.Answer.TheVariants.{Silent}
use Rattle.answers.specs.Meaning.{Reply}
use Rattle.nodes.specs.declared.Profile.{Profile}
use Rattle.nodes.specs.Meaning.{node_of, climb, act, reply_after, run}
use Rattle.running.proofs.Heights.{act_height}

-- The refusal of a part of an array, which need not leave one answer ..
unfoldable pub part_fault : Profile → ℕ → ℕ → ℕ → List ℕ → Numbers
part_fault profile n place height [] = none
part_fault profile n place height (b ∷ nodes) =
    after (refused (climb profile n (node_of b) height).fault place) (λ r. r)
    (part_fault profile n (suc place) (climb profile n (node_of b) height).height nodes)

-- .. and the stack that it leaves.
unfoldable pub acts : List Answer → List ℕ → List Answer → List Answer
acts s [] stack = stack
acts s (b ∷ nodes) stack = acts s nodes (act s (node_of b) stack)

-- "Running an appended list is running the one and then the other", refused or not.
pub run-append :
    (profile : Profile) (s : List Answer) (place : ℕ) (stack : List Answer) (xs ys : List ℕ) →
    run profile s place stack (xs ++ ys)
    ≡ reply_after (part_fault profile (length s) place (length stack) xs) (run profile s (place + length xs) (acts s xs stack) ys)
unfolding run part_fault acts
run-append profile s place stack [] ys = rw (add-zero place)
run-append profile s place stack (b ∷ xs) ys = go (eqb f 0) refl (run-append profile s (suc place) (act s (node_of b) stack) xs ys)
  where
    f : ℕ
    f = (climb profile (length s) (node_of b) (length stack)).fault

    next : List Answer
    next = act s (node_of b) stack

    rest : ℕ → Reply
    rest p = run profile s p (acts s xs next) ys

    go :
        (t : Bool) →
        eqb f 0 ≡ t →
        run profile s (suc place) next (xs ++ ys) ≡ reply_after (part_fault profile (length s) (suc place) (length next) xs) (rest (suc place + length xs)) →
        cond t (run profile s (suc place) next (xs ++ ys)) (record { refusal = refused f place; answer = Silent })
        ≡ reply_after
        (cond t (part_fault profile (length s) (suc place) (climb profile (length s) (node_of b) (length stack)).height xs) (refused f place))
        (rest (place + suc (length xs)))
    go true e h =
        let p : place + suc (length xs) ≡ suc place + length xs = omega arith in
        rw (p, ← act_height profile s (node_of b) stack (eqb-true f 0 e)) h
    go false e h = rw e
