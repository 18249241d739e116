-- The reply tells which result it is of: no two results have one reply. A contract that says the reply so determines the result.
use mathlib.Core.Path.{◌≡◌, refl, ap, ap₂, sym, ◌∙◌}
use Prim.Native.Nat.{ℕ, ◌<◌}
use mathlib.Core.Bool.{Bool, true, false, cond}
use lib.Dec.{eqb, ltb}
use native.Mathlib.Omega.{arith}
use borrow.Author.Tests.{eqb-false}
use Rattle.std.specs.Prelude.{Result, Ok, Err, Option, Some, None, IfSome}
use Rattle.refusals.specs.Meaning.{Numbers, none, kind_number, numbers}
use Rattle.refusals.specs.declared.Refusal.{Refusal}
use Rattle.refusals.proofs.Checks.{refusal_counts, kind_refuses}
use Rattle.refusals.proofs.Apart.{kind_number-apart, numbers-apart, replied-apart}
use Rattle.answers.specs.declared.Answer.{Answer}
use Rattle.answers.specs.Meaning.{Reply, number, from_number, answered, succeed, refuse_answer}
use Rattle.operands.specs.Meaning.{Related, related, relate, refuse_related}
use Rattle.situations.specs.declared.Situation.{Situation}
use Rattle.situations.specs.declared.Unmerged.{Unmerged}
use Rattle.situations.specs.Meaning.{weight, Merged, merged}
use Rattle.notices.specs.Meaning.{Noticed, facts_read}
use Rattle.trees.specs.Meaning as trees
use Rattle.voices.specs.declared.Possible.{Possible}
use Rattle.voices.specs.Meaning.{Heard, unheard, may_answer}
use Rattle.tables.specs.declared.Read.{Read}
use Rattle.tables.specs.Meaning.{TableRead, accept_table, refuse_table, table_read}
use Rattle.compiler.specs.declared.Sizes.{Sizes}
use Rattle.compiler.specs.Meaning.{Compiled, accept_compiled, refuse_compiled, compiled}
use Rattle.refusals.specs.declared.Kind.{Kind}
use Rattle.nodes.specs.Meaning.{Climbed, climbed}
use Rattle.planes.specs.declared.Planes.{Planes}
use Rattle.planes.specs.Meaning.{Filled, filled, refuse_filled}
use Rattle.answers.proofs.Claims.{number_from, number_small}
use Rattle.steps.specs.declared.Raise.{Raise}
use Rattle.steps.specs.Meaning.{Step, no_step, step_told}
use Rattle.growth.specs.declared.Told.{Told}
use Rattle.growth.specs.declared.Verdict.{Verdict}
use Rattle.growth.specs.declared.Verdict.TheVariants.{Yes, No}
use Rattle.growth.specs.Meaning.{Growth, without, verdict_told, growth_told, told}
use Rattle.listing.specs.Meaning.{Written, give_written, refuse_written, wrote}

pub answered-apart : (q r : Result Answer Refusal) → answered q ≡ answered r → q ≡ r
answered-apart =
    replied-apart succeed refuse_answer (λ (x : Reply). x.refusal) (λ a. refl) (λ n. refl) (λ a b e. ap (λ (x : Reply). x.answer) e)

pub related-apart : (q r : Result Bool Refusal) → related q ≡ related r → q ≡ r
related-apart =
    replied-apart relate refuse_related (λ (x : Related). x.refusal) (λ a. refl) (λ n. refl) (λ a b e. ap (λ (x : Related). x.contained) e)

pub merged-apart : (q r : Result Situation Unmerged) → merged q ≡ merged r → q ≡ r
merged-apart (Ok s) (Ok t) e = ap Ok (ap (λ (m : Merged). m.situation) e)
merged-apart (Ok s) (Err u) e = absurd (refusal_counts u.refusal (sym (ap (λ (m : Merged). m.refusal.number) e)))
merged-apart (Err u) (Ok t) e = absurd (refusal_counts u.refusal (ap (λ (m : Merged). m.refusal.number) e))
merged-apart (Err u) (Err v) e =
    ap Err
    (ap₂ (λ r s. record { refusal = r; situation = s })
    (numbers-apart u.refusal v.refusal (ap (λ (m : Merged). m.refusal) e))
    (ap (λ (m : Merged). m.situation) e))

pub table_read-apart : (q r : Result Read Refusal) → table_read q ≡ table_read r → q ≡ r
table_read-apart =
    replied-apart (λ (r : Read). accept_table r.columns r.rows) refuse_table (λ (x : TableRead). x.refusal) (λ a. refl) (λ n. refl)
    (λ a b e. ap (λ (x : TableRead). record { columns = x.columns; rows = x.rows }) e)

pub compiled-apart : (q r : Result Sizes Refusal) → compiled q ≡ compiled r → q ≡ r
compiled-apart =
    replied-apart accept_compiled refuse_compiled (λ (x : Compiled). x.refusal) (λ a. refl) (λ n. refl)
    (λ a b e. ap (λ (x : Compiled). record { columns = x.columns; rows = x.rows; nodes = x.nodes }) e)

pub facts_read-apart : (q r : Result ℕ Refusal) → facts_read q ≡ facts_read r → q ≡ r
facts_read-apart =
    replied-apart (λ k. record { refusal = none; facts = k }) (λ n. record { refusal = n; facts = 0 }) (λ (x : Noticed). x.refusal) (λ a. refl) (λ n. refl)
    (λ a b e. ap (λ (x : Noticed). x.facts) e)

-- what was read tells its refusal and what was made, where one is given for either
refusal_read : {A : Type 0} → trees.Read A → Numbers
refusal_read (trees.made a end) = none
refusal_read (trees.refused n) = n

made_read : {A : Type 0} → A → trees.Read A → A × ℕ
made_read other (trees.made a end) = (a, end)
made_read other (trees.refused n) = (other, 0)

pub reading-apart : {A : Type 0} (q r : Result (A × ℕ) Refusal) → trees.reading q ≡ trees.reading r → q ≡ r
unfolding refusal_read made_read
reading-apart =
    replied-apart (λ x. trees.made x.0 x.1) trees.refused refusal_read (λ a. refl) (λ n. refl)
    (λ a b e. ap (made_read a.0) e)

pub may_answer-apart : (q r : Result Possible Refusal) → may_answer q ≡ may_answer r → q ≡ r
may_answer-apart =
    replied-apart (λ (p : Possible). record { refusal = none; set = p.set; answer = p.answer }) unheard (λ (x : Heard). x.refusal) (λ a. refl) (λ n. refl)
    (λ a b e. ap (λ (x : Heard). record { set = x.set; answer = x.answer }) e)

pub climbed-apart : (q r : Result ℕ Kind) → climbed q ≡ climbed r → q ≡ r
climbed-apart (Ok a) (Ok b) e = ap Ok (ap (λ (x : Climbed). x.height) e)
climbed-apart (Ok a) (Err l) e = absurd (eqb-false (kind_number l) 0 (kind_refuses l) (sym (ap (λ (x : Climbed). x.fault) e)))
climbed-apart (Err k) (Ok b) e = absurd (eqb-false (kind_number k) 0 (kind_refuses k) (ap (λ (x : Climbed). x.fault) e))
climbed-apart (Err k) (Err l) e = ap Err (kind_number-apart k l (ap (λ (x : Climbed). x.fault) e))

pub filled-apart : (q r : Result Planes Refusal) → filled q ≡ filled r → q ≡ r
filled-apart =
    replied-apart (λ (p : Planes). record { refusal = none; bury = p.bury; keep = p.keep }) refuse_filled (λ (x : Filled). x.refusal) (λ a. refl) (λ n. refl)
    (λ a b e. ap (λ (x : Filled). record { bury = x.bury; keep = x.keep }) e)

pub wrote-apart : (q r : Result ℕ Refusal) → wrote q ≡ wrote r → q ≡ r
wrote-apart =
    replied-apart give_written refuse_written (λ (x : Written). x.refusal) (λ a. refl) (λ n. refl) (λ a b e. ap (λ (x : Written). x.length) e)

pub told-apart : (t u : Told) → told none t ≡ told none u → t ≡ u
told-apart t u = ap (λ (g : Growth). record { verdict = g.verdict; situation = g.situation; column = g.column; answer = g.answer })

-- what a reply of the growth check says of a verdict
verdict_in : Growth → Verdict
verdict_in g = cond (eqb g.verdict 1) Yes (No (record { situation = g.situation; column = g.column; answer = from_number g.answer }))

verdict_back : (v : Verdict) → verdict_in (verdict_told v) ≡ v
unfolding verdict_in
verdict_back Yes = refl
verdict_back (No fall) = ap (λ a. No (record { situation = fall.situation; column = fall.column; answer = a })) (number_from fall.answer)

verdict_numbers : (v : Verdict) → (verdict_told v).refusal ≡ none
verdict_numbers Yes = refl
verdict_numbers (No fall) = refl

pub growth_told-apart : (q r : Result Verdict Refusal) → growth_told q ≡ growth_told r → q ≡ r
growth_told-apart =
    replied-apart verdict_told (λ n. without n 0) (λ (x : Growth). x.refusal) verdict_numbers (λ n. refl)
    (λ a b e. sym (verdict_back a) ∙ ap verdict_in e ∙ verdict_back b)

-- a step is told by its situation, its column and its answer, and that there is none by an answer or a situation that no step has
module _ (n w : ℕ) where
  raise_in : Step → Raise
  raise_in s = record { number = s.number; column = s.column; answer = from_number s.answer }

  raise_back : (a : Raise) → raise_in (step_told n w (Some a)) ≡ a
  unfolding raise_in
  raise_back a = ap (λ x. record { number = a.number; column = a.column; answer = x }) (number_from a.answer)

  none_told : (a : Raise) → a.number < weight n → (b : Bool) → step_told n w (Some a) ≡ cond b (record { number = w; column = n; answer = 4 }) (no_step n) → ⊥
  none_told a l true e = let small = number_small a.answer in let z : number a.answer ≡ 4 = ap (λ (s : Step). s.answer) e in omega (arith, small, z)
  none_told a l false e = let z : a.number ≡ weight n = ap (λ (s : Step). s.number) e in omega (arith, l, z)

  pub raised-apart :
      (q r : Option Raise) →
      IfSome q (λ (x : Raise). x.number < weight n) →
      IfSome r (λ (x : Raise). x.number < weight n) →
      step_told n w q ≡ step_told n w r →
      q ≡ r
  raised-apart None None i j e = refl
  raised-apart None (Some b) i j e = absurd (none_told b j (ltb w (weight n)) (sym e))
  raised-apart (Some a) None i j e = absurd (none_told a i (ltb w (weight n)) e)
  raised-apart (Some a) (Some b) i j e = ap Some (sym (raise_back a) ∙ ap raise_in e ∙ raise_back b)
