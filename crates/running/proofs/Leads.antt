-- Where nodes lead. Pieces that lead from one stack to another are put together (leads_append) and answer (leads_answer);
-- each node leads somewhere (leads_constant to leads_join), for every stack that leaves room.
use Prim.Native.Nat.{ℕ, suc, ◌+◌, ◌<◌}
use mathlib.Core.Path.{◌≡◌, refl}
use mathlib.Core.Bool.{true}
use mathlib.Core.List.{List, [], ◌∷◌, ◌++◌}
use lib.ListN.{length, get_or}
use borrow.Author.Tests.{lt-ltb, eq-eqb}
use native.Mathlib.Nat.{add-zero}
use native.Mathlib.Omega.{arith}
use Rattle.answers.specs.Meaning.{number, negate, turn, meet, join, succeed}
use Rattle.answers.specs.declared.Answer.{Answer}
use Rattle.answers.specs.declared.Answer.TheVariants.{Silent}
use Rattle.answers.proofs.Every.{each}
use Rattle.nodes.specs.declared.Node.{Node}
use Rattle.nodes.specs.declared.Node.TheVariants.{Constant, Negate, Turn, Meet, Join, Column}
use Rattle.nodes.specs.declared.Profile.{Profile}
use Rattle.nodes.specs.Meaning.{node_of, climb, act, finish, run}
use Rattle.std.proofs.lemmas.Bool.Decides.{nat_tests}

-- The nodes lead from one stack to another: none of them is refused.
pub data LeadsBy (profile : Profile) (s : List Answer) : List ℕ → List Answer → List Answer → Type 0 where
  still : {stack : List Answer} → LeadsBy profile s [] stack stack
  onto :
      {b : ℕ} {nodes : List ℕ} {stack end : List Answer} →
      (climb profile (length s) (node_of b) (length stack)).fault ≡ 0 →
      LeadsBy profile s nodes (act s (node_of b) stack) end →
      LeadsBy profile s (b ∷ nodes) stack end

-- So many places and all nodes; full is this of 16.
abbrev pub all_nodes : ℕ → Profile
all_nodes height = record { places = height; joins = true }

abbrev pub Leads : ℕ → List Answer → List ℕ → List Answer → List Answer → Type 0
Leads height = LeadsBy (all_nodes height)

module _ {profile : Profile} {s : List Answer} where
  pub leads_append :
      {xs ys : List ℕ} {stack middle end : List Answer} →
      LeadsBy profile s xs stack middle →
      LeadsBy profile s ys middle end →
      LeadsBy profile s (xs ++ ys) stack end
  leads_append still m = m
  leads_append (onto e l) m = onto e (leads_append l m)

  leads_end :
      {nodes : List ℕ} {stack end : List Answer} (place : ℕ) →
      LeadsBy profile s nodes stack end →
      run profile s place stack nodes ≡ finish (place + length nodes) end
  unfolding run
  leads_end place still = rw (add-zero place)
  leads_end place (onto {b} {nodes} {stack} e l) =
      let p : place + suc (length nodes) ≡ suc place + length nodes = omega arith in
      rw (eq-eqb (climb profile (length s) (node_of b) (length stack)).fault 0 e, p) (leads_end (suc place) l)

  pub leads_answer :
      {nodes : List ℕ} {stack : List Answer} {a : Answer} (place : ℕ) →
      LeadsBy profile s nodes stack (a ∷ []) →
      run profile s place stack nodes ≡ succeed a
  leads_answer place l = leads_end place l

-- each node
leads_one :
    {profile : Profile} {s : List Answer} (b : ℕ) (node : Node) (stack : List Answer) {end : List Answer} →
    node_of b ≡ node →
    (climb profile (length s) node (length stack)).fault ≡ 0 →
    act s node stack ≡ end →
    LeadsBy profile s (b ∷ []) stack end
leads_one b node stack {end} n e f = onto {b = b} {nodes = []} {stack = stack} {end = end} (rw n e) (rw (n, f) still)

node_constant : (a : Answer) → node_of (number a) ≡ Constant a
node_constant = each _ (search refl)

node_column : (k : ℕ) → k < 6 → node_of (16 + k) ≡ Column k
node_column k l = grind (arith, nat_tests)

module _ {profile : Profile} {s : List Answer} {stack : List Answer} where
  pub leads_constant : (a : Answer) → length stack < profile.places → LeadsBy profile s (number a ∷ []) stack (a ∷ stack)
  unfolding climb act
  leads_constant a l = leads_one (number a) (Constant a) stack (node_constant a) (rw (lt-ltb (length stack) profile.places l)) refl

  pub leads_column :
      (k : ℕ) → k < 6 → k < length s → length stack < profile.places → LeadsBy profile s ((16 + k) ∷ []) stack (get_or s k Silent ∷ stack)
  unfolding climb act
  leads_column k six i l =
      leads_one (16 + k) (Column k) stack (node_column k six)
      (rw (lt-ltb k (length s) i, lt-ltb (length stack) profile.places l))
      refl

  module _ {p : Answer} where
    pub leads_negate : LeadsBy profile s (4 ∷ []) (p ∷ stack) (negate p ∷ stack)
    unfolding climb act
    leads_negate = leads_one 4 Negate (p ∷ stack) refl (rw (lt-ltb 0 (suc (length stack)) (omega arith))) refl

    pub leads_turn : LeadsBy profile s (5 ∷ []) (p ∷ stack) (turn p ∷ stack)
    unfolding climb act
    leads_turn = leads_one 5 Turn (p ∷ stack) refl (rw (lt-ltb 0 (suc (length stack)) (omega arith))) refl

    pub leads_meet : {q : Answer} → LeadsBy profile s (6 ∷ []) (q ∷ p ∷ stack) (meet p q ∷ stack)
    unfolding climb act
    leads_meet {q} = leads_one 6 Meet (q ∷ p ∷ stack) refl (rw (lt-ltb 1 (suc (suc (length stack))) (omega arith))) refl

-- every profile that knows the join is all_nodes of its places
pub leads_join : {height : ℕ} {s stack : List Answer} {p q : Answer} → Leads height s (7 ∷ []) (q ∷ p ∷ stack) (join p q ∷ stack)
unfolding climb act
leads_join {stack = stack} {p = p} {q = q} =
    leads_one 7 Join (q ∷ p ∷ stack) refl (rw (lt-ltb 1 (suc (suc (length stack))) (omega arith))) refl
