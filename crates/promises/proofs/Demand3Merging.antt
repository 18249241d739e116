-- Demand 3, the merging that it speaks of, as a caller sees it. A situation by value has six bytes, and its columns are the answers
-- below its length.
use mathlib.Core.Path.{◌≡◌, refl, ap, sym, ◌∙◌}
use mathlib.Core.List.{List}
use Rattle.answers.specs.declared.Answer.{Answer}
use Rattle.situations.specs.declared.Situation.{Situation}
use Rattle.situations.specs.Meaning.{columns, merge, merge_of, Within}
use Rattle.situations.proofs.Merging as laws
use Rattle.situations.proofs.Replies.{merged-joined}
use Rattle.replying.proofs.MergeLaws.{merges_mergeable, merger_passes, merger_length, mergeable_accepted, merged_itself, merged_lengths}
use Rattle.promises.specs.Meaning.{SixBytes, Merges}

-- One direction accepted implies the other.
pub merges_both_ways : (s t : Situation) → Merges s t → Merges t s
unfolding Merges
merges_both_ways s t h =
    let m = merges_mergeable s t h in
    mergeable_accepted t s (record { first = m.second; second = m.first; same = sym m.same })

-- The columns of the merger are the merger of the columns.
pub merger_columns :
    (s t : Situation) → SixBytes s → Merges s t → columns (merge_of s t).situation ≡ merge (columns s) (columns t)
unfolding SixBytes Merges
merger_columns s t a h = (merged-joined s t a h).columns_are

-- The merger contains both, and every situation that contains both contains it.
pub merger_contains_both :
    (s t : Situation) →
    SixBytes s →
    SixBytes t →
    Merges s t →
    Within (columns s) (columns (merge_of s t).situation)
    × Within (columns t) (columns (merge_of s t).situation)
    × ((u : List Answer) → Within (columns s) u → Within (columns t) u → Within (columns (merge_of s t).situation) u)
unfolding SixBytes Merges
merger_contains_both s t a b h =
    rw (merged-joined s t a h).columns_are (
      laws.merge-left (columns s) (columns t),
      laws.merge-right (columns s) (columns t) (merged_lengths s t a b h),
      laws.merge-least (columns s) (columns t),
    )

-- The same in any order ..
pub merger_any_order :
    (s t : Situation) →
    SixBytes s →
    SixBytes t →
    Merges s t →
    columns (merge_of s t).situation ≡ columns (merge_of t s).situation
unfolding SixBytes Merges
merger_any_order s t a b h =
    merger_columns s t a h
    ∙ laws.merge_comm (columns s) (columns t) (merged_lengths s t a b h)
    ∙ sym (merger_columns t s b (merges_both_ways s t h))

-- .. and grouping, and where the pairs are accepted, so are both groupings ..
pub merger_merges : (s t u : Situation) → SixBytes s → Merges s t → Merges t u → Merges (merge_of s t).situation u
unfolding SixBytes Merges
merger_merges s t u a h k =
    let m = merges_mergeable s t h in
    let n = merges_mergeable t u k in
    mergeable_accepted (merge_of s t).situation u
    (record { first = merger_passes s t a m; second = n.second; same = merger_length s t a m ∙ m.same ∙ n.same })

pub merges_merger : (s t u : Situation) → SixBytes t → Merges s t → Merges t u → Merges s (merge_of t u).situation
unfolding SixBytes Merges
merges_merger s t u b h k =
    let m = merges_mergeable s t h in
    let n = merges_mergeable t u k in
    mergeable_accepted s (merge_of t u).situation
    (record { first = m.first; second = merger_passes t u b n; same = m.same ∙ sym (merger_length t u b n) })

pub merger_any_grouping :
    (s t u : Situation) →
    SixBytes s →
    SixBytes t →
    SixBytes u →
    Merges s t →
    Merges t u →
    columns (merge_of (merge_of s t).situation u).situation ≡ columns (merge_of s (merge_of t u).situation).situation
unfolding SixBytes Merges
merger_any_grouping s t u a b d h k =
    merger_columns (merge_of s t).situation u (merged-joined s t a h).six (merger_merges s t u a h k)
    ∙ ap (λ l. merge l (columns u)) (merger_columns s t a h)
    ∙ laws.merge_assoc (columns s) (columns t) (columns u) (merged_lengths s t a b h) (merged_lengths t u b d k)
    ∙ ap (merge (columns s)) (sym (merger_columns t u b k))
    ∙ sym (merger_columns s (merge_of t u).situation a (merges_merger s t u b h k))

-- .. and what is merged twice counts once.
pub merger_twice :
    (s t : Situation) →
    SixBytes s →
    SixBytes t →
    Merges s t →
    columns (merge_of (merge_of s t).situation t).situation ≡ columns (merge_of s t).situation
unfolding SixBytes Merges
merger_twice s t a b h =
    merger_columns (merge_of s t).situation t (merged-joined s t a h).six (merger_merges s t t a h (merged_itself s t h))
    ∙ ap (λ l. merge l (columns t)) (merger_columns s t a h)
    ∙ laws.merge_assoc (columns s) (columns t) (columns t) (merged_lengths s t a b h) refl
    ∙ ap (merge (columns s)) (laws.merge-same (columns t))
    ∙ sym (merger_columns s t a h)
