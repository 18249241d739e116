-- Two ways to answer that agree at every situation of n columns grow alike, and a reply shows for one what it shows for the other.
use Prim.Native.Nat.{ℕ}
use mathlib.Core.Path.{◌≡◌, ◌∙◌}
use mathlib.Core.List.{List}
use lib.ListN.{length, set, length-set}
use Rattle.answers.specs.declared.Answer.{Answer}
use Rattle.situations.specs.Meaning.{merge}
use Rattle.situations.proofs.Merging.{merge-length}
use Rattle.growth.specs.Meaning.{Growth}
use Rattle.growing.specs.Meaning.{Grows, FirstFailing, Shows}

pub grows_same : (f g : List Answer → Answer) (n : ℕ) → ((s : List Answer) → length s ≡ n → f s ≡ g s) → Grows f n → Grows g n
grows_same f g n e h =
    record {
      first = λ s t l k. rw (← e s l, ← e (merge s t) (merge-length s t ∙ l)) (h.first s t l k);
      second = λ s t l k. rw (← e t k, ← e (merge s t) (merge-length s t ∙ l)) (h.second s t l k);
    }

first-same :
    (f g : List Answer → Answer) (n : ℕ) {s : List Answer} {column : ℕ} {a : Answer} →
    ((s : List Answer) → length s ≡ n → f s ≡ g s) →
    FirstFailing f n s column a →
    FirstFailing g n s column a
first-same f g n {s} {column} {a} e h =
    record {
      long = h.long;
      fails = record {
        step = h.fails.step;
        lost = λ c. h.fails.lost (rw (e s h.long, e (set s column a) (length-set s column a ∙ h.long)) c);
      };
      first = λ t other b l before fails. h.first t other b l before
          (record {
            step = fails.step;
            lost = λ c. fails.lost (rw (← e t l, ← e (set t other b) (length-set t other b ∙ l)) c);
          });
    }

pub shows_same :
    (f g : List Answer → Answer) (n : ℕ) (r : Growth) → ((s : List Answer) → length s ≡ n → f s ≡ g s) → Shows f n r → Shows g n r
shows_same f g n r e h =
    record {
      situation = h.situation;
      answer = h.answer;
      told-situation = h.told-situation;
      told-answer = h.told-answer;
      first = first-same f g n e h.first;
    }
