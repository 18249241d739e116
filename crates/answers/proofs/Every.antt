-- A fact about every answer is one computed test: `each _ (search refl)`, for two and three answers `all2`, `all3`.
use Rattle.answers.specs.declared.Answer.{Answer}
use Rattle.answers.specs.declared.Answer.TheVariants.{Silent, Bury, Keep, Clash}

abbrev pub All : (Answer → Type 0) → Type 0
All P = P Silent × P Bury × P Keep × P Clash

pub each : (P : Answer → Type 0) → All P → (x : Answer) → P x
each P h Silent = h.0
each P h Bury = h.1
each P h Keep = h.2
each P h Clash = h.3

pub all2 : (P : Answer → Answer → Type 0) → All (λ x. All (P x)) → (x y : Answer) → P x y
all2 P h x = each (P x) (each (λ x. All (P x)) h x)

pub all3 : (P : Answer → Answer → Answer → Type 0) → All (λ x. All (λ y. All (P x y))) → (x y z : Answer) → P x y z
all3 P h x = all2 (P x) (each (λ x. All (λ y. All (P x y))) h x)
