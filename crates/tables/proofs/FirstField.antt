-- What the first field without a fault tells of the columns, and the rows behind it.
use Prim.Native.Nat.{ℕ, ◌≤◌}
use mathlib.Core.Path.{◌≡◌, ap, sym}
use mathlib.Core.List.{List}
use Rattle.refusals.specs.Meaning.{Numbers, none}
use Rattle.faults.specs.Meaning.{columns_of, columns_fault}
use Rattle.faults.proofs.FirstField.{columns_fault-sound}

pub columns-few : (t : List ℕ) {n : ℕ} → none ≡ columns_fault t → n ≡ columns_of t → n ≤ 6
columns-few t e m = rw m (columns_fault-sound t (ap (λ (x : Numbers). x.number) (sym e))).few-columns
