-- What a search for a key finds.
use Rattle.std.specs.Prelude.{ℕ, ◌≤◌, List, length, Ok, Err, Result}
use Rattle.std.specs.Cmp.{IsTotalOrder}
use Rattle.std.specs.declared.cmp.Ordering.{Ordering}
use Rattle.row.specs.Rows.{Below, Above, Stands}

-- the place of the key k: where it stands, or else where it would
abbrev pub Sought : {E K : Type 0} {R : K → K → Ordering} (o : IsTotalOrder R) (key : E → K)
    → K → List E → Result ℕ ℕ → Type 0
Sought o key k row (Ok i) = Stands o key k row i
Sought o key k row (Err i) = (i ≤ length row) × Below o key k row i × Above o key k row i
