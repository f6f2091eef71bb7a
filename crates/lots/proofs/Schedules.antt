-- What a schedule says of its table.
use Rattle.std.specs.Prelude.{ℕ, List, [], ◌∷◌, ◌++◌}
use Rattle.std.proofs.Common.{arith}
use Rattle.lots.specs.Schedules.{Placed}
use Rattle.lots.specs.Tables.{Fits}
use Rattle.lots.specs.declared.Lot.{Lot}

pub placed_fits : (T : List Lot) (ss : List ℕ) → Placed T ss → Fits T
placed_fits [] ss p = tt
placed_fits (x ∷ xs) [] p = absurd p
placed_fits (x ∷ xs) (s ∷ ss) p = (omega arith, placed_fits xs ss p.1)

-- two lists of lots, each with its starts
pub placed_append : (xs ys : List Lot) (ss us : List ℕ) → Placed xs ss → Placed ys us → Placed (xs ++ ys) (ss ++ us)
placed_append [] ys [] us p q = q
placed_append [] ys (s ∷ ss) us p q = absurd p
placed_append (x ∷ xs) ys [] us p q = absurd p
placed_append (x ∷ xs) ys (s ∷ ss) us p q = (p.0, placed_append xs ys ss us p.1 q)
