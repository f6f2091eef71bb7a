use Rattle.std.proofs.Common.{◌≤◌, take}
use Rattle.std.specs.List.{AllByRecursion}
use Rattle.lots.specs.Limits.{max_lots}
use Rattle.lots.specs.Tables.{LawfulLot}
use Rattle.lots.proofs.is_lawful.Given as goal

abbrev pub invariant-loop-number : goal.invariant-loop-number
invariant-loop-number l = (l.number ≤ max_lots) × AllByRecursion (LawfulLot l.capacity) (take l.number l.lots)
