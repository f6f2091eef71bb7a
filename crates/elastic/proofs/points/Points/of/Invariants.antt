use Rattle.std.proofs.Common.{take}
use Rattle.elastic.specs.Private.Points.{Profiles}
use Rattle.elastic.proofs.points.Points.of.Given as goal

abbrev pub invariant-loop-lot : goal.invariant-loop-lot
invariant-loop-lot l = Profiles l.points.row (take l.lot-index l.table.lots.now) (take l.lot-index l.table.lots.now)
