use Rattle.std.proofs.Common.{List}
use Rattle.lots.specs.declared.Lot.{Lot}
use Rattle.elastic.specs.Private.Points.{minutes_of}
use Rattle.elastic.specs.Private.Walks.{usable, Course, Stands}
use Rattle.elastic.proofs.walk.left_over.Given as goal

abbrev pub invariant-loop-point : goal.invariant-loop-point
invariant-loop-point l = (T : List Lot) → Course l.capacity 0 T T l.points → Stands (usable l.capacity 0 0) T (minutes_of l.points) l.point-index l.state
