use Rattle.std.proofs.Common.{◌≡◌, ◌++◌, map, take, drop}
use Rattle.elastic.specs.Private.Points.{unchanging_point}
use Rattle.elastic.proofs.points.still.Given as goal

abbrev pub invariant-loop-point : goal.invariant-loop-point
invariant-loop-point l = l.points ≡ map unchanging_point (take l.point-index l.initial.points) ++ drop l.point-index l.initial.points
