use Rattle.std.proofs.Common.{List}
use Rattle.lots.specs.Limits.{max_capacity}
use Rattle.lots.specs.Tables.{Lawful}
use Rattle.lots.specs.declared.Lot.{Lot}
use Rattle.elastic.specs.Private.Points.{minutes_of, Profiles}
use Rattle.elastic.proofs.Required.{MostSoFar}
use Rattle.elastic.proofs.walk.most_required.Given as goal

abbrev pub invariant-loop-point : goal.invariant-loop-point
invariant-loop-point l = (T Ω : List Lot) → Lawful max_capacity Ω → Profiles l.points T Ω → MostSoFar Ω (minutes_of l.points) l.point-index l.required l.most
