use Rattle.elastic.specs.Private.Points.{max_points}
use Rattle.elastic.proofs.Counting.{counted_none}
use Rattle.elastic.proofs.profile.PointCount.none.Goals as goal

pub returns : goal.returns
returns c = record { answer = counted_none max_points }
