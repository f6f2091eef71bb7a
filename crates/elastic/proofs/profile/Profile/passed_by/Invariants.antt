use Rattle.std.proofs.Common.{ℕ, ◌<◌, ◌≤◌}
use Rattle.elastic.specs.Private.Points.{minutes_of}
use Rattle.elastic.specs.Private.Walks.{reached}
use Rattle.elastic.proofs.profile.Profile.passed_by.Given as goal

abbrev pub invariant-loop-passed : goal.invariant-loop-passed
invariant-loop-passed l = record {
  few : l.passed ≤ l.self.fresh;
  no_more : (j : ℕ) → l.passed < j → j ≤ l.self.fresh → l.minute < reached (minutes_of l.self.points.row) j;
}

abbrev pub decreases-loop-passed : goal.decreases-loop-passed
decreases-loop-passed l = l.passed
