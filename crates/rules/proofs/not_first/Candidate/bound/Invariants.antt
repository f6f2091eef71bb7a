use Rattle.std.proofs.Common.{◌≡◌, take}
use Rattle.elastic.specs.Added.{table_of}
use Rattle.rules.specs.Private.Candidates.{own_table, lots_of, is_in_cuts}
use Rattle.rules.specs.Private.Ends.{end_minutes, DistinctEnds}
use Rattle.rules.proofs.Bounds.{greatest_end_bound}
use Rattle.rules.proofs.Growing.{Holds}
use Rattle.rules.proofs.not_first.Candidate.bound.Given as goal

abbrev pub invariant-loop-end : goal.invariant-loop-end
invariant-loop-end l = record {
  distinct : DistinctEnds (lots_of l.self) l.end-items;
  table : table_of l.profile ≡ own_table l.self;
  holds : Holds (lots_of l.self) (is_in_cuts l.self) (end_minutes (take l.end-index l.end-items)) l.profile;
  greatest : l.bound ≡ greatest_end_bound (own_table l.self).capacity (lots_of l.self) l.self.number (end_minutes (take l.end-index l.end-items));
}
