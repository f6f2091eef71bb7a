use Rattle.std.proofs.Common.{◌≡◌, ℕ, ◌<◌, true, length, get_or, take}
use Rattle.lots.specs.Limits.{max_lots}
use Rattle.elastic.specs.Added.{table_of}
use Rattle.elastic.specs.Profile.{creq, IsGreatest}
use Rattle.rules.specs.Overload.{due_lots}
use Rattle.rules.specs.Private.Ends.{end_minutes, end_at, DistinctEnds}
use Rattle.rules.proofs.Growing.{Holds}
use Rattle.rules.proofs.ends.Ends.requirements.Given as goal

abbrev pub invariant-loop-end : goal.invariant-loop-end
invariant-loop-end l = record {
  distinct : DistinctEnds l.self.table.lots.now l.end-items;
  table : table_of l.profile ≡ l.self.table;
  holds : Holds l.self.table.lots.now (λ k x. true) (end_minutes (take l.end-index l.end-items)) l.profile;
  long : length l.most ≡ max_lots;
  so_far : (n : ℕ) → n < l.end-index → IsGreatest (creq (due_lots (end_at l.end-items n).lct l.self.table.lots.now)) (get_or l.most (end_at l.end-items n).lot 0);
}
