use Rattle.std.proofs.Common.{◌≡◌, ℕ, ◌<◌, true, false, take}
use Rattle.elastic.specs.Added.{table_of}
use Rattle.rules.specs.Chosen.{is_overfull}
use Rattle.rules.specs.Overload.{due_lots}
use Rattle.rules.specs.Private.Ends.{end_at, end_minutes, DistinctEnds}
use Rattle.rules.proofs.Growing.{Holds}
use Rattle.rules.proofs.overload.some_overfull.Given as goal

abbrev pub invariant-loop-end : goal.invariant-loop-end
invariant-loop-end l = record {
  distinct : DistinctEnds l.table.lots.now l.end-items;
  table : table_of l.profile ≡ l.table;
  holds : Holds l.table.lots.now (λ k x. true) (end_minutes (take l.end-index l.end-items)) l.profile;
  none : (n : ℕ) → n < l.end-index → is_overfull l.table.capacity (due_lots (end_at l.end-items n).lct l.table.lots.now) ≡ false;
}
