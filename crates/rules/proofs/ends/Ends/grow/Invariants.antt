use Rattle.std.proofs.Common.{◌≡◌, ℕ, ◌-◌, ◌<◌, Bool, length}
use Rattle.lots.specs.Tables.{lot_at}
use Rattle.lots.specs.declared.Lot.{Lot}
use Rattle.elastic.specs.Added.{table_of}
use Rattle.rules.specs.Private.Tests.{Tests}
use Rattle.rules.proofs.EndChains.{Growing}
use Rattle.rules.proofs.ends.Ends.grow.Given as goal

abbrev pub invariant-loop-number : goal.invariant-loop-number
invariant-loop-number g l = record {
  table : table_of l.profile ≡ l.self.table;
  on_chain : l.number < length l.self.table.lots.now → (lot_at l.self.table.lots.now l.number).lct ≡ l.fn.end.lct;
  growing : (p : ℕ → Lot → Bool) → Tests (goal.F-post g l.test) p → Growing l.self.table.lots.now p l.fn.end.lct l.number l.fn.profile l.profile l.any;
}

abbrev pub decreases-loop-number : goal.decreases-loop-number
decreases-loop-number g l = length l.self.table.lots.now - l.number
