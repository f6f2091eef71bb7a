use Rattle.std.proofs.Common.{◌≡◌, ℕ, ◌+◌, ◌<◌, ◌≤◌, drop}
use Rattle.lots.specs.Schedules.{load}
use Rattle.tree.specs.Tree.{earliest_starts}
use Rattle.tree.proofs.load.is_within.Given as goal

abbrev pub invariant-loop-lot : goal.invariant-loop-lot
invariant-loop-lot l =
    let T = l.table.lots.now in record {
      rest : l.load + load l.minute (drop l.lot-index T) (earliest_starts (drop l.lot-index T)) ≡ load l.minute T (earliest_starts T);
      within : l.load ≤ l.table.capacity;
    }

abbrev pub invariant-loop-minute : goal.invariant-loop-minute
invariant-loop-minute l = (t : ℕ) → t < l.minute → load t l.table.lots.now (earliest_starts l.table.lots.now) ≤ l.table.capacity
