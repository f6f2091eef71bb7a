use Rattle.std.proofs.Common.{◌≡◌, ℕ, ◌<◌, length, get_or}
use Rattle.lots.specs.Limits.{max_lots}
use Rattle.rules.specs.TimeTable.{bound_of}
use Rattle.rules.proofs.time_table.Loads.bounds.Given as goal

abbrev pub invariant-loop-number : goal.invariant-loop-number
invariant-loop-number l = (length l.bounds ≡ max_lots) × ((j : ℕ) → j < l.number → get_or l.bounds j 0 ≡ bound_of l.self.table.capacity l.self.table.lots.now j)
