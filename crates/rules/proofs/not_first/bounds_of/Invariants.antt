use Rattle.std.proofs.Common.{◌≡◌, ℕ, ◌<◌, length, get_or}
use Rattle.lots.specs.Limits.{max_lots}
use Rattle.elastic.specs.Added.{table_of}
use Rattle.rules.specs.NotFirst.{greatest_bound}
use Rattle.rules.proofs.not_first.bounds_of.Given as goal

abbrev pub invariant-loop-number : goal.invariant-loop-number
invariant-loop-number l =
    (length l.bounds ≡ max_lots) × (table_of l.profile ≡ l.table)
    × ((k : ℕ) → k < l.number → get_or l.bounds k 0 ≡ greatest_bound l.table.capacity l.table.lots.now k (length l.table.lots.now))
