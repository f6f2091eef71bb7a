use Rattle.std.proofs.Common.{◌≡◌, ℕ, ◌≤◌, Bool, length, take}
use Rattle.lots.specs.declared.Lot.{Lot}
use Rattle.rules.specs.Chosen.{chosen_lots}
use Rattle.rules.specs.Private.Tests.{Tests}
use Rattle.rules.proofs.chosen.chosen.Given as goal

abbrev pub invariant-loop-number : goal.invariant-loop-number
invariant-loop-number g l =
    (length l.chosen.items ≤ l.number)
    × ((p : ℕ → Lot → Bool) → Tests (goal.F-post g l.test) p → l.chosen.items ≡ chosen_lots p 0 (take l.number l.table.lots.now))
