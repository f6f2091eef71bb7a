use Rattle.std.proofs.Common.{◌≡◌, take}
use Rattle.tree.specs.Tree.{earliest_starts}
use Rattle.tree.proofs.node.Known.of.Given as goal

abbrev pub invariant-loop-lot : goal.invariant-loop-lot
invariant-loop-lot l = l.starts.items ≡ earliest_starts (take l.lot-index l.table.lots.now)
