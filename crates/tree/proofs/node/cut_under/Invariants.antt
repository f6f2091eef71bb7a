use Rattle.std.proofs.Common.{◌≡◌, ◌++◌, map, take, drop}
use Rattle.tree.specs.Tree.{lot_out_by}
use Rattle.tree.proofs.node.cut_under.Given as goal

abbrev pub invariant-loop-lot : goal.invariant-loop-lot
invariant-loop-lot l = l.lots ≡ map (lot_out_by l.last) (take l.lot-index l.initial.lots) ++ drop l.lot-index l.initial.lots
