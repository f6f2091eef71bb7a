use Rattle.tree.proofs.Picks.{Pick}
use Rattle.tree.proofs.node.branch_lot.Given as goal

abbrev pub invariant-loop-number : goal.invariant-loop-number
invariant-loop-number l = Pick l.lots l.number l.pick
