use Rattle.rules.proofs.EndRows.{SoFar}
use Rattle.rules.proofs.ends.distinct_ends.Given as goal

abbrev pub invariant-loop-number : goal.invariant-loop-number
invariant-loop-number l = SoFar l.table.lots.now l.number l.ends
