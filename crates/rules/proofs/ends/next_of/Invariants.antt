use Rattle.rules.specs.Private.Ends.{NoneBetween}
use Rattle.rules.proofs.ends.next_of.Given as goal

abbrev pub invariant-loop-other : goal.invariant-loop-other
invariant-loop-other l = NoneBetween l.lots l.number l.other
