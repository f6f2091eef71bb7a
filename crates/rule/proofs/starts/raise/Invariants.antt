use Rattle.std.proofs.Common.{get_or}
use Rattle.rule.proofs.Raising.{RaisedUpTo, Changed}
use Rattle.rule.proofs.starts.raise.Given as goal

abbrev pub invariant-loop-number : goal.invariant-loop-number
invariant-loop-number l =
    RaisedUpTo (λ j. get_or l.bounds j 0) l.initial.lots l.lots l.number × Changed l.verdict l.initial.lots l.lots
