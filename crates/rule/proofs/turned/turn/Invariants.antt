use Rattle.std.proofs.Common.{◌≡◌, ◌++◌, map, take, drop}
use Rattle.rule.specs.Turned.{turn}
use Rattle.rule.proofs.turned.turn.Given as goal

abbrev pub invariant-loop-lot : goal.invariant-loop-lot
invariant-loop-lot l = l.lots ≡ map turn (take l.lot-index l.initial.lots) ++ drop l.lot-index l.initial.lots
