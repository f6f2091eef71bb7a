use Rattle.std.proofs.Common.{◌+◌, ◌*◌, ◌≤◌}
use Rattle.lots.specs.Limits.{horizon, max_lots}
use Rattle.lots.specs.Tables.{Lawful}
use Rattle.rule.specs.Settled.{Moves, slack}
use Rattle.rule.proofs.fixpoint.settle.Given as goal

abbrev pub invariant-loop-moves : goal.invariant-loop-moves
invariant-loop-moves g l = record {
  lawful_before : Lawful l.capacity l.initial.lots;
  lawful : Lawful l.capacity l.lots;
  moved : Moves (g.R.Rule.meaning l.rule) l.capacity l.initial.lots l.moves l.lots;
  room : l.moves + slack l.lots ≤ slack l.initial.lots;
  most : slack l.initial.lots ≤ horizon * max_lots;
}

abbrev pub decreases-loop-moves : goal.decreases-loop-moves
decreases-loop-moves g l = slack l.lots
