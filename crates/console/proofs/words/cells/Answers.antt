use Rattle.std.proofs.Common.{[], append-nil}
use Rattle.console.proofs.words.cells.Goals as goal

pub returns : goal.returns
returns c = record { answer = rw append-nil at (c.loop-word.invariant.reads [] (rw c.in-None.ensures.steps.0 tt)) }
