use Rattle.std.proofs.Common.{◌≤◌, [], length, append-nil, arith}
use Rattle.std.proofs.lemmas.List.{take_all}
use Rattle.console.proofs.words.numbers.Goals as goal

pub returns-in-None : goal.returns-in-None
returns-in-None g c = record {
  answer =
      let full : length c.loop-slot.slot-items ≤ c.loop-slot.slot-index = omega arith in
      (c.loop-slot.invariant.count, rw (append-nil, take_all c.loop-slot.slot-index c.loop-slot.slot-items full) at (c.loop-slot.invariant.reads [] (rw c.in-None.ensures.steps.0 tt)));
}
