use Rattle.std.proofs.Common.{arith}
use Rattle.tree.proofs.Loads.{least_first, load_before}
use Rattle.tree.proofs.Ways.{to_the_end}
use Rattle.tree.proofs.load.is_within.Goals as goal

pub loop-minute-init : goal.loop-minute-init
loop-minute-init c =
    let T = c.args.table.lots.now in
    let s = c.first_start-minute.result in
    λ t h. omega (arith, load_before t s T (least_first T s c.first_start-minute.ensures.answer) h)

pub returns-after-loop-minute : goal.returns-after-loop-minute
returns-after-loop-minute c = record { answer = to_the_end c.args.table.capacity c.args.table.lots.now _ (λ t h. c.loop-minute.invariant t (omega arith)) }
