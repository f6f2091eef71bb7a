use Rattle.std.proofs.Common.{arith}
use Rattle.tree.proofs.Loads.{end_in_week}
use Rattle.tree.proofs.node.Known.of.Goals as goal

pub overflow_cast-result : goal.overflow_cast-result
overflow_cast-result c =
    let table = c.args.table in
    omega (arith, end_in_week table.capacity table.lots.now table.lawful.each, c.last_end.ensures.answer)
