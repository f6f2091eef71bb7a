use Rattle.std.proofs.Common.{◌≤◌, mul-le-mul, arith}
use Rattle.lots.specs.Limits.{horizon}
use Rattle.elastic.proofs.walk.State.left_after.Goals as goal

pub overflow_add-left : goal.overflow_add-left
overflow_add-left c =
    let short : c.from-span.result ≤ horizon = omega arith in
    omega (arith, mul-le-mul short c.requires.required_few)
