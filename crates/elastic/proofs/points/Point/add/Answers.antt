use Rattle.std.proofs.Common.{ap₂, arith}
use Rattle.std.proofs.lemmas.Int.{ints}
use Rattle.elastic.proofs.points.Point.add.Goals as goal

pub returns : goal.returns
returns c = record { after = ap₂ (λ available required. record { minute = c.args.self.now.minute; available = available; required = required }) (omega (arith, ints)) (omega (arith, ints)) }
