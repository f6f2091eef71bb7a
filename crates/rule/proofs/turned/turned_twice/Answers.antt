use Rattle.std.proofs.Common.{refl}
use Rattle.rule.proofs.Turning.{turned_twice}
use Rattle.rule.proofs.turned.turned_twice.Goals as goal

pub returns : goal.returns
returns g c = record { alike = (refl, turned_twice _ (g.met.X.Rule.sound c.args.rule)) }
