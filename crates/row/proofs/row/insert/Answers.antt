use Rattle.std.proofs.Common.{refl}
use Rattle.row.proofs.Inserts.{inserted_by_turn}
use Rattle.row.proofs.row.insert.Goals as goal

pub returns : goal.returns
returns g c = record { after = inserted_by_turn c.args.cells.now c.args.len c.args.i c.args.element c.requires.place.0 c.requires.place.1 _ _ refl c.rotate_right.ensures.after }
