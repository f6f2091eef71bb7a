use Rattle.std.proofs.Common.{length, arith}
use Rattle.tree.proofs.Cells.{inside, pushed}
use Rattle.tree.proofs.trail.Trail.push.Goals as goal

pub returns-clause-pushed : goal.returns-clause-pushed
returns-clause-pushed c =
    let trail = c.args.self.now in
    let within = inside trail.table_len trail.depth (length trail.cells.now) c.requires.room trail.enough_cells in
    pushed trail.table_len trail.depth trail.cells.now _ _ _ (omega arith) c.copy_from_slice.ensures.after c.requires.len
