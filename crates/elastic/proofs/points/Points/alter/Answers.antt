use Rattle.std.proofs.Common.{◌<◌, length, take}
use Rattle.std.specs.Cmp.{nat_cmp_total}
use Rattle.elastic.proofs.Entering.{taken_altered, rising_altered}
use Rattle.elastic.proofs.points.Points.alter.Goals as goal

pub invariant_of-row : goal.invariant_of-row
invariant_of-row c =
    let within : c.args.i < length (take c.row.inside.len c.row.inside.cells) = rw c.row.view_is c.requires.within in
    (c.row.invariant.0, λ o. rw c.add.ensures.after (rising_altered _ _ _ c.args.change within (c.row.invariant.1 nat_cmp_total)))

pub returns : goal.returns
returns c = record {
  after =
      let within : c.args.i < length (take c.row.inside.len c.row.inside.cells) = rw c.row.view_is c.requires.within in
      rw (c.add.ensures.after, ← c.row.view_is) (taken_altered _ _ _ c.args.change within);
}
