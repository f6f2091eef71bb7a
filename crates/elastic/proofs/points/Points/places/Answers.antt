use Rattle.lots.proofs.Tables.{lawful_under_most}
use Rattle.std.proofs.ByRecursion.{All-get_or}
use Rattle.elastic.proofs.Profiles.{knows_gathered}
use Rattle.elastic.proofs.points.Points.places.Goals as goal

pub places_of-requires : goal.places_of-requires
places_of-requires c =
    let known = knows_gathered _ _ c.requires.gathers _ c.loop-number-test.true in
    record {
      lawful = All-get_or _ _ _ _ c.loop-number-test.true (lawful_under_most _ _ c.args.table.lawful).each;
      known = rw c.loop-number.invariant.same known;
    }
