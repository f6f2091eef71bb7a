use Rattle.std.proofs.Common.{◌<◌, length, sym, subst}
use Rattle.std.specs.Cmp.{nat_cmp_total}
use Rattle.elastic.specs.Private.Points.{max_points}
use Rattle.elastic.proofs.Entering.{entered_by_put, entered_by_alter, small_there}
use Rattle.elastic.proofs.points.Points.enter.Goals as goal

pub alter-requires : goal.alter-requires
alter-requires c =
    let put = c.in-Present.ensures.put in
    record {
      within = subst (λ ps. c.in-Present.i < length ps) (sym put.1) put.0;
      few = c.in-Present.ensures.few;
      small = small_there max_points _ _ c.args.change _ put _ c.requires.small;
      small_change = c.requires.small_change;
    }

pub returns-in-Placed : goal.returns-in-Placed
returns-in-Placed c = record {
  after =
      let told = c.in-Placed.ensures in
      entered_by_put max_points _ _ c.args.change _ told.put (told.seated nat_cmp_total) (told.ascends nat_cmp_total).1;
}

pub returns-in-Present : goal.returns-in-Present
returns-in-Present c = record {
  after =
      let told = c.in-Present.ensures in
      entered_by_alter max_points _ _ c.args.change _ told.put (told.seated nat_cmp_total) (told.ascends nat_cmp_total).0 _ c.alter.ensures.after;
}
