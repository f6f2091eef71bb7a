use Rattle.std.proofs.Common.{ap}
use Rattle.std.specs.Cmp.{nat_cmp_total}
use Rattle.row.proofs.Rows.{nowhere}
use Rattle.elastic.proofs.Entering.{minute, place_found, never_lacking}
use Rattle.elastic.proofs.points.Points.place_of.Goals as goal

pub unreachable-requires : goal.unreachable-requires
unreachable-requires c =
    let seated = c.in-Placed.ensures.seated nat_cmp_total in
    let here = ap minute c.unchanging.ensures.answer in
    never_lacking c.args.self.now.row c.unchanging.result c.args.minute here c.requires.known (nowhere nat_cmp_total minute c.args.self.now.row _ _ seated.0 seated.1)

pub unreachable-requires-in-Full : goal.unreachable-requires-in-Full
unreachable-requires-in-Full c =
    let here = ap minute c.unchanging.ensures.answer in
    never_lacking c.args.self.now.row c.unchanging.result c.args.minute here c.requires.known (c.in-Full.ensures.seated nat_cmp_total)

pub returns-clause-place : goal.returns-clause-place
returns-clause-place c = place_found c.args.self.now.row c.unchanging.result c.args.minute (ap minute c.unchanging.ensures.answer) c.in-Present.i (c.in-Present.ensures.seated nat_cmp_total)
