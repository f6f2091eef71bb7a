use Rattle.std.proofs.Common.{sym, subst, arith}
use Rattle.elastic.specs.Private.Points.{Profiles}
use Rattle.elastic.proofs.Held.{added, course}
use Rattle.elastic.proofs.profile.Profile.most_required.Goals as goal

pub most_required-requires : goal.most_required-requires
most_required-requires c =
    let p = c.args.self.now in
    let along = course p 0 (omega arith) in
    record { profile = (p.table.lots.now, added p, along.lots, subst (λ ps. Profiles ps p.table.lots.now (added p)) (sym c.as_slice.ensures.points) along.profiles) }

pub returns : goal.returns
returns c =
    let p = c.args.self.now in
    let along = course p 0 (omega arith) in
    record { greatest = c.most_required.ensures.greatest _ _ along.lots (subst (λ ps. Profiles ps p.table.lots.now (added p)) (sym c.as_slice.ensures.points) along.profiles) }
