use Rattle.std.proofs.Common.{◌≤◌, sym, subst, arith}
use Rattle.std.proofs.lemmas.List.{length-map}
use Rattle.elastic.specs.Marked.{marked_lots}
use Rattle.elastic.specs.Private.Points.{minutes_of}
use Rattle.elastic.specs.Private.Walks.{usable, Stands, state_at}
use Rattle.elastic.proofs.Entering.{minute}
use Rattle.elastic.proofs.Kept.{reached_rises, stands_beside}
use Rattle.elastic.proofs.profile.Profile.fresh_beside.Goals as goal

pub returns-clause-known : goal.returns-clause-known
returns-clause-known c = λ j h.
    let p = c.args.self.now in
    let us = minutes_of p.points.row in
    let Ω = marked_lots p.added p.table.lots.now in
    let inside : j ≤ p.fresh = omega (arith, h, c.passed_by.ensures.few) in
    let rises = reached_rises p.points.row p.profiles.gathers.rising j c.passed_by.result h (omega (arith, c.passed_by.ensures.few, p.some_fresh, p.within, length-map p.points.row minute)) in
    subst (λ n. Stands (usable p.table.capacity n c.args.beside.until) Ω us j (state_at p.states j)) (sym c.if-beside-last.false)
    (stands_beside p.table.capacity p.beside.trays p.beside.until c.args.beside.until Ω us j (state_at p.states j)
    (omega (arith, rises, c.passed_by.ensures.by, c.min.ensures))
    (omega (arith, rises, c.passed_by.ensures.by, c.min.ensures))
    (p.known j inside))
