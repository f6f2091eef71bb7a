use Rattle.std.proofs.Common.{length, sym, ap, ◌∙◌, subst, arith}
use Rattle.std.proofs.lemmas.List.{take_at, length-take-le}
use Rattle.lots.specs.Schedules.{BestSchedule}
use Rattle.tree.proofs.Tells.{few_nodes, unknown_hopeless, found_best, found_length}
use Rattle.tree.proofs.explore.solve.Goals as goal

pub returns-then-open-clause-short : goal.returns-then-open-clause-short
returns-then-open-clause-short g c =
    let s = rw c.if-open.true at c.explore-best.ensures.answer in
    few_nodes _ (g.met.R.Rule.sound c.args.rule.now) _ _ c.args.table.lawful s.0 s.1 _ (omega (arith, s.2))

pub returns-in_default-clause-short : goal.returns-in_default-clause-short
returns-in_default-clause-short g c =
    let s = rw (c.if-open.false, c.in_default.is) at c.explore-best.ensures.answer in
    few_nodes _ (g.met.R.Rule.sound c.args.rule.now) _ _ c.args.table.lawful s.0 s.1 _ (omega (arith, s.2))

pub returns-in_default-clause-right : goal.returns-in_default-clause-right
returns-in_default-clause-right g c =
    let s = rw (c.if-open.false, c.in_default.is) at c.explore-best.ensures.answer in
    unknown_hopeless _ (g.met.R.Rule.sound c.args.rule.now) _ _ c.args.table.lawful s.0 s.1 s.2.2

pub copy_from_slice-requires : goal.copy_from_slice-requires
copy_from_slice-requires g c =
    let s = rw (c.if-open.false, c.in-Some.is) at c.explore-best.ensures.answer in
    length-take-le _ c.args.starts.now (omega arith)
    ∙ sym (found_length _ (g.met.R.Rule.sound c.args.rule.now) _ _ c.args.table.lawful s.0 s.1 _ _ s.2.2)
    ∙ sym (ap length c.as_slice.ensures.value)

pub returns-clause-short : goal.returns-clause-short
returns-clause-short g c =
    let s = rw (c.if-open.false, c.in-Some.is) at c.explore-best.ensures.answer in
    few_nodes _ (g.met.R.Rule.sound c.args.rule.now) _ _ c.args.table.lawful s.0 s.1 _ (omega (arith, s.2))

pub returns-clause-right : goal.returns-clause-right
returns-clause-right g c =
    let s = rw (c.if-open.false, c.in-Some.is) at c.explore-best.ensures.answer in
    let table = c.args.table in
    let copied = c.copy_from_slice.ensures.after ∙ c.as_slice.ensures.value in
    let len = ap length copied ∙ found_length _ (g.met.R.Rule.sound c.args.rule.now) _ _ table.lawful s.0 s.1 _ _ s.2.2 in
    subst (BestSchedule table.capacity table.lots.now c.in-Some.schedule.end) (sym (take_at _ _ _ len ∙ copied))
    (found_best _ (g.met.R.Rule.sound c.args.rule.now) _ _ table.lawful s.0 s.1 _ _ s.2.2)
