use Rattle.std.proofs.Common.{sym, subst}
use Rattle.std.specs.Cmp.{nat_cmp_total}
use Rattle.rules.proofs.EndRows.{SoFar, so_far_none, so_far_more, ends_from_so_far}
use Rattle.rules.proofs.ends.distinct_ends.Goals as goal

pub loop-number-init : goal.loop-number-init
loop-number-init c = subst (SoFar c.args.table.lots.now 0) (sym c.new-ends.ensures.empty) (so_far_none c.args.table.lots.now)

pub loop-number-preserved : goal.loop-number-preserved
loop-number-preserved c =
    let told = c.put.ensures in
    so_far_more _ _ c.loop-number-test.true _ c.loop-number.invariant _ (told.ascends nat_cmp_total).1 c.args.table.lawful.few_lots _ told.put (told.seated nat_cmp_total)

pub returns : goal.returns
returns c = record { answer = ends_from_so_far _ _ _ c.loop-number-test.false c.loop-number.invariant }
