use Rattle.std.proofs.Common.{◌<◌, length, ◌∙◌, arith}
use Rattle.elastic.proofs.Marked.{marked_lots-all, marked_more}
use Rattle.elastic.proofs.profile.Profile.of.Goals as goal

pub loop-number-preserved : goal.loop-number-preserved
loop-number-preserved c =
    let so_far = c.loop-number.invariant in
    let here : c.loop-number.number < length c.loop-number.profile.table.lots.now = rw so_far.0 c.loop-number-test.true in
    (c.add.ensures.table ∙ so_far.0, marked_more _ _ _ _ here c.add.ensures.added so_far.1)

pub returns-clause-all : goal.returns-clause-all
returns-clause-all c = rw c.loop-number.invariant.0 (marked_lots-all _ _ (λ k h. c.loop-number.invariant.1 k (omega (arith, h))))
