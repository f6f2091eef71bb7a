use Rattle.std.proofs.Common.{refl}
use Rattle.elastic.proofs.Kept.{overflow_passed}
use Rattle.elastic.proofs.walk.left_over.Goals as goal

pub loop-point-preserved : goal.loop-point-preserved
loop-point-preserved c = λ T w.
    let told = c.past-state.ensures.answer T T c.args.points.now c.loop-point.point-index in
    let alone = rw (c.default.ensures.0, c.default.ensures.1) at told in
    alone (record { course = w; ahead = c.loop-point-test.true; stands = c.loop-point.invariant T w }) refl

pub returns : goal.returns
returns c = record { answer = λ T w. overflow_passed c.args.capacity T c.args.points.now c.loop-point.point-index c.loop-point.state w c.loop-point-test.false c.loop-point.auto.point-index-end (c.loop-point.invariant T w) }
