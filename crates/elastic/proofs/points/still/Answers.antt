use Rattle.std.proofs.Common.{◌<◌, length, set, ap, ◌∙◌, arith}
use Rattle.std.proofs.lemmas.List.Edits.{map_over_more}
use Rattle.std.proofs.lemmas.List.{get_or_default}
use Rattle.elastic.specs.Private.Points.{unchanging_point}
use Rattle.elastic.proofs.points.still.Goals as goal

pub loop-point-preserved : goal.loop-point-preserved
loop-point-preserved c =
    let h : c.loop-point.point-index < length c.loop-point.points = omega arith in
    ap (set c.loop-point.points c.loop-point.point-index) c.unchanging.ensures.answer
    ∙ map_over_more unchanging_point c.args.points.now c.loop-point.points _ _ c.loop-point-test.true c.loop-point.invariant (get_or_default _ _ _ _ h)
