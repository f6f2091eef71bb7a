use Rattle.std.proofs.Common.{◌≡◌, ◌<◌, length, set, ap, ◌∙◌, subst, arith}
use Rattle.std.proofs.lemmas.Grind.{common_steps}
use Rattle.std.proofs.lemmas.List.Edits.{map_over_more}
use Rattle.std.proofs.ByRecursion.{All-get_or}
use Rattle.std.proofs.lemmas.List.{get_or_default}
use Rattle.lots.specs.Tables.{lot_at}
use Rattle.rule.specs.Turned.{turn}
use Rattle.rule.specs.Private.Week.{InWeek}
use Rattle.rule.proofs.turned.turn.Goals as goal

pub turn_lot-requires : goal.turn_lot-requires
turn_lot-requires c =
    let not_yet : lot_at c.args.lots.now c.loop-lot.lot-index ≡ lot_at c.loop-lot.lots c.loop-lot.lot-index = grind (arith, common_steps) in
    record { in_week = subst InWeek not_yet (All-get_or InWeek _ _ _ c.loop-lot-test.true c.requires.in_week) }

pub loop-lot-preserved : goal.loop-lot-preserved
loop-lot-preserved c =
    let h : c.loop-lot.lot-index < length c.loop-lot.lots = omega arith in
    ap (set c.loop-lot.lots c.loop-lot.lot-index) c.turn_lot.ensures.answer
    ∙ map_over_more turn c.args.lots.now c.loop-lot.lots _ _ c.loop-lot-test.true c.loop-lot.invariant (get_or_default _ _ _ _ h)
