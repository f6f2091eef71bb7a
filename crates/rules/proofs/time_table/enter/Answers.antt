use Rattle.std.proofs.Common.{◌≡◌, ◌+◌, min, max, length, get_or, refl, ap, ◌∙◌, arith, rules}
use Rattle.std.proofs.lemmas.Bool.Decides.{nat_tests}
use Rattle.std.proofs.lemmas.Grind.{common_steps}
use Rattle.std.proofs.lemmas.List.{get_or-replicate, length-set}
use Rattle.lots.specs.Limits.{horizon}
use Rattle.rules.specs.Private.Changes.{trays_begun, trays_ended}
use Rattle.rules.proofs.Loads.{lot_lawful, sum_more, fixed_more, begun_few, ended_few}
use Rattle.rules.proofs.time_table.enter.Goals as goal
use Rattle.rules.proofs.time_table.enter.Goals.{then-start-end, else-start-end}

pub loop-lot-init : goal.loop-lot-init
loop-lot-init c = record {
  begun_minutes = c.told-begun;
  ended_minutes = c.told-ended;
  begun = λ t h. ap (λ xs. get_or xs t 0) c.requires.begun_blank ∙ get_or-replicate horizon t 0 0 h;
  ended = λ t h. ap (λ xs. get_or xs t 0) c.requires.ended_blank ∙ get_or-replicate (horizon + 1) t 0 0 h;
  before = λ t h. refl;
  after = λ t h. refl;
  week = (omega arith, omega arith);
}

pub overflow_add-begun : goal.overflow_add-begun
overflow_add-begun c =
    let ok = lot_lawful c.args.table c.loop-lot.lot-index c.loop-lot-test.true in
    let t = c.from-start.result in
    let now = c.loop-lot.invariant.begun t (omega (arith, ok.has_time, ok.in_week)) in
    omega (arith, ok.has_trays, c.args.table.lawful.few_trays, now, begun_few c.args.table c.loop-lot.lot-index t)

pub overflow_add-ended : goal.overflow_add-ended
overflow_add-ended c =
    let ok = lot_lawful c.args.table c.loop-lot.lot-index c.loop-lot-test.true in
    let t = c.ect-end.result in
    let now = c.loop-lot.invariant.ended t (omega (arith, ok.has_time, ok.in_week)) in
    omega (arith, ok.has_trays, c.args.table.lawful.few_trays, now, ended_few c.args.table c.loop-lot.lot-index t)

pub loop-lot-preserved : goal.loop-lot-preserved
loop-lot-preserved c =
    let T = c.args.table.lots.now in
    let i = c.loop-lot.lot-index in
    let h = c.loop-lot-test.true in
    let ok = lot_lawful c.args.table i h in
    elim c.if-start-end.branch [
      | then-start-end w ↦
          let first : c.if-start-end.first ≡ min c.loop-lot.first c.from-start.result = search rules in
          let last : c.if-start-end.last ≡ max c.loop-lot.last c.ect-end.result = search rules in
          record {
            begun_minutes = ap length w.begun-is ∙ length-set _ _ _ ∙ c.loop-lot.invariant.begun_minutes;
            ended_minutes = ap length w.ended-is ∙ length-set _ _ _ ∙ c.loop-lot.invariant.ended_minutes;
            begun = λ t k. grind (arith, common_steps, nat_tests, w.begun-is, c.loop-lot.invariant.begun t k, sum_more (trays_begun t) T i h);
            ended = λ t k. grind (arith, common_steps, nat_tests, w.ended-is, c.loop-lot.invariant.ended t k, sum_more (trays_ended t) T i h);
            before = λ t k. grind (arith, nat_tests, first, c.loop-lot.invariant.before t (omega (arith, first)), fixed_more T i t h);
            after = λ t k. grind (arith, nat_tests, last, c.loop-lot.invariant.after t (omega (arith, last)), fixed_more T i t h);
            week = (omega (arith, first, c.loop-lot.invariant.week), omega (arith, last, c.loop-lot.invariant.week, ok.has_time, ok.in_week));
          }
      | else-start-end w ↦ record {
        begun_minutes = ap length w.begun-is ∙ c.loop-lot.invariant.begun_minutes;
        ended_minutes = ap length w.ended-is ∙ c.loop-lot.invariant.ended_minutes;
        begun = λ t k. grind (arith, nat_tests, w.begun-is, c.loop-lot.invariant.begun t k, sum_more (trays_begun t) T i h);
        ended = λ t k. grind (arith, nat_tests, w.ended-is, c.loop-lot.invariant.ended t k, sum_more (trays_ended t) T i h);
        before = λ t k. grind (arith, nat_tests, w.first-is, c.loop-lot.invariant.before t (omega (arith, w.first-is)), fixed_more T i t h);
        after = λ t k. grind (arith, nat_tests, w.last-is, c.loop-lot.invariant.after t (omega (arith, w.last-is)), fixed_more T i t h);
        week = (omega (arith, w.first-is, c.loop-lot.invariant.week), omega (arith, w.last-is, c.loop-lot.invariant.week));
      }
    ]
