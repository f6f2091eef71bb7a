use Rattle.std.proofs.Common.{◌≡◌, ◌+◌, suc, ap, add-one, arith}
use Rattle.std.proofs.lemmas.Int.{ints}
use Rattle.elastic.specs.Profile.{creq}
use Rattle.elastic.specs.Private.Points.{minutes_of}
use Rattle.elastic.specs.Private.Walks.{count_reached}
use Rattle.elastic.proofs.Required.{most_start, most_more, most_all, next_required, required_few}
use Rattle.elastic.proofs.walk.most_required.Goals as goal

pub loop-point-init : goal.loop-point-init
loop-point-init c = λ T Ω ok p. most_start Ω _

pub changed-required-requires : goal.changed-required-requires
changed-required-requires c =
    let ok = c.requires.profile.2 in
    let p = c.requires.profile.3 in
    let here = (c.loop-point.invariant _ _ ok p).now in
    let next = next_required _ _ _ ok p c.loop-point.point-index c.loop-point-test.true in
    let few = required_few _ _ _ ok p c.loop-point.point-index in
    let few' = required_few _ _ _ ok p (suc c.loop-point.point-index) in
    record { trays_few = omega (arith, here, few); not_below = omega (arith, ints, here, next, few'); not_above = omega (arith, ints, here, next, few') }

pub loop-point-preserved : goal.loop-point-preserved
loop-point-preserved c = λ T Ω ok p.
    let so_far = c.loop-point.invariant T Ω ok p in
    let us = minutes_of c.args.points.now in
    let next = next_required T Ω c.args.points.now ok p c.loop-point.point-index c.loop-point-test.true in
    let few = required_few T Ω c.args.points.now ok p c.loop-point.point-index in
    let few' = required_few T Ω c.args.points.now ok p (suc c.loop-point.point-index) in
    let is : c.changed-required.result ≡ count_reached (creq Ω) us (c.loop-point.point-index + 1) = omega (arith, ints, c.changed-required.ensures.answer, so_far.now, next, few, few', ap (count_reached (creq Ω) us) (add-one c.loop-point.point-index)) in
    most_more Ω us _ _ _ _ _ so_far is c.max-most.ensures

pub returns : goal.returns
returns c = record { greatest = λ T Ω ok p. most_all T Ω c.args.points.now ok p _ _ _ c.loop-point-test.false (c.loop-point.invariant T Ω ok p) }
