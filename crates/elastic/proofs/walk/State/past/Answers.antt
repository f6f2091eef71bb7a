use Rattle.std.proofs.Common.{refl, ap, arith}
use Rattle.std.proofs.lemmas.Int.{ints}
use Rattle.elastic.specs.declared.points.Point.{Point}
use Rattle.elastic.proofs.Walks.{counts, bounds, stands_past}
use Rattle.elastic.proofs.walk.State.past.Goals as goal

pub changed-requires : goal.changed-requires
changed-requires c =
    let w = c.requires.walk.4 in
    let n = counts _ _ _ _ _ _ _ _ _ w c.requires.walk.5 in
    let b = bounds _ _ _ _ _ _ _ _ _ w (ap (λ (p : Point). p.minute) c.requires.walk.5) in
    record { trays_few = b.available_few; not_below = omega (arith, ints, n.available, n.available_few); not_above = omega (arith, ints, n.available, n.available_few) }

pub changed-requires-2 : goal.changed-requires-2
changed-requires-2 c =
    let w = c.requires.walk.4 in
    let n = counts _ _ _ _ _ _ _ _ _ w c.requires.walk.5 in
    let b = bounds _ _ _ _ _ _ _ _ _ w (ap (λ (p : Point). p.minute) c.requires.walk.5) in
    record { trays_few = b.required_few; not_below = omega (arith, ints, n.required, n.required_few); not_above = omega (arith, ints, n.required, n.required_few) }

pub returns : goal.returns
returns c = record {
  answer = λ T Ω ps j w e.
      stands_past _ _ _ T Ω ps j _ c.args.point w e (record { minute = c.args.point.minute; available = c.changed.result; required = c.changed-2.result; left = c.left_by.result }) refl
      (omega (arith, ints, c.changed.ensures.answer, (counts _ _ _ T Ω ps j _ _ w e).available))
      (omega (arith, ints, c.changed-2.ensures.answer, (counts _ _ _ T Ω ps j _ _ w e).required))
      (c.left_by.ensures.answer T Ω ps j w (ap (λ (p : Point). p.minute) e));
}
