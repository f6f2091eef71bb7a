use Rattle.std.proofs.Common.{length, sym, ap, ◌∙◌, subst, arith}
use Rattle.elastic.specs.Private.Walks.{Course}
use Rattle.elastic.proofs.Counts.{points_few}
use Rattle.elastic.proofs.Kept.{whole_course}
use Rattle.elastic.proofs.Soundness.{overflow_of_schedulable}
use Rattle.elastic.proofs.overflow_of.Goals as goal

pub left_over-requires : goal.left_over-requires
left_over-requires c =
    let T = c.args.table.lots.now in
    record { course = (T, subst (Course c.args.table.capacity 0 T T) (sym c.as_slice-points.ensures.points) (whole_course c.args.table c.of-points.result.row c.of-points.ensures.profiles)) }

pub returns : goal.returns
returns c =
    let T = c.args.table.lots.now in
    let course = subst (Course c.args.table.capacity 0 T T) (sym c.as_slice-points.ensures.points) (whole_course c.args.table c.of-points.result.row c.of-points.ensures.profiles) in
    let left = c.left_over.ensures.answer T course in
    let count = ap length c.as_slice-points.ensures.points ∙ c.of-points.ensures.profiles.gathers.count in
    record {
      answer = (c.args.table.lawful, left, count);
      points = omega (arith, count, points_few T);
      none_if_schedulable = λ ss s. left ∙ overflow_of_schedulable _ _ ss s;
    }
