use Rattle.std.proofs.Common.{length, take, sym, ap, ◌∙◌, subst, arith}
use Rattle.std.specs.Cmp.{nat_cmp_total}
use Rattle.elastic.specs.Private.Points.{Rising}
use Rattle.elastic.proofs.Entering.{rising_same}
use Rattle.elastic.proofs.Profiles.{minutes_cleared, taken_cleared}
use Rattle.elastic.proofs.points.Points.clear.Goals as goal

pub invariant_of-row : goal.invariant_of-row
invariant_of-row c =
    let n = c.row.inside.len in
    let cells = c.row.inside.cells in
    let count = ap length (c.as_slice-count.ensures.row ∙ sym c.row.view_is) in
    let cleared = taken_cleared cells c.still.new.points _ n _ (omega (arith, c.row.invariant.0)) count c.still.ensures.after in
    (c.row.invariant.0, λ o. subst Rising (sym cleared) (rising_same _ _ (minutes_cleared (take n cells)) (c.row.invariant.1 nat_cmp_total)))
