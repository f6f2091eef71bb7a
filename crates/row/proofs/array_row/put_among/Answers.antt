use Rattle.std.proofs.Common.{take, sym, subst, rules}
use Rattle.row.specs.Rows.{Ascending, Seated}
use Rattle.row.proofs.Rows.{take_min, same_before}
use Rattle.row.proofs.array_row.put_among.Goals as goal

pub returns-clause-seated : goal.returns-clause-seated
returns-clause-seated g c o up =
    let before = same_before _ _ _ _ c.over-row.ensures.over.0 c.over-row.ensures.over.2 in
    subst (λ row. Seated o g.E.Keyed.keyed c.args.element row c.put-place.result) before
    (c.put-place.ensures.seated o (subst (Ascending o g.E.Keyed.keyed) (sym before) up))

pub returns-clause-ascends : goal.returns-clause-ascends
returns-clause-ascends g c o up =
    let before = same_before _ _ _ _ c.over-row.ensures.over.0 c.over-row.ensures.over.2 in
    let after = subst (Ascending o g.E.Keyed.keyed) (sym (take_min _ _ _ c.len.ensures.answer)) (c.put-place.ensures.ascends o (subst (Ascending o g.E.Keyed.keyed) (sym before) up)) in
    subst (λ cells. Ascending o g.E.Keyed.keyed (take c.len.result cells)) {x = c.put-place.new.self.cells.now} (search rules) after
