use Rattle.std.proofs.Common.{subst, arith}
use Rattle.row.specs.Rows.{Ascending}
use Rattle.row.proofs.array_row.ArrayRow.put.Goals as goal

pub invariant_of-self : goal.invariant_of-self
invariant_of-self g c = (omega arith, λ o. c.put_among-place.ensures.ascends o (c.self.invariant.1 o))

pub returns-clause-seated : goal.returns-clause-seated
returns-clause-seated g c o = rw (← c.self.view_is) (c.put_among-place.ensures.seated o (c.self.invariant.1 o))

pub returns-clause-ascends : goal.returns-clause-ascends
returns-clause-ascends g c o =
    (subst (Ascending o g.E.Keyed.keyed) c.self.view_is (c.self.invariant.1 o), c.put_among-place.ensures.ascends o (c.self.invariant.1 o))
