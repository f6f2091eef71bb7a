use Rattle.row.proofs.array_row.ArrayRow.as_slice.Goals as goal

pub returns-clause-ascends : goal.returns-clause-ascends
returns-clause-ascends g c o = rw (← c.self.view_is) (c.self.invariant.1 o)
