use Rattle.sheet.proofs.desk.Desk.run.Goals as goal

pub returns-in-Machine-clause-ran : goal.returns-in-Machine-clause-ran
returns-in-Machine-clause-ran g c = rw c.in-Machine.is (c.open.ensures.answer (g.R.Rule.meaning c.args.rule.now) c.args.page.now)

pub returns-in-Name-clause-ran : goal.returns-in-Name-clause-ran
returns-in-Name-clause-ran g c = rw c.in-Name.is (c.name.ensures.answer (g.R.Rule.meaning c.args.rule.now) c.args.page.now)

pub returns-in-Lot-clause-ran : goal.returns-in-Lot-clause-ran
returns-in-Lot-clause-ran g c = rw c.in-Lot.is (c.admit.ensures.answer (g.R.Rule.meaning c.args.rule.now) c.in-Lot.number c.args.page.now)

pub returns-in-Narrow-clause-ran : goal.returns-in-Narrow-clause-ran
returns-in-Narrow-clause-ran g c = rw c.in-Narrow.is (c.narrow.ensures.ran (g.R.Rule.meaning c.args.rule.now))
