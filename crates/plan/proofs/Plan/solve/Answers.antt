use Rattle.std.proofs.Common.{arith}
use Rattle.std.proofs.lemmas.Grind.{common_steps}
use Rattle.plan.proofs.Histories.{solve_follows, solve_promised}
use Rattle.plan.proofs.Plan.solve.Goals as goal

pub returns-clause-follows : goal.returns-clause-follows
returns-clause-follows g c =
    let sound = g.met.R.Rule.sound c.args.rule.now in
    solve_follows _ sound c.args.self.now c.args.budget c.args.trail.now c.solve.new.trail c.args.starts.now c.solve.new.starts c.solve.result (grind (arith, common_steps))

pub returns-clause-promised : goal.returns-clause-promised
returns-clause-promised g c =
    let sound = g.met.R.Rule.sound c.args.rule.now in
    solve_promised _ sound c.args.self.now c.args.budget c.args.trail.now c.solve.new.trail c.args.starts.now c.solve.new.starts c.solve.result (grind (arith, common_steps))
