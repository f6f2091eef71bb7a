use Rattle.std.proofs.Common.{Ok, arith}
use Rattle.std.proofs.lemmas.Grind.{common_steps}
use Rattle.plan.proofs.Histories.{admit_follows}
use Rattle.plan.proofs.Tables.{admitted_lawful}
use Rattle.lots.specs.Tables.{Table}
use Rattle.plan.proofs.Plan.admit.Goals as goal

pub returns-in_err-admission-clause-follows : goal.returns-in_err-admission-clause-follows
returns-in_err-admission-clause-follows c = admit_follows c.args.lot _ _ c.from_residual.result (grind (arith, common_steps))

pub invariant_of-self : goal.invariant_of-self
invariant_of-self c =
    let table : Table = record { capacity = c.self.inside.capacity; lots = c.self.inside.lots.items } in
    admitted_lawful c.args.lot table _ c.len-number.result (grind (arith, common_steps)) c.self.invariant

pub returns-clause-follows : goal.returns-clause-follows
returns-clause-follows c = admit_follows c.args.lot _ _ (Ok c.len-number.result) (grind (arith, common_steps))
