use Rattle.std.proofs.Common.{Ok, arith}
use Rattle.std.proofs.lemmas.Grind.{common_steps}
use Rattle.plan.proofs.Histories.{narrow_follows}
use Rattle.plan.proofs.Tables.{narrowed_lawful}
use Rattle.lots.specs.Tables.{Table}
use Rattle.plan.proofs.Plan.narrow.Goals as goal

pub returns-in_err-place-clause-follows : goal.returns-in_err-place-clause-follows
returns-in_err-place-clause-follows c =
    narrow_follows c.args.lot c.args.from c.args.to _ _ c.from_residual.result (grind (arith, common_steps))

pub returns-in_err-tighter-clause-follows : goal.returns-in_err-tighter-clause-follows
returns-in_err-tighter-clause-follows c =
    narrow_follows c.args.lot c.args.from c.args.to _ _ c.from_residual-in_err-tighter.result (grind (arith, common_steps))

pub invariant_of-self-2 : goal.invariant_of-self-2
invariant_of-self-2 c =
    let table : Table = record { capacity = c.self.inside.capacity; lots = c.self.inside.lots.items } in
    narrowed_lawful c.args.lot c.args.from c.args.to table _ (grind (arith, common_steps)) c.self.invariant

pub returns-clause-follows : goal.returns-clause-follows
returns-clause-follows c =
    narrow_follows c.args.lot c.args.from c.args.to _ _ (Ok tt) (grind (arith, common_steps))
