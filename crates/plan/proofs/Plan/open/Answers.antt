use Rattle.std.proofs.Common.{Ok, Err, rules}
use Rattle.lots.specs.declared.Refusal.TheVariants.{Capacity}
use Rattle.plan.proofs.Histories.{open_follows, open_begins}
use Rattle.plan.proofs.Plan.open.Goals as goal

pub returns-then-capacity-eq0-clause-follows : goal.returns-then-capacity-eq0-clause-follows
returns-then-capacity-eq0-clause-follows c = open_follows c.args.capacity _ _ (Err Capacity) (search rules)

pub returns-clause-follows : goal.returns-clause-follows
returns-clause-follows c = open_follows c.args.capacity _ _ (Ok tt) (search rules)

pub returns-clause-begins : goal.returns-clause-begins
returns-clause-begins c = open_begins c.args.capacity c.args.self.now _ (Ok tt) (search rules)
