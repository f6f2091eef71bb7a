use Rattle.plan.specs.History.{new}
use Rattle.plan.proofs.Plan.new.Goals as goal

pub returns-clause-begins : goal.returns-clause-begins
returns-clause-begins c = rw c.new.ensures new
