use Rattle.plan.proofs.Histories.{promise}
use Rattle.plan.proofs.promise.plans_answer_to_their_books.Goals as goal

pub returns : goal.returns
returns c = record { promise = promise }
