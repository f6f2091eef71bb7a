use Rattle.std.proofs.Common.{arith}
use Rattle.std.proofs.lemmas.Grind.{common_steps}
use Rattle.sheet.proofs.Reading.{at_end}
use Rattle.sheet.proofs.reader.Reader.is_at_end.Goals as goal

pub returns : goal.returns
returns c = record { answer = rw (← c.self.view_is) (grind (arith, common_steps), λ none. grind (arith, common_steps, at_end c.self.inside.at c.self.inside.sheet.now c.self.invariant none)) }
