use Rattle.sheet.proofs.Reading.{number_taken}
use Rattle.sheet.proofs.reader.Reader.number.Goals as goal

pub returns : goal.returns
returns c = record { answer = rw (← c.self.view_is, c.end-self-inside.ensures.answer) (number_taken c.self.inside.sheet.now c.self.inside.at c.in_ok-token.token c.value.result c.in_ok-token.ensures.answer c.value.ensures.answer) }
