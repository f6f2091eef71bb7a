use Rattle.sheet.proofs.Reading.{name_taken}
use Rattle.sheet.proofs.reader.Reader.name.Goals as goal

pub returns : goal.returns
returns c = record { answer = rw (← c.self.view_is, c.end-self-inside.ensures.answer) (name_taken c.self.inside.sheet.now c.self.inside.at c.in_ok-token.token c.called.result c.in_ok-token.ensures.answer c.called.ensures.answer) }
