use Rattle.sheet.proofs.Reading.{letter_taken}
use Rattle.sheet.proofs.reader.Reader.letter.Goals as goal

pub returns : goal.returns
returns c = record { answer = rw (← c.self.view_is, c.end-self-inside.ensures.answer) (letter_taken c.self.inside.sheet.now c.self.inside.at c.in_ok-token.token c.letter.result c.in_ok-token.ensures.answer c.letter.ensures.answer) }
