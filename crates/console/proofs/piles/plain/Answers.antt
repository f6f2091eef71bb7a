use Rattle.console.proofs.PileWords.{no_name}
use Rattle.console.proofs.piles.plain.Goals as goal

pub returns-in_default-strip_prefix-4 : goal.returns-in_default-strip_prefix-4
returns-in_default-strip_prefix-4 c = record { answer = no_name c.args.text.now c.in_default.ensures.cases c.in_default-strip_prefix.ensures.cases c.in_default-strip_prefix-2.ensures.cases c.in_default-strip_prefix-3.ensures.cases c.in_default-strip_prefix-4.ensures.cases }
