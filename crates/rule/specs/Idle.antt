-- The rule that gives back its table.
use Rattle.rule.specs.Meanings.{Meaning, to}

abbrev pub idle : Meaning
idle C T = to T
