-- One rule after another.
use Rattle.std.specs.Prelude.{List}
use Rattle.lots.specs.declared.Lot.{Lot}
use Rattle.rule.specs.Meanings.{Outcome, Meaning, dead, to}

abbrev pub and_then : Outcome → (List Lot → Outcome) → Outcome
and_then dead f = dead
and_then (to U) f = f U

-- m, and then n on the table that m gives
abbrev pub both : Meaning → Meaning → Meaning
both m n C T = and_then (m C T) (n C)
