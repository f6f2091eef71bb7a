-- The pile that the house uses.
use Rattle.rule.specs.Both.{both}
use Rattle.rule.specs.Meanings.{Meaning}
use Rattle.rule.specs.Turned.{turned}
use Rattle.rules.specs.NotFirst.{not_first}
use Rattle.rules.specs.Overload.{overload}
use Rattle.rules.specs.TimeTable.{time_table}

-- overload, time-table, not-first, turned time-table, turned not-first, in this order
abbrev pub house : Meaning
house = both overload (both time_table (both not_first (both (turned time_table) (turned not_first))))
