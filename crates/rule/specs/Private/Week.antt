-- Lots that can be turned.
use Rattle.std.specs.Prelude.{◌≤◌}
use Rattle.lots.specs.Limits.{horizon}
use Rattle.lots.specs.declared.Lot.{Lot}

-- a lot whose window lies in the week
abbrev pub InWeek : Lot → Type 0
InWeek x = (x.est ≤ horizon) × (x.lct ≤ horizon)
