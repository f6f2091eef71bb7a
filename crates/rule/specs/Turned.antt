-- A rule applied to the week read backwards.
use Rattle.std.specs.Prelude.{◌≡◌, ℕ, ◌-◌, List, map}
use Rattle.lots.specs.Limits.{horizon}
use Rattle.lots.specs.Tables.{Lawful}
use Rattle.lots.specs.declared.Lot.{Lot}
use Rattle.rule.specs.Meanings.{Outcome, Meaning, dead, to}

abbrev pub turn : Lot → Lot
turn x = record x { est = horizon - x.lct; lct = horizon - x.est }

abbrev pub turn_outcome : Outcome → Outcome
turn_outcome dead = dead
turn_outcome (to U) = to (map turn U)

abbrev pub turned : Meaning → Meaning
turned m C T = turn_outcome (m C (map turn T))

-- two rules mean the same: they agree on every lawful table
abbrev pub Alike : Meaning → Meaning → Type 0
Alike m n = (C : ℕ) (T : List Lot) → Lawful C T → m C T ≡ n C T
