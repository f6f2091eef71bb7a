-- Earliest starts made later, all of them together.
use Rattle.std.specs.Prelude.{ℕ, suc, max, Bool, true, if◌then◌else◌, ◌&&◌, List, [], ◌∷◌, nat_le}
use Rattle.lots.specs.Tables.{ect}
use Rattle.lots.specs.declared.Lot.{Lot}
use Rattle.rule.specs.Meanings.{Outcome, dead, to}

-- the lot x, starting at the minute e or later
abbrev pub later_lot : ℕ → Lot → Lot
later_lot e x = record x { est = max e x.est }

-- the lots from the number k on, each starting at its bound or later
abbrev pub later_lots : (ℕ → ℕ) → ℕ → List Lot → List Lot
later_lots bound k [] = []
later_lots bound k (x ∷ xs) = later_lot (bound k) x ∷ later_lots bound (suc k) xs

-- whether every run fits its window
abbrev pub all_fit : List Lot → Bool
all_fit [] = true
all_fit (x ∷ xs) = nat_le (ect x) x.lct && all_fit xs

-- each lot starts at its bound or later; dead where a run does not fit then
abbrev pub raise : (ℕ → ℕ) → List Lot → Outcome
raise bound T = if all_fit (later_lots bound 0 T) then to (later_lots bound 0 T) else dead
