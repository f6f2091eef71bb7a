-- The numbers that bound every table.
use Rattle.std.specs.Prelude.{ℕ}

-- the last minute of the week: every lot is out by then
abbrev pub horizon : ℕ
horizon = 10080

abbrev pub max_capacity : ℕ
max_capacity = 200

abbrev pub max_lots : ℕ
max_lots = 64
