-- The number of each refusal.
use Rattle.std.specs.Prelude.{ℕ}
use Rattle.lots.specs.declared.Refusal.{Refusal}
use Rattle.lots.specs.declared.Refusal.TheVariants.{Capacity, TableFull, Trays, Run, Window, NoSuchLot, Span, NoRoom, Unlawful, Budget, Trail, Starts, PrintBuffer, SheetLength, Line, Commands}

abbrev pub refusal_number : Refusal → ℕ
refusal_number Capacity = 1
refusal_number TableFull = 2
refusal_number Trays = 3
refusal_number Run = 4
refusal_number Window = 5
refusal_number NoSuchLot = 6
refusal_number Span = 7
refusal_number NoRoom = 8
refusal_number Unlawful = 9
refusal_number Budget = 10
refusal_number Trail = 11
refusal_number Starts = 12
refusal_number PrintBuffer = 13
refusal_number SheetLength = 14
refusal_number Line = 15
refusal_number Commands = 16
