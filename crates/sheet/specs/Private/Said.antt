-- What a line that was read says.
use Rattle.sheet.specs.Lines.{Line, machine, name, lot, narrow, tighten, solve}
use Rattle.sheet.specs.declared.line.Line.{Line as Read}
use Rattle.sheet.specs.declared.line.Line.TheVariants as read

abbrev pub said_line : Read → Line
said_line (read.Machine C n) = machine C n
said_line (read.Name w) = name w.now
said_line (read.Lot i x) = lot i x
said_line (read.Narrow i from to) = narrow i from to
said_line read.Tighten = tighten
said_line (read.Solve budget) = solve budget
