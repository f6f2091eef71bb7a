-- What a desk holds at every line of a sheet.
use Rattle.std.specs.Prelude.{◌≡◌, ℕ, ◌+◌, ◌-◌, ◌*◌, ◌≤◌, min, length}
use Rattle.std.specs.List.{AllByRecursion}
use Rattle.lots.specs.Limits.{max_lots}
use Rattle.lots.specs.Tables.{Lawful}
use Rattle.sheet.specs.Lines.{max_name}
use Rattle.sheet.specs.Sheets.{Desk, head, max_commands}
use Rattle.sheet.specs.declared.page.Page.{Page}

-- how many names and lots the desk has, where the line is due
pub record Orderly (D : Desk) : Type 0 where
  pub begun : 1 ≤ D.line
  pub few : D.lots ≤ max_lots
  pub none_said : D.line ≡ 1 → D.lots ≡ 0
  pub named : length D.names ≡ min (D.line - 2) D.lots
  pub short : AllByRecursion (λ w. length w ≤ max_name) D.names
  pub admitted : length D.plan.lots ≡ min (D.line - (2 + D.lots)) D.lots
  pub lawful : Lawful D.plan.capacity D.plan.lots

-- the most lines of a sheet
abbrev pub max_lines : ℕ
max_lines = head max_lots + max_commands

-- the line that is due is one of these
abbrev pub HasLine : Desk → Type 0
HasLine D = D.line ≤ max_lines

-- at most so many bytes: the first line of what tighten prints, whose number is below a million,
-- and a line for a window
abbrev pub first_line : ℕ
first_line = 15

abbrev pub window_line : ℕ
window_line = 39

-- so many bytes at most are printed for a command: what tighten prints for 64 lots. The first line
-- of what solve prints may be longer, but 64 lines for starts are shorter than 64 for windows by
-- more than that.
abbrev pub most_of_command : ℕ
most_of_command = first_line + window_line * max_lots

-- the most bytes of a refusal: its number has two digits, and that of its line three
abbrev pub most_of_refusal : ℕ
most_of_refusal = 9

-- the commands that a sheet may still have, when its line is due
abbrev pub commands_left : Desk → ℕ
commands_left D = min max_commands (head D.lots + max_commands + 1 - D.line)

-- the page has room for all that may still be printed
abbrev pub RoomFor : Desk → Page → Type 0
RoomFor D p = p.len + (commands_left D * most_of_command + most_of_refusal) ≤ length p.buffer.now
