use Rattle.std.proofs.Common.{◌≡◌, ℕ, List, length}
use Rattle.sheet.specs.Private.Desks.{Orderly, RoomFor}
use Rattle.sheet.specs.Private.Pages.{Adds}
use Rattle.sheet.specs.Sheets.{new_desk, Prints}
use Rattle.sheet.specs.declared.page.Page.{Page}
use Rattle.sheet.proofs.Lengths.{InTime}
use Rattle.sheet.proofs.runs.run_lines.Given as goal

-- Whatever the lines left print is what is left to be printed of the sheet.
abbrev pub invariant-loop-desk : goal.invariant-loop-desk
invariant-loop-desk g l = record {
  same_buffer : l.page.buffer.ghost_name ≡ l.fn.page.buffer.ghost_name;
  orderly : Orderly l.desk;
  time : InTime l.desk;
  room : RoomFor l.desk l.page;
  prints : (out : List ℕ) (q : Page) → Prints (g.R.Rule.meaning l.rule) l.desk l.reader out → Adds l.page out q → (all : List ℕ) × Prints (g.R.Rule.meaning l.rule) new_desk l.sheet all × Adds l.fn.page all q;
}

abbrev pub decreases-loop-desk : goal.decreases-loop-desk
decreases-loop-desk g l = length l.reader
