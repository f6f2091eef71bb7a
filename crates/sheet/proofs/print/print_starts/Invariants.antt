use Rattle.std.proofs.Common.{◌≡◌, length, take}
use Rattle.sheet.specs.Private.Pages.{Adds, HasRoom, bytes_of}
use Rattle.sheet.specs.PrintLines.{start_lines}
use Rattle.sheet.specs.declared.page.Page.{Page}
use Rattle.sheet.proofs.print.print_starts.Given as goal

-- Whatever prints the lines left prints all of them.
abbrev pub invariant-loop-name : goal.invariant-loop-name
invariant-loop-name l = record {
  same_buffer : l.page.buffer.ghost_name ≡ l.fn.page.buffer.ghost_name;
  room : HasRoom l.page (start_lines (bytes_of l.name-iterator.a.rest.now) (take (length l.name-iterator.a.rest.now) l.name-iterator.b.rest.now));
  adds : (q : Page) → Adds l.page (start_lines (bytes_of l.name-iterator.a.rest.now) (take (length l.name-iterator.a.rest.now) l.name-iterator.b.rest.now)) q → Adds l.fn.page (start_lines (bytes_of l.names) (take (length l.names) l.starts)) q;
}
