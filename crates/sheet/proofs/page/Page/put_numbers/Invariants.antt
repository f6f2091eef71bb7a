use Rattle.std.proofs.Common.{◌≡◌, drop}
use Rattle.lots.specs.Texts.{numbers}
use Rattle.sheet.specs.Private.Pages.{Adds, HasRoom}
use Rattle.sheet.specs.declared.page.Page.{Page}
use Rattle.sheet.proofs.page.Page.put_numbers.Given as goal

-- Whatever prints the numbers left prints all of them.
abbrev pub invariant-loop-number : goal.invariant-loop-number
invariant-loop-number l = record {
  same_buffer : l.self.buffer.ghost_name ≡ l.fn.self.buffer.ghost_name;
  room : HasRoom l.self (numbers (drop l.number-index l.numbers));
  adds : (q : Page) → Adds l.self (numbers (drop l.number-index l.numbers)) q → Adds l.fn.self (numbers l.numbers) q;
}
