use Rattle.sheet.proofs.Pages.{adds_then}
use Rattle.sheet.proofs.print.print_tighten.Goals as goal
use Rattle.sheet.proofs.print.print_tighten.Goals.{in-Still, in-Moved}

pub returns-clause-adds : goal.returns-clause-adds
returns-clause-adds c =
    elim c.match-verdict.branch [
      | in-Still w ↦ rw w.in-Still.is (adds_then w.print_numbers.ensures.adds (rw w.page-is at c.print_windows.ensures.adds))
      | in-Moved w ↦ rw w.in-Moved.is (adds_then w.print_numbers-in-Moved.ensures.adds (rw w.page-is at c.print_windows.ensures.adds))
    ]
