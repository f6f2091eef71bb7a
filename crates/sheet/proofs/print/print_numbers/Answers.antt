use Rattle.sheet.proofs.Pages.{adds_then}
use Rattle.sheet.proofs.print.print_numbers.Goals as goal

pub returns-clause-adds : goal.returns-clause-adds
returns-clause-adds c = adds_then (adds_then c.put.ensures.adds c.put_numbers.ensures.adds) c.put-2.ensures.adds
