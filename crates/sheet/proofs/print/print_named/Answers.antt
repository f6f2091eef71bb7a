use Rattle.sheet.proofs.Pages.{adds_then}
use Rattle.sheet.proofs.print.print_named.Goals as goal

pub returns-clause-adds : goal.returns-clause-adds
returns-clause-adds c =
    let named = adds_then c.put-2.ensures.adds c.put-3.ensures.adds in
    adds_then (adds_then c.put.ensures.adds (adds_then c.put_numbers.ensures.adds named)) c.put-4.ensures.adds
