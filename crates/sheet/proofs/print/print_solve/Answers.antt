use Rattle.std.proofs.lemmas.List.{length-map}
use Rattle.sheet.proofs.Pages.{adds_then}
use Rattle.sheet.proofs.print.print_solve.Goals as goal

pub returns-in-Best-clause-adds : goal.returns-in-Best-clause-adds
returns-in-Best-clause-adds c =
    rw (c.in-Best.is, length-map c.args.names.now (λ w. w.now), ← c.into.ensures) (adds_then c.print_numbers.ensures.adds c.print_starts.ensures.adds)
