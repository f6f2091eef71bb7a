use Rattle.sheet.proofs.Lengths.{print_fits}
use Rattle.sheet.proofs.Once.{print_one}
use Rattle.sheet.proofs.Some.{print_some}
use Rattle.sheet.proofs.promise.each_sheet_has_one_print.Goals as goal

pub returns : goal.returns
returns c = record { every_sheet = λ m sound sheet. record { some = print_some m sound sheet; one = print_one m sound sheet; fits = print_fits m sound sheet } }
