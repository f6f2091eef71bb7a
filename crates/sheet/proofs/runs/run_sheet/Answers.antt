use Rattle.sheet.proofs.Steps.{long_room}
use Rattle.sheet.proofs.runs.run_sheet.Goals as goal

pub print_refusal-requires : goal.print_refusal-requires
print_refusal-requires g c = record { room = long_room c.args.page.now c.requires.room }
