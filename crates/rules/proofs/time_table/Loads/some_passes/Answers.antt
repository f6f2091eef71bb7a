use Rattle.std.proofs.Common.{refl}
use Rattle.rules.proofs.Loads.{passes_read}
use Rattle.rules.proofs.time_table.Loads.some_passes.Goals as goal

pub returns : goal.returns
returns c = record { answer = passes_read c.args.self.now _ refl }
