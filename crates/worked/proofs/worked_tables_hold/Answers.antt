use Rattle.worked.proofs.Cases.{all_hold}
use Rattle.worked.proofs.worked_tables_hold.Goals as goal

pub returns : goal.returns
returns c = record { all_hold = all_hold }
