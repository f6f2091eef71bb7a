use Rattle.tree.proofs.Law.{tree_law}
use Rattle.tree.proofs.promise.each_table_has_one_visit.Goals as goal

pub returns : goal.returns
returns c = record { every_tree = tree_law }
