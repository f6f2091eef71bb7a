-- What an answer to a visit means for its table.
use Rattle.std.proofs.Common.{ℕ, ◌-◌, ◌*◌, ◌≤◌, List, length, take, arith}
use Rattle.lots.specs.Tables.{Lawful}
use Rattle.lots.specs.declared.Lot.{Lot}
use Rattle.rule.specs.Meanings.{Meaning, Sound}
use Rattle.tree.specs.Tree.{BestKnown, unknown, Visit, ways}
use Rattle.tree.specs.Answer.{nodes, Told, Right}
use Rattle.tree.specs.declared.Search.{Search}
use Rattle.tree.specs.declared.Search.TheVariants.{Best, None, Spent}
use Rattle.tree.proofs.Tells.{few_nodes, unknown_hopeless, found_best}

module _ (m : Meaning) (sound : Sound m) (C budget : ℕ) (T : List Lot) (ok : Lawful C T) (bs : List BestKnown) (v : Visit m C unknown T bs) (ss us : List ℕ) where
  pub told_right : (a : Search) → Told (length T) budget bs ss us a → Right C T us a
  told_right (Best e k) t = found_best m sound C T ok bs v (take (length T) us) e t.2
  told_right (None k) t = unknown_hopeless m sound C T ok bs v t.2
  told_right (Spent k) t = tt

  pub told_few : (a : Search) → Told (length T) budget bs ss us a → nodes a ≤ 2 * ways T - 1
  told_few (Best e k) t = few_nodes m sound C T ok bs v k (omega arith)
  told_few (None k) t = few_nodes m sound C T ok bs v k (omega arith)
  told_few (Spent k) t = few_nodes m sound C T ok bs v k (omega arith)
