-- What a visited node needs to be branched on.
use Rattle.std.proofs.Common.{ℕ, ◌<◌, ◌≤◌, List, ◌∷◌, arith}
use Rattle.std.proofs.ByRecursion.{All-get_or}
use Rattle.lots.specs.Limits.{horizon}
use Rattle.lots.specs.Tables.{ect, blank, lot_at, LawfulLot, Lawful}
use Rattle.lots.specs.declared.Lot.{Lot}
use Rattle.rule.specs.Meanings.{Meaning, to, Sound}
use Rattle.tree.specs.Private.Stack.{tables, Standing}
use Rattle.tree.specs.Tree.{BestKnown, Leaves, Branch}
use Rattle.tree.proofs.Cells.{tables_count}
use Rattle.tree.proofs.Nodes.{leaves_remains}
use Rattle.tree.proofs.Stacks.{choice_counts_below}

module _ (m : Meaning) (sound : Sound m) (C : ℕ) (b : BestKnown) (T U : List Lot) (ok : Lawful C T) (n : Leaves m C b T (to U)) (j : ℕ) (br : Branch U j) where
  pub fork_in_week : ect (lot_at U j) ≤ horizon
  fork_in_week =
      let l = All-get_or (LawfulLot C) U j blank br.inside (leaves_remains m sound C b T U ok n).below.lawful.each in
      omega (arith, l.has_time, l.in_week)

  pub fork_has_room : (len d : ℕ) (cells : List Lot) → Standing C len (T ∷ tables len d cells) → d < len
  fork_has_room len d cells s = let f = choice_counts_below m sound C b T U ok n j br in omega (arith, s.0.2, tables_count len d cells)
