-- The lot to branch on, looked for from the first lot to the last.
use Rattle.std.proofs.Common.{ℕ, ◌<◌, ◌≤◌, List, Some, None, Option}
use Rattle.lots.specs.Tables.{lot_at}
use Rattle.lots.specs.declared.Lot.{Lot}
use Rattle.tree.specs.Tree.{HasChoice}

-- the lot to branch on among the first n: `Branch`, of these alone
pub record Among (U : List Lot) (n j : ℕ) : Type 0 where
  pub inside : j < n
  pub choice : HasChoice (lot_at U j)
  pub earliest : (k : ℕ) → k < n → HasChoice (lot_at U k) → (lot_at U j).est ≤ (lot_at U k).est
  pub first : (k : ℕ) → k < j → HasChoice (lot_at U k) → (lot_at U j).est < (lot_at U k).est

abbrev pub Pick : List Lot → ℕ → Option ℕ → Type 0
Pick U n None = (k : ℕ) → k < n → HasChoice (lot_at U k) → ⊥
Pick U n (Some j) = Among U n j
