-- What the structs of the search stand for, and what its functions answer.
use Rattle.std.specs.Prelude.{◌≡◌, ℕ, ◌<◌, ◌≤◌, Bool, true, false, List, [], ◌∷◌, length, Some, None, Option, Contains}
use Rattle.std.specs.List.{AllByRecursion}
use Rattle.lots.specs.Schedules.{load}
use Rattle.lots.specs.Tables.{lot_at}
use Rattle.lots.specs.declared.Lot.{Lot}
use Rattle.rule.specs.Meanings.{Meaning, to}
use Rattle.tree.specs.Tree.{BestKnown, unknown, known, Leaves, earliest_starts, HasChoice, Branch, Closes, Visit}
use Rattle.tree.specs.Private.Stack.{Stopped}
use Rattle.tree.specs.declared.node.Known.{Known}
use Rattle.tree.specs.declared.node.Fate.{Fate}
use Rattle.tree.specs.declared.node.Fate.TheVariants.{Closed, Found, Fork}
use Rattle.tree.specs.declared.explore.Explored.{Explored}

-- the best known, as the tree is defined by it
abbrev pub best_known : Option Known → BestKnown
best_known None = unknown
best_known (Some k) = known k.starts.items k.end

-- the least est of some lots: that of one of them, and no later than any; 0 without lots
abbrev pub IsLeastEst : List Lot → ℕ → Type 0
IsLeastEst [] t = t ≡ 0
IsLeastEst (x ∷ xs) t =
    Contains (earliest_starts (x ∷ xs)) t × AllByRecursion (λ y. t ≤ y.est) (x ∷ xs)

-- whether the load of the lots, each at its est, is within the capacity C: at every minute, or not at some
abbrev pub LoadWithin : ℕ → List Lot → Bool → Type 0
LoadWithin C T true = (t : ℕ) → load t T (earliest_starts T) ≤ C
LoadWithin C T false = (t : ℕ) × (C < load t T (earliest_starts T))

-- the lot to branch on, where some lot has a choice of starts
abbrev pub IsBranchLot : List Lot → Option ℕ → Type 0
IsBranchLot T None = (k : ℕ) → k < length T → HasChoice (lot_at T k) → ⊥
IsBranchLot T (Some j) = Branch T j

-- what becomes of the node T, where b is the best known, and U what is left of it
abbrev pub Seen : Meaning → ℕ → BestKnown → List Lot → List Lot → Fate → Type 0
Seen m C b T U Closed = Closes m C b T b
Seen m C b T U (Found k) = Closes m C b T (best_known (Some k))
Seen m C b T U (Fork j) = Leaves m C b T (to U) × Branch U j

-- how a search of T under the budget B has stopped
abbrev pub Explores : Meaning → ℕ → List Lot → ℕ → Explored → Type 0
Explores m C T B r =
    (bs : List BestKnown) × Visit m C unknown T bs × Stopped B bs (best_known r.best) r.nodes r.open
