-- What a search answers.
use Rattle.std.specs.Prelude.{◌≡◌, ℕ, ◌+◌, ◌*◌, ◌<◌, ◌≤◌, List, [], ◌∷◌, length, take, drop, replicate, Result}
use Rattle.lots.specs.Checks.{Check, Checked}
use Rattle.lots.specs.Limits.{max_lots}
use Rattle.lots.specs.Schedules.{BestSchedule}
use Rattle.lots.specs.Tables.{blank}
use Rattle.lots.specs.declared.Lot.{Lot}
use Rattle.lots.specs.declared.Refusal.{Refusal}
use Rattle.lots.specs.declared.Refusal.TheVariants.{Budget, Trail, Starts}
use Rattle.rule.specs.Meanings.{Meaning, Hopeless}
use Rattle.tree.specs.Tree.{BestKnown, unknown, known, Visit, last_known}
use Rattle.tree.specs.declared.Search.{Search}
use Rattle.tree.specs.declared.Search.TheVariants.{Best, None, Spent}

-- the cells of a trail for n lots
abbrev pub trail_cells : ℕ → ℕ
trail_cells n = n * n + n

-- the cells of a trail that serves every table
abbrev pub max_trail : ℕ
max_trail = trail_cells max_lots

-- the checks of a search for n lots, with a budget of B nodes, so many cells of a trail and so many places for
-- starts
abbrev pub solve_checks : ℕ → ℕ → ℕ → ℕ → List Check
solve_checks n B cells places =
    record { refusal = Budget; applies = B ≡ 0 }
    ∷ record { refusal = Trail; applies = cells < trail_cells n }
    ∷ record { refusal = Starts; applies = places < n }
    ∷ []

-- how many nodes were visited
abbrev pub nodes : Search → ℕ
nodes (Best e k) = k
nodes (None k) = k
nodes (Spent k) = k

-- the answer to a visit bs of n lots under the budget B, where ss is what the places for starts held before,
-- and us what they hold after
abbrev pub Told : ℕ → ℕ → List BestKnown → List ℕ → List ℕ → Search → Type 0
Told n B bs ss us (Best e k) =
    (k ≡ length bs) × (k ≤ B) × (last_known unknown bs ≡ known (take n us) e) × (drop n us ≡ drop n ss)
Told n B bs ss us (None k) = (k ≡ length bs) × (k ≤ B) × (last_known unknown bs ≡ unknown) × (us ≡ ss)
Told n B bs ss us (Spent k) = (k ≡ B) × (B < length bs) × (us ≡ ss)

-- a search of T by the rule m under the budget B, where cs are the cells of the trail before and ds after, ss
-- what the places for starts held before and us what they hold after
abbrev pub Solved : Meaning → ℕ → List Lot → ℕ → List Lot → List Lot → List ℕ → List ℕ →
    Result Search Refusal → Type 0
Solved m C T B cs ds ss us r =
    Checked (solve_checks (length T) B (length cs) (length ss))
    ((ds ≡ cs) × (us ≡ ss))
    (λ a. (ds ≡ replicate (length cs) blank)
    × ((bs : List BestKnown) × Visit m C unknown T bs × Told (length T) B bs ss us a))
    r

-- what the answer means for T, where us is what the places for starts hold
abbrev pub Right : ℕ → List Lot → List ℕ → Search → Type 0
Right C T us (Best e k) = BestSchedule C T e (take (length T) us)
Right C T us (None k) = Hopeless C T
Right C T us (Spent k) = Unit {0}
