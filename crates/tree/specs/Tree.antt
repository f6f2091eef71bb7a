-- The tree of a search: its nodes, and the best schedule known after each.
use Rattle.std.specs.Prelude.{◌≡◌, ℕ, suc, ◌+◌, ◌-◌, ◌*◌, ◌<◌, ◌≤◌, ◌⊎◌, min, List, [], ◌∷◌, ◌++◌, map, length, slice_set}
use Rattle.std.specs.List.{AllByRecursion}
use Rattle.lots.specs.Tables.{ect, lst, lot_at, Fits, Lawful}
use Rattle.lots.specs.Schedules.{load, Schedule, end}
use Rattle.lots.specs.declared.Lot.{Lot}
use Rattle.rule.specs.Meanings.{Outcome, Meaning, dead, to, Sound}
use Rattle.rule.specs.Settled.{Moves}

-- in how many ways the lots of a table can start, the load left aside: each has the minutes from est to lst
abbrev pub ways : List Lot → ℕ
ways [] = 1
ways (x ∷ xs) = suc (lst x - x.est) * ways xs

-- the best schedule known: none yet, or its starts and its end
pub data BestKnown : Type 0 where
  unknown : BestKnown
  known : List ℕ → ℕ → BestKnown

-- the best known ends at k or before
abbrev pub EndsBy : BestKnown → ℕ → Type 0
EndsBy unknown k = ⊥
EndsBy (known ss e) k = e ≤ k

-- the lot x, out by d
abbrev pub lot_out_by : ℕ → Lot → Lot
lot_out_by d x = record x { lct = min x.lct d }

-- the lots of a node, each out before the end of the best known
abbrev pub under : BestKnown → List Lot → List Lot
under unknown T = T
under (known ss e) T = map (lot_out_by (e - 1)) T

-- what a rule makes of T where it is applied until it is still or dead
abbrev pub ComesTo : Meaning → ℕ → List Lot → Outcome → Type 0
ComesTo m C T dead = (n : ℕ) × (W : List Lot) × Moves m C T n W × (m C W ≡ dead)
ComesTo m C T (to U) = (n : ℕ) × Moves m C T n U × (m C U ≡ to U)

-- what is left of the node T, where b is the best known: dead where a run does not fit before its end, else
-- what the rule makes of the lots that are out before it
pub data Leaves (m : Meaning) (C : ℕ) (b : BestKnown) (T : List Lot) : Outcome → Type 0 where
  late : (Fits (under b T) → ⊥) → Leaves m C b T dead
  tight : {o : Outcome} → Fits (under b T) → ComesTo m C (under b T) o → Leaves m C b T o

-- every lot has one start left
abbrev pub Fixed : List Lot → Type 0
Fixed U = AllByRecursion (λ x. x.est ≡ lst x) U

-- each lot at its est
abbrev pub earliest_starts : List Lot → List ℕ
earliest_starts U = map (λ x. x.est) U

-- the lot x has a choice of starts
abbrev pub HasChoice : Lot → Type 0
HasChoice x = x.est < lst x

-- the lot j is the one to branch on: of those with a choice of starts the first of the least est
pub record Branch (U : List Lot) (j : ℕ) : Type 0 where
  pub inside : j < length U
  pub choice : HasChoice (lot_at U j)
  pub earliest : (k : ℕ) → k < length U → HasChoice (lot_at U k) → (lot_at U j).est ≤ (lot_at U k).est
  pub first : (k : ℕ) → k < j → HasChoice (lot_at U k) → (lot_at U j).est < (lot_at U k).est

-- the lot x starts at its est, or a minute later at the earliest
abbrev pub at_once : Lot → Lot
at_once x = record x { lct = ect x }

abbrev pub a_minute_later : Lot → Lot
a_minute_later x = record x { est = x.est + 1 }

-- the two nodes below U, branched on the lot j
abbrev pub left : ℕ → List Lot → List Lot
left j U = slice_set U j (at_once (lot_at U j))

abbrev pub right : ℕ → List Lot → List Lot
right j U = slice_set U j (a_minute_later (lot_at U j))

-- the node T is closed, and the best known goes from b to another, perhaps the same
pub data Closes (m : Meaning) (C : ℕ) (b : BestKnown) (T : List Lot) : BestKnown → Type 0 where
  barren : Leaves m C b T dead → Closes m C b T b
  above_capacity : {U : List Lot} (t : ℕ) → Leaves m C b T (to U) → Fixed U →
      C < load t U (earliest_starts U) → Closes m C b T b
  found : {U : List Lot} → Leaves m C b T (to U) → Fixed U →
      ((t : ℕ) → load t U (earliest_starts U) ≤ C) →
      Closes m C b T (known (earliest_starts U) (end U (earliest_starts U)))

-- the last of a list of bests, where b came before it
abbrev pub last_known : BestKnown → List BestKnown → BestKnown
last_known b [] = b
last_known b (x ∷ xs) = last_known x xs

-- a visit of the node T and of all below it, where b is the best known: the best known after each node, in the
-- order of the visit
pub data Visit (m : Meaning) (C : ℕ) : BestKnown → List Lot → List BestKnown → Type 0 where
  leaf : {b a : BestKnown} {T : List Lot} → Closes m C b T a → Visit m C b T (a ∷ [])
  fork : {b : BestKnown} {T U : List Lot} {ls rs : List BestKnown} (j : ℕ) →
      Leaves m C b T (to U) → Branch U j →
      Visit m C b (left j U) ls → Visit m C (last_known b ls) (right j U) rs →
      Visit m C b T (b ∷ (ls ++ rs))

-- the ends of a list of bests never rise, where b came before it
abbrev pub Falling : BestKnown → List BestKnown → Type 0
Falling b [] = Unit {0}
Falling b (x ∷ xs) = ((k : ℕ) → EndsBy b k → EndsBy x k) × Falling x xs

-- what a visit of T finds, where b is the best known before it and a after it
pub record Optimal (C : ℕ) (T : List Lot) (b a : BestKnown) : Type 0 where
  -- the best known before, or a schedule of T
  pub source : (a ≡ b) ⊎ ((ss : List ℕ) × (a ≡ known ss (end T ss)) × Schedule C T ss)
  -- it ends no later than the best known before
  pub no_later : (k : ℕ) → EndsBy b k → EndsBy a k
  -- no schedule of T ends earlier than it
  pub least : (ss : List ℕ) → Schedule C T ss → EndsBy a (end T ss)

-- the law of the tree of a rule: the node T has exactly one visit, which is short and loses nothing
pub record TreeLaw (m : Meaning) (C : ℕ) (b : BestKnown) (T : List Lot) : Type 0 where
  pub some : (bs : List BestKnown) × Visit m C b T bs
  pub one : (bs cs : List BestKnown) → Visit m C b T bs → Visit m C b T cs → bs ≡ cs
  pub short : (bs : List BestKnown) → Visit m C b T bs → (1 ≤ length bs) × (length bs ≤ 2 * ways T - 1)
  pub optimal : (bs : List BestKnown) → Visit m C b T bs → Optimal C T b (last_known b bs)
  pub falling : (bs : List BestKnown) → Visit m C b T bs → Falling b bs

-- the law holds of every rule that is sound, at every lawful table
abbrev pub EveryTree : Type 0
EveryTree = (m : Meaning) → Sound m → (C : ℕ) (b : BestKnown) (T : List Lot) → Lawful C T → TreeLaw m C b T
