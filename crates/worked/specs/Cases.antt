-- Worked tables: what is done with a table, and what comes out.
use Rattle.std.specs.Prelude.{◌≡◌, ℕ, ◌≤◌, List, [], ◌∷◌, ◌++◌, length, drop, replicate, Ok}
use Rattle.std.specs.List.{AllByRecursion}
use Rattle.lots.specs.Tables.{blank}
use Rattle.lots.specs.declared.Lot.{Lot}
use Rattle.elastic.specs.Overflow.{OverflowAnswered}
use Rattle.rule.specs.Idle.{idle}
use Rattle.rule.specs.Meanings.{Meaning, Applied}
use Rattle.rule.specs.Turned.{turned}
use Rattle.rule.specs.declared.Verdict.{Verdict}
use Rattle.rule.specs.declared.Verdict.TheVariants.{Still, Moved, Dead}
use Rattle.rules.specs.NotFirst.{not_first}
use Rattle.rules.specs.Overload.{overload}
use Rattle.rules.specs.TimeTable.{time_table}
use Rattle.plan.specs.Calls.{Tightened}
use Rattle.tree.specs.Answer.{trail_cells, Solved}
use Rattle.tree.specs.Tree.{ways}
use Rattle.tree.specs.declared.Search.{Search}
use Rattle.tree.specs.declared.Search.TheVariants.{Best, None, Spent}

-- a lot: est, lct, p, c
abbrev pub lot : ℕ → ℕ → ℕ → ℕ → Lot
lot est lct p c = record { est = est; lct = lct; p = p; c = c }

-- what is done with the lots of a table, after its capacity, and what comes out
pub data Case : Type 0 where
  -- their overflow, and how many points their profile has
  overflow_is : ℕ → List Lot → ℕ → ℕ → Case
  -- a rule is applied to them once: the verdict, and the lots after it
  applied : Meaning → ℕ → List Lot → Verdict → List Lot → Case
  -- a plan of them is tightened by a rule: the verdict, the number of applications, and the lots after it
  tightened : Meaning → ℕ → List Lot → Verdict → ℕ → List Lot → Case
  -- in how many ways they can start
  ways_are : List Lot → ℕ → Case
  -- a plan of them is solved by a rule, under a budget: the answer, and the starts that it writes
  solved : Meaning → ℕ → List Lot → ℕ → Search → List ℕ → Case

-- a case holds: what comes out is what the contract of the call asks for
abbrev pub Holds : Case → Type 0
Holds (overflow_is C T left count) = OverflowAnswered C T (Ok (left, count))
Holds (applied m C T v U) = Applied m C T U (Ok v)
Holds (tightened m C T v k U) =
    Tightened m (record { capacity = C; lots = T }) (record { capacity = C; lots = U }) v k
Holds (ways_are T n) = ways T ≡ n
-- whatever the trail and the places for starts hold, where there is room enough
Holds (solved m C T B a us) =
    (cs : List Lot) (ss : List ℕ) → trail_cells (length T) ≤ length cs → length T ≤ length ss
    → Solved m C T B cs (replicate (length cs) blank) ss (us ++ drop (length us) ss) (Ok a)

-- the worked tables (docs/WORKED.md)
abbrev pub worked_cases : List Case
worked_cases =
    -- the first lot fills both trays from 4 on, and the second runs for a minute more than there is
    -- before that
    overflow_is 2 (lot 4 6 2 2 ∷ lot 0 6 5 1 ∷ []) 1 4
    ∷ applied overload 2 (lot 4 6 2 2 ∷ lot 0 6 5 1 ∷ []) Dead (lot 4 6 2 2 ∷ lot 0 6 5 1 ∷ [])
    -- a minute less
    ∷ overflow_is 2 (lot 4 6 2 2 ∷ lot 0 6 4 1 ∷ []) 0 3
    ∷ applied overload 2 (lot 4 6 2 2 ∷ lot 0 6 4 1 ∷ []) Still (lot 4 6 2 2 ∷ lot 0 6 4 1 ∷ [])
    -- one lot more opens a tray more, and nothing is left over
    ∷ overflow_is 2 (lot 0 1 1 2 ∷ lot 0 3 3 1 ∷ []) 1 3
    ∷ overflow_is 2 (lot 0 1 1 2 ∷ lot 0 3 3 1 ∷ lot 1 3 1 1 ∷ []) 0 4
    ∷ applied overload 2 (lot 0 1 1 2 ∷ lot 0 3 3 1 ∷ lot 1 3 1 1 ∷ []) Still
    (lot 0 1 1 2 ∷ lot 0 3 3 1 ∷ lot 1 3 1 1 ∷ [])
    -- the second lot cannot start first, unless it runs for a minute less
    ∷ applied not_first 1 (lot 0 5 3 1 ∷ lot 0 9 3 1 ∷ []) Moved (lot 0 5 3 1 ∷ lot 3 9 3 1 ∷ [])
    ∷ applied not_first 1 (lot 0 5 3 1 ∷ lot 0 9 2 1 ∷ []) Still (lot 0 5 3 1 ∷ lot 0 9 2 1 ∷ [])
    -- and so of the latest end, in the week read backwards
    ∷ applied (turned not_first) 1 (lot 10075 10080 3 1 ∷ lot 10071 10080 3 1 ∷ []) Moved
    (lot 10075 10080 3 1 ∷ lot 10071 10077 3 1 ∷ [])
    -- one move makes another
    ∷ applied not_first 2 (lot 4 6 2 2 ∷ lot 0 6 3 1 ∷ lot 0 12 5 1 ∷ []) Moved
    (lot 4 6 2 2 ∷ lot 0 6 3 1 ∷ lot 3 12 5 1 ∷ [])
    ∷ applied not_first 2 (lot 4 6 2 2 ∷ lot 0 6 3 1 ∷ lot 3 12 5 1 ∷ []) Moved
    (lot 4 6 2 2 ∷ lot 0 6 3 1 ∷ lot 6 12 5 1 ∷ [])
    ∷ tightened not_first 2 (lot 4 6 2 2 ∷ lot 0 6 3 1 ∷ lot 0 12 5 1 ∷ []) Moved 3
    (lot 4 6 2 2 ∷ lot 0 6 3 1 ∷ lot 6 12 5 1 ∷ [])
    -- the first lot holds both trays from 1 to 3
    ∷ applied time_table 2 (lot 0 4 3 2 ∷ lot 0 9 2 1 ∷ []) Moved (lot 0 4 3 2 ∷ lot 2 9 2 1 ∷ [])
    ∷ applied time_table 2 (lot 0 4 3 2 ∷ lot 2 9 2 1 ∷ []) Moved (lot 0 4 3 2 ∷ lot 3 9 2 1 ∷ [])
    ∷ tightened time_table 2 (lot 0 4 3 2 ∷ lot 0 9 2 1 ∷ []) Moved 3 (lot 0 4 3 2 ∷ lot 3 9 2 1 ∷ [])
    -- two lots on one tray
    ∷ ways_are (lot 0 2 1 1 ∷ lot 0 2 1 1 ∷ []) 4
    ∷ solved idle 1 (lot 0 2 1 1 ∷ lot 0 2 1 1 ∷ []) 5 (Best 2 5) (0 ∷ 1 ∷ [])
    ∷ solved idle 1 (lot 0 2 1 1 ∷ lot 0 2 1 1 ∷ []) 4 (Spent 4) []
    ∷ solved idle 1 (lot 0 1 1 1 ∷ lot 0 1 1 1 ∷ []) 1 (None 1) []
    ∷ []

-- the whole list
abbrev pub AllHold : Type 0
AllHold = AllByRecursion Holds worked_cases
