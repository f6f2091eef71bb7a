-- What a plan owes its book, whatever has been asked of it (docs/PLAN.md, "The promise").
use Rattle.std.specs.Prelude.{◌≡◌, ℕ, ◌-◌, ◌*◌, ◌<◌, ◌≤◌, ◌↔◌, min, List, length, Ok}
use Rattle.lots.specs.Schedules.{BestSchedule}
use Rattle.lots.specs.Tables.{Lawful, Table}
use Rattle.lots.specs.declared.Lot.{Lot}
use Rattle.rule.specs.Meanings.{SameWork, Meaning, Sound, Hopeless}
use Rattle.tree.specs.Answer.{nodes, Solved, Right}
use Rattle.tree.specs.Tree.{BestKnown, unknown, Visit, ways}
use Rattle.tree.specs.declared.Search.{Search}
use Rattle.tree.specs.declared.Search.TheVariants.{Best, None, Spent}
use Rattle.plan.specs.Book.{Entry, book}
use Rattle.plan.specs.History.{History}
use Rattle.plan.specs.Tables.{SameSchedules}

-- the search stopped at its budget
abbrev pub IsSpent : Search → Type 0
IsSpent (Best e k) = ⊥
IsSpent (None k) = ⊥
IsSpent (Spent k) = Unit {0}

-- what the answer a means of a search by the rule m, of a plan that holds T and whose book is B; us is what
-- the place for starts holds after it
pub record SearchAnswersTo (m : Meaning) (B T : Table) (budget : ℕ) (us : List ℕ) (a : Search) : Type 0 where
  -- best: us begins with a schedule of the book, which ends as is said and no later than any other;
  -- none: the book has no schedule
  pub right : Right B.capacity B.lots us a
  -- the best known after each node of the tree: as many as there are nodes
  pub visit : List BestKnown
  pub visited : Visit m T.capacity unknown T.lots visit
  pub counted : nodes a ≡ min budget (length visit)
  pub few : nodes a ≤ 2 * ways T.lots - 1
  -- spent exactly where the count is the budget and a node is unvisited
  pub spent : IsSpent a ↔ ((nodes a ≡ budget) × (budget < length visit))

-- so for each book that a plan which holds T may have: the book of each of its histories
abbrev pub SearchAnswersToBooks : Meaning → Table → ℕ → List ℕ → Search → Type 0
SearchAnswersToBooks m T budget us a =
    (es : List Entry) → History es T → SearchAnswersTo m (book es) T budget us a

-- so of every search of the plan
abbrev pub Searches : Table → Table → Type 0
Searches B T =
    (m : Meaning) → Sound m → (budget : ℕ) (cs ds : List Lot) (ss us : List ℕ) (a : Search)
    → Solved m T.capacity T.lots budget cs ds ss us (Ok a) → SearchAnswersTo m B T budget us a

-- a plan that holds the table T answers to the book B: what is best of T is best of B, and there is none
-- where B has none
pub record AnswersTo (B T : Table) : Type 0 where
  pub lawful : Lawful T.capacity T.lots
  pub same_capacity : T.capacity ≡ B.capacity
  pub same_work : SameWork B.lots T.lots
  pub same_schedules : SameSchedules B T
  pub same_best : (E : ℕ) (ss : List ℕ)
      → BestSchedule B.capacity B.lots E ss ↔ BestSchedule T.capacity T.lots E ss
  pub same_hopeless : Hopeless B.capacity B.lots ↔ Hopeless T.capacity T.lots
  pub searches : Searches B T

-- after every history the plan answers to its book
abbrev pub Promise : Type 0
Promise = (es : List Entry) (T : Table) → History es T → AnswersTo (book es) T
