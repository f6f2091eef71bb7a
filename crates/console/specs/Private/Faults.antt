-- Why nothing was read, and what came of some words.
use Rattle.std.specs.Prelude.{◌≡◌, ℕ, List, Ok, Err, Result}
use Rattle.lots.specs.Tables.{Table}
use Rattle.console.specs.Lines.{Name, Known, Asks, Answers, Made}
use Rattle.console.specs.declared.answers.Answer.{Answer}
use Rattle.console.specs.declared.answers.Answer.TheVariants as answer
use Rattle.console.specs.declared.answers.Fault.{Fault}
use Rattle.console.specs.declared.answers.Fault.TheVariants as fault

-- why nothing was read: P holds where it is for the words, and nothing is said where it is for want
-- of memory
abbrev pub Unread : Fault → Type 0 → Type 0
Unread fault.Unknown P = P
Unread (fault.Refused refusal) P = ⊥
Unread fault.Memory P = Unit {0}

-- what came of some words: an answer that is right for them; or they write nothing known, or there
-- was no memory, and the plan is as before
abbrev pub Comes : (Right : Table → Table → Answer → Type 0) → (Unknown : Type 0)
    → Table → Table → Result Answer Fault → Type 0
Comes Right Unknown P Q (Ok a) = Right P Q a
Comes Right Unknown P Q (Err (fault.Refused refusal)) = Right P Q (answer.Refused refusal)
Comes Right Unknown P Q (Err fault.Unknown) = Unknown × (Q ≡ P)
Comes Right Unknown P Q (Err fault.Memory) = Q ≡ P

-- what came of the words after the name of a call
abbrev pub Makes : Name → List (List ℕ) → Table → Table → Result Answer Fault → Type 0
Makes n words = Comes (Answers n words) (Asks n words → ⊥)

-- what came of all words of a line
abbrev pub MakesNamed : List (List ℕ) → Table → Table → Result Answer Fault → Type 0
MakesNamed words = Comes (Made words) (Known words → ⊥)
