-- Histories: what a plan may have known since it was new, or since it was opened.
use Rattle.std.specs.Prelude.{◌≡◌, ℕ, List, [], ◌∷◌, Ok, Err, Result}
use Rattle.lots.specs.declared.Lot.{Lot}
use Rattle.lots.specs.declared.Refusal.{Refusal}
use Rattle.rule.specs.Meanings.{Sound}
use Rattle.rule.specs.declared.Verdict.{Verdict}
use Rattle.tree.specs.Answer.{Solved}
use Rattle.tree.specs.declared.Search.{Search}
use Rattle.plan.specs.Tables.{SameSchedules, empty}
use Rattle.lots.specs.Tables.{Table}
use Rattle.plan.specs.Calls.{Opened, Admitted, Narrowed, Tightened}
use Rattle.plan.specs.Book.{opening, admitting, narrowing, tightening, solving, Entry, accepted, refused, book}

-- the call of the entry, so answered, leads from the table T to the table U; its rule is any sound one
abbrev pub Step : Entry → Table → Table → Type 0
Step (accepted (opening C)) T U = Opened C T U (Ok tt)
Step (accepted (admitting x)) T U = (n : ℕ) × Admitted x T U (Ok n)
Step (accepted (narrowing i a b)) T U = Narrowed i a b T U (Ok tt)
Step (accepted (tightening m)) T U = Sound m × (v : Verdict) × (k : ℕ) × Tightened m T U v k
Step (accepted (solving m budget cs ss)) T U =
    Sound m × (U ≡ T)
    × (ds : List Lot) × (us : List ℕ) × (a : Search) × Solved m T.capacity T.lots budget cs ds ss us (Ok a)
Step (refused (opening C)) T U = (e : Refusal) × Opened C T U (Err e)
Step (refused (admitting x)) T U = (e : Refusal) × Admitted x T U (Err e)
Step (refused (narrowing i a b)) T U = (e : Refusal) × Narrowed i a b T U (Err e)
Step (refused (tightening m)) T U = ⊥
Step (refused (solving m budget cs ss)) T U =
    Sound m × (U ≡ T) × (e : Refusal) × Solved m T.capacity T.lots budget cs cs ss ss (Err e)

-- a plan that holds the table has known just these calls since it was new, or since an accepted open
pub data History : List Entry → Table → Type 0 where
  new : History [] (empty 1)
  opened : (T : Table) {U : Table} (C : ℕ) → Step (accepted (opening C)) T U
      → History (accepted (opening C) ∷ []) U
  later : {es : List Entry} {T U : Table} (e : Entry) → History es T → Step e T U → History (e ∷ es) U

-- an accepted open begins a history, whatever the plan held
abbrev pub BeginsHistory : ℕ → Result (Unit {0}) Refusal → Table → Type 0
BeginsHistory C (Ok x) U = History (accepted (opening C) ∷ []) U
BeginsHistory C (Err e) U = Unit {0}

-- what a call does to every history of the plan: it is one entry longer, and its book has the
-- schedules of the plan
abbrev pub Follows : Entry → Table → Table → Type 0
Follows e T U =
    (es : List Entry) → History es T → History (e ∷ es) U × SameSchedules (book (e ∷ es)) U
