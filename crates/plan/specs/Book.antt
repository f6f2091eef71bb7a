-- The book of a plan: what its calls asked of it, and nothing of its windows.
use Rattle.std.specs.Prelude.{ℕ, List, [], ◌∷◌, Ok, Err, Result}
use Rattle.lots.specs.declared.Lot.{Lot}
use Rattle.rule.specs.Meanings.{Meaning}
use Rattle.plan.specs.Tables.{empty, with_lot, with_lot_between}
use Rattle.lots.specs.Tables.{Table}

-- a call with its arguments, a rule by its meaning
pub data Call : Type 0 where
  opening : ℕ → Call
  admitting : Lot → Call
  narrowing : ℕ → ℕ → ℕ → Call
  tightening : Meaning → Call
  -- with a budget, the cells of a trail and a place for starts
  solving : Meaning → ℕ → List Lot → List ℕ → Call

-- a call, and whether it was accepted
pub data Entry : Type 0 where
  accepted : Call → Entry
  refused : Call → Entry

-- the entry of a call that is so answered
abbrev pub entry_of : {X E : Type 0} → Call → Result X E → Entry
entry_of c (Ok x) = accepted c
entry_of c (Err e) = refused c

-- the book B with one entry more
abbrev pub book_after : Entry → Table → Table
book_after (accepted (opening C)) B = empty C
book_after (accepted (admitting x)) B = with_lot x B
book_after (accepted (narrowing i a b)) B = with_lot_between i a b B
book_after (accepted (tightening m)) B = B
book_after (accepted (solving m budget cs ss)) B = B
book_after (refused c) B = B

-- the book of these entries, the latest of which comes first
abbrev pub book : List Entry → Table
book [] = empty 1
book (e ∷ es) = book_after e (book es)
