-- What the calls of a plan may make of its table, and tables of the same schedules.
use Rattle.std.specs.Prelude.{ℕ, ◌↔◌, min, max, List, [], ◌∷◌, ◌++◌, slice_set}
use Rattle.lots.specs.Schedules.{Schedule}
use Rattle.lots.specs.Tables.{lot_at, Table}
use Rattle.lots.specs.declared.Lot.{Lot}

-- each schedule of T is one of U, and each of U is one of T
abbrev pub SameSchedules : Table → Table → Type 0
SameSchedules T U = (ss : List ℕ) → Schedule T.capacity T.lots ss ↔ Schedule U.capacity U.lots ss

-- the table of no lots under the capacity C
abbrev pub empty : ℕ → Table
empty C = record { capacity = C; lots = [] }

-- the table T with the lot x more, at the next number
abbrev pub with_lot : Lot → Table → Table
with_lot x T = record T { lots = T.lots ++ x ∷ [] }

-- the lot x, in at a or later and out by b, where these are tighter than its window
abbrev pub lot_between : ℕ → ℕ → Lot → Lot
lot_between a b x = record x { est = max a x.est; lct = min b x.lct }

-- the table T with its lot of the number i so; no other changes
abbrev pub with_lot_between : ℕ → ℕ → ℕ → Table → Table
with_lot_between i a b T = record T { lots = slice_set T.lots i (lot_between a b (lot_at T.lots i)) }
