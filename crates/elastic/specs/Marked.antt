-- Some of the lots of a table, and a lot that stands in beside them.
use Rattle.std.specs.Prelude.{ℕ, ◌-◌, Bool, if◌then◌else◌, List, [], ◌∷◌, nat_le}
use Rattle.lots.specs.declared.Lot.{Lot}
use Rattle.elastic.specs.Profile.{earliest}

-- the lots of T that are marked; past the last mark none is
abbrev pub marked_lots : List Bool → List Lot → List Lot
marked_lots [] T = []
marked_lots (b ∷ bs) [] = []
marked_lots (b ∷ bs) (x ∷ xs) = if b then x ∷ marked_lots bs xs else marked_lots bs xs

-- a stand-in: a lot that keeps c trays from the earliest est of Ω until the minute m
abbrev pub stand_in_lot : ℕ → ℕ → List Lot → Lot
stand_in_lot c m Ω = record { est = earliest Ω; lct = m; p = m - earliest Ω; c = c }

-- that lot, and none where m is no later than the earliest est
abbrev pub stand_in : ℕ → ℕ → List Lot → List Lot
stand_in c m Ω = if nat_le m (earliest Ω) then [] else stand_in_lot c m Ω ∷ []
