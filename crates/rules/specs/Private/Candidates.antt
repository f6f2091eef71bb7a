-- A lot of a table, of which not-first asks before which others it can start.
use Rattle.std.specs.Prelude.{ℕ, Bool, if◌then◌else◌, not, ◌&&◌, List, length, ◌==◌, nat_lt}
use Rattle.lots.specs.Tables.{ect}
use Rattle.lots.specs.declared.Lot.{Lot}
use Rattle.lots.specs.declared.table.Table.{Table}
use Rattle.rules.specs.Chosen.{is_overfull}
use Rattle.rules.specs.NotFirst.{cut, least_ect, cut_with_stand_in, greatest_bound}
use Rattle.rules.specs.declared.not_first.Candidate.{Candidate}

-- the table that it is a lot of
abbrev pub own_table : Candidate → Table
own_table x = x.ends.now.table

-- the lots of that table
abbrev pub lots_of : Candidate → List Lot
lots_of x = (own_table x).lots.now

-- the lot y of the number k is another, and cannot be out by the est of x
abbrev pub is_in_cuts : Candidate → ℕ → Lot → Bool
is_in_cuts x k y = not (k == x.number) && nat_lt x.lot.est (ect y)

-- its cut up to the minute t
abbrev pub cut_of : Candidate → ℕ → List Lot
cut_of x t = cut (lots_of x) x.number t

-- the bound that this cut puts on its est: its least ect where it is overfull beside the stand-in, else 0
abbrev pub bound_of_cut : Candidate → ℕ → ℕ
bound_of_cut x t =
    if is_overfull (own_table x).capacity (cut_with_stand_in (lots_of x) x.number t)
    then least_ect (cut_of x t) else 0

-- the greatest that the lots put
abbrev pub own_bound : Candidate → ℕ
own_bound x = greatest_bound (own_table x).capacity (lots_of x) x.number (length (lots_of x))
