-- The loads of the minutes, as the code keeps them.
use Rattle.std.specs.Prelude.{ℕ, ◌+◌, ◌-◌, Bool, ◌&&◌, nat_le, nat_lt, slice_index}
use Rattle.lots.specs.declared.Lot.{Lot}
use Rattle.rules.specs.TimeTable.{fixed_trays}
use Rattle.rules.specs.declared.time_table.Loads.{Loads}

-- whether the lot x does not fit at t beside the fixed parts of the others, where the loads count those
-- of all lots, that of x too
abbrev pub lacks_room : Loads → Lot → ℕ → Bool
lacks_room loads x t =
    nat_lt loads.table.capacity (x.c + slice_index loads.by_minute.now t - fixed_trays x t)

-- whether it may start by t, but does not fit there
abbrev pub is_blocked_under : Loads → Lot → ℕ → Bool
is_blocked_under loads x t = nat_le x.est t && lacks_room loads x t
