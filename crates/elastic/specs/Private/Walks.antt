-- Walks along the points of a profile: what is left over, minute by minute, and where a walk stands.
use Rattle.std.specs.Prelude.{◌≡◌, ℕ, zero, suc, ◌+◌, ◌-◌, ◌<◌, ◌≤◌, min, if◌then◌else◌, List, length, nat_lt, slice_index, slice_index_or}
use Rattle.lots.specs.Limits.{max_capacity}
use Rattle.lots.specs.Tables.{Lawful}
use Rattle.lots.specs.declared.Lot.{Lot}
use Rattle.elastic.specs.Profile as profile
use Rattle.elastic.specs.Profile.{creq}
use Rattle.elastic.specs.Private.Points.{minutes_of, Profiles}
use Rattle.elastic.specs.declared.points.Point.{Point}
use Rattle.elastic.specs.declared.walk.State.{State}

-- the capacity that is left at t where c of C trays are kept until m
abbrev pub usable : ℕ → ℕ → ℕ → ℕ → ℕ
usable C c m t = if nat_lt t m then C - c else C

-- ov in the minute before t, counted from minute 0, where the capacity at u is U u
abbrev pub rest : (ℕ → ℕ) → List Lot → ℕ → ℕ
rest U Ω zero = 0
rest U Ω (suc t) = (rest U Ω t + creq Ω t) - min (profile.available Ω t) (U t)

-- the last of the first j of the minutes us, and 0 before the first
abbrev pub reached : List ℕ → ℕ → ℕ
reached us zero = 0
reached us (suc j) = slice_index us j

-- how many trays F counts there, and none before the first
abbrev pub count_reached : (ℕ → ℕ) → List ℕ → ℕ → ℕ
count_reached F us zero = 0
count_reached F us (suc j) = F (slice_index us j)

-- the state of a walk that has passed the first j of the points, whose minutes are us, of the profile of Ω
pub record Stands (U : ℕ → ℕ) (Ω : List Lot) (us : List ℕ) (j : ℕ) (s : State) : Type 0 where
  pub minute : s.minute ≡ reached us j
  pub available : s.available ≡ count_reached (profile.available Ω) us j
  pub required : s.required ≡ count_reached (creq Ω) us j
  pub left : s.left ≡ rest U Ω (reached us j)

-- a walk can go along the points ps of T with the changes of Ω, beside a lot that keeps c of C trays
pub record Course (C c : ℕ) (T Ω : List Lot) (ps : List Point) : Type 0 where
  pub table : Lawful max_capacity T
  pub lots : Lawful max_capacity Ω
  pub profiles : Profiles ps T Ω
  pub fits : c ≤ C

-- it has passed the first j of them, the other lot is out at m, and a point is ahead
pub record Walks (C c m : ℕ) (T Ω : List Lot) (ps : List Point) (j : ℕ) (s : State) : Type 0 where
  pub course : Course C c T Ω ps
  pub ahead : j < length ps
  pub stands : Stands (usable C c m) Ω (minutes_of ps) j s

-- the state of a place, from 0; past the last, four zeros
abbrev pub state_at : List State → ℕ → State
state_at states j =
    slice_index_or states j (record { minute = 0; available = 0; required = 0; left = 0 })

-- the states of a walk that are known: those up to the place n
abbrev pub Known : (ℕ → ℕ) → List Lot → List ℕ → List State → ℕ → Type 0
Known U Ω us states n = (j : ℕ) → j ≤ n → Stands U Ω us j (state_at states j)
