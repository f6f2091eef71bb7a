-- How the load of the fixed parts changes from minute to minute, and the greatest of some loads.
use Rattle.std.specs.Prelude.{ℕ, zero, suc, max, Bool, if◌then◌else◌, ◌&&◌, ◌==◌, List, nat_lt}
use Rattle.std.specs.List.{sum_by}
use Rattle.lots.specs.Tables.{ect, lst}
use Rattle.lots.specs.declared.Lot.{Lot}

-- whether the lot x has a fixed part
abbrev pub has_fixed_part : Lot → Bool
has_fixed_part x = nat_lt (lst x) (ect x)

-- the trays that its fixed part takes from the minute t on
abbrev pub trays_begun : ℕ → Lot → ℕ
trays_begun t x = if has_fixed_part x && (lst x == t) then x.c else 0

-- those that it gives back at the minute t
abbrev pub trays_ended : ℕ → Lot → ℕ
trays_ended t x = if has_fixed_part x && (ect x == t) then x.c else 0

-- the trays that the fixed parts of some lots take from t on
abbrev pub begun_at : List Lot → ℕ → ℕ
begun_at T t = sum_by (trays_begun t) T

-- those that they give back at t
abbrev pub ended_at : List Lot → ℕ → ℕ
ended_at T t = sum_by (trays_ended t) T

-- the greatest of the numbers of the minutes below n, and 0 where n is 0
unfoldable pub greatest_below : (ℕ → ℕ) → ℕ → ℕ
greatest_below f zero = 0
greatest_below f (suc n) = max (f n) (greatest_below f n)
