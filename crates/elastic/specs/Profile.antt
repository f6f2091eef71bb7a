-- The elastic profile of a list of lots Ω under the capacity C.
use Rattle.std.specs.Prelude.{◌≡◌, ℕ, zero, suc, ◌+◌, ◌-◌, ◌≤◌, min, max, Bool, false, if◌then◌else◌, ◌||◌, List, [], ◌∷◌, ◌==◌}
use Rattle.lots.specs.Schedules.{spans}
use Rattle.lots.specs.Tables.{ect}
use Rattle.lots.specs.declared.Lot.{Lot}

-- the least est, and 0 without lots
abbrev pub earliest : List Lot → ℕ
earliest [] = 0
earliest (x ∷ []) = x.est
earliest (x ∷ (y ∷ ys)) = min x.est (earliest (y ∷ ys))

-- the greatest lct, and 0 without lots
abbrev pub latest : List Lot → ℕ
latest [] = 0
latest (x ∷ xs) = max x.lct (latest xs)

-- the trays of the lots whose window holds the minute t: est ≤ t < lct
abbrev pub available : List Lot → ℕ → ℕ
available [] t = 0
available (x ∷ xs) t = (if spans x.est x.lct t then x.c else 0) + available xs t

-- the trays that can be in use at t
abbrev pub cmax : ℕ → List Lot → ℕ → ℕ
cmax C Ω t = min (available Ω t) C

-- the trays in use at t if each lot starts at its est: est ≤ t < ect
abbrev pub creq : List Lot → ℕ → ℕ
creq [] t = 0
creq (x ∷ xs) t = (if spans x.est (ect x) t then x.c else 0) + creq xs t

-- n is the greatest of the numbers F t
pub record IsGreatest (F : ℕ → ℕ) (n : ℕ) : Type 0 where
  pub bound : (t : ℕ) → F t ≤ n
  pub reached : (t : ℕ) × (F t ≡ n)

-- the trays in use at t, where `before` is ov in the minute before t
abbrev pub cons : ℕ → List Lot → ℕ → ℕ → ℕ
cons C Ω t before = min (creq Ω t + before) (cmax C Ω t)

-- ov in the minute before the minute earliest Ω + k: zero in the minute before the earliest est
abbrev pub ov_before : ℕ → List Lot → ℕ → ℕ
ov_before C Ω zero = 0
ov_before C Ω (suc k) =
    let t = earliest Ω + k in let before = ov_before C Ω k in
    (before + creq Ω t) - cons C Ω t before

-- ov in the last minute before the latest lct
abbrev pub overflow : ℕ → List Lot → ℕ
overflow C Ω = ov_before C Ω (latest Ω - earliest Ω)

-- the minutes at which a profile can change: each est, ect and lct
abbrev pub minutes : List Lot → List ℕ
minutes [] = []
minutes (x ∷ xs) = x.est ∷ (ect x ∷ (x.lct ∷ minutes xs))

-- whether the list has the number t
abbrev pub has : ℕ → List ℕ → Bool
has t [] = false
has t (u ∷ us) = t == u || has t us

-- how many different numbers a list has
abbrev pub distinct : List ℕ → ℕ
distinct [] = 0
distinct (t ∷ ts) = (if has t ts then 0 else 1) + distinct ts

-- how many points a lot can bring: its est, its ect and its lct
abbrev pub points_of_a_lot : ℕ
points_of_a_lot = 3

-- how many points a profile has: one for each distinct minute
abbrev pub points : List Lot → ℕ
points Ω = distinct (minutes Ω)
