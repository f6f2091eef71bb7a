-- The rule time-table: a lot starts after the minutes at which it does not fit beside the fixed parts of
-- the others.
use Rattle.std.specs.Prelude.{ℕ, zero, suc, ◌+◌, Bool, false, if◌then◌else◌, ◌&&◌, ◌||◌, List, [], ◌∷◌, nat_le, nat_lt}
use Rattle.lots.specs.Limits.{horizon}
use Rattle.lots.specs.Schedules.{spans}
use Rattle.lots.specs.Tables.{ect, lst, lot_at}
use Rattle.lots.specs.declared.Lot.{Lot}
use Rattle.rule.specs.Meanings.{Meaning, dead}
use Rattle.rule.specs.Raised.{raise}

-- the trays that the lot x holds at t whenever it starts: its fixed part is lst ≤ t < ect
abbrev pub fixed_trays : Lot → ℕ → ℕ
fixed_trays x t = if spans (lst x) (ect x) t then x.c else 0

-- those of all lots
abbrev pub fixed_load : List Lot → ℕ → ℕ
fixed_load [] t = 0
fixed_load (x ∷ xs) t = fixed_trays x t + fixed_load xs t

-- those of all lots but the lot of the number j
abbrev pub fixed_load_of_others : ℕ → List Lot → ℕ → ℕ
fixed_load_of_others j [] t = 0
fixed_load_of_others zero (x ∷ xs) t = fixed_load xs t
fixed_load_of_others (suc j) (x ∷ xs) t = fixed_trays x t + fixed_load_of_others j xs t

-- whether a test holds of some minute below n
unfoldable pub some_below : (ℕ → Bool) → ℕ → Bool
some_below f zero = false
some_below f (suc n) = f n || some_below f n

-- the minute after the last one below n of which a test holds, or 0
unfoldable pub after_last : (ℕ → Bool) → ℕ → ℕ
after_last f zero = 0
after_last f (suc n) = if f n then suc n else after_last f n

-- whether the lot j may start by t, but does not fit at t beside the fixed parts of the others
abbrev pub is_blocked : ℕ → List Lot → ℕ → ℕ → Bool
is_blocked C T j t = nat_le (lot_at T j).est t && nat_lt C ((lot_at T j).c + fixed_load_of_others j T t)

-- the new bound of the lot j: the minute after its last blocked one, of those with est ≤ t < ect, or 0
abbrev pub bound_of : ℕ → List Lot → ℕ → ℕ
bound_of C T j = after_last (is_blocked C T j) (ect (lot_at T j))

-- whether the fixed parts of all lots pass the capacity at some minute
abbrev pub some_passes : ℕ → List Lot → Bool
some_passes C T = some_below (λ t. nat_lt C (fixed_load T t)) horizon

-- dead where they do; else each lot starts at its bound or later
abbrev pub time_table : Meaning
time_table C T = if some_passes C T then dead else raise (bound_of C T) T
