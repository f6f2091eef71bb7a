-- Some of the lots of a table, by a test of their number and themselves.
use Rattle.std.specs.Prelude.{ℕ, suc, Bool, if◌then◌else◌, List, [], ◌∷◌, nat_lt}
use Rattle.lots.specs.declared.Lot.{Lot}
use Rattle.elastic.specs.Profile.{overflow}

-- those of which the test holds, in their order; the first has the number k
abbrev pub chosen_lots : (ℕ → Lot → Bool) → ℕ → List Lot → List Lot
chosen_lots test k [] = []
chosen_lots test k (x ∷ xs) =
    if test k x then x ∷ chosen_lots test (suc k) xs else chosen_lots test (suc k) xs

-- whether they have more work than fits: overflow above 0
abbrev pub is_overfull : ℕ → List Lot → Bool
is_overfull C Ω = nat_lt 0 (overflow C Ω)
