-- The rule not-first: a lot that cannot start before one of some others has ended starts at their least ect
-- or later.
use Rattle.std.specs.Prelude.{ℕ, zero, suc, min, max, Bool, if◌then◌else◌, not, ◌&&◌, List, [], ◌∷◌, ◌++◌, length, ◌==◌, nat_le, nat_lt}
use Rattle.lots.specs.Tables.{ect, lot_at}
use Rattle.lots.specs.declared.Lot.{Lot}
use Rattle.elastic.specs.Marked.{stand_in}
use Rattle.rule.specs.Meanings.{Meaning}
use Rattle.rule.specs.Raised.{raise}
use Rattle.rules.specs.Chosen.{chosen_lots, is_overfull}

-- the lot x of the number k is not i, cannot be out by the est e of i, and must be out by the minute t
abbrev pub is_in_cut : ℕ → ℕ → ℕ → ℕ → Lot → Bool
is_in_cut i e t k x = not (k == i) && (nat_lt e (ect x) && nat_le x.lct t)

-- the lots but i that must be out by the minute t and cannot be out by the est of i
abbrev pub cut : List Lot → ℕ → ℕ → List Lot
cut T i t = chosen_lots (is_in_cut i (lot_at T i).est t) 0 T

-- the least ect, and 0 without lots
abbrev pub least_ect : List Lot → ℕ
least_ect [] = 0
least_ect (x ∷ []) = ect x
least_ect (x ∷ (y ∷ ys)) = min (ect x) (least_ect (y ∷ ys))

-- the cut up to t, and the stand-in of i: a lot that keeps the trays of i from the earliest est of the cut
-- until the ect of i, or until t where that is earlier
abbrev pub cut_with_stand_in : List Lot → ℕ → ℕ → List Lot
cut_with_stand_in T i t = cut T i t ++ stand_in (lot_at T i).c (min (ect (lot_at T i)) t) (cut T i t)

-- the bound that the lot j puts on the est of i, 0 where it puts none
abbrev pub bound_by : ℕ → List Lot → ℕ → ℕ → ℕ
bound_by C T i j =
    let x = lot_at T j in
    if not (j == i) && (nat_lt (lot_at T i).est (ect x) && is_overfull C (cut_with_stand_in T i x.lct))
    then least_ect (cut T i x.lct) else 0

-- the greatest of those that the first n lots put
abbrev pub greatest_bound : ℕ → List Lot → ℕ → ℕ → ℕ
greatest_bound C T i zero = 0
greatest_bound C T i (suc n) = max (bound_by C T i n) (greatest_bound C T i n)

-- each lot i starts at its greatest bound or later
abbrev pub not_first : Meaning
not_first C T = raise (λ i. greatest_bound C T i (length T)) T
