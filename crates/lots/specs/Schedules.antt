-- Schedules of a table: a start for each lot.
use Rattle.std.specs.Prelude.{◌≡◌, ℕ, ◌+◌, ◌≤◌, max, Bool, if◌then◌else◌, ◌&&◌, List, [], ◌∷◌, nat_le, nat_lt}
use Rattle.lots.specs.declared.Lot.{Lot}

-- whether the minute t lies in the half-open span from a to b: a ≤ t < b
abbrev pub spans : ℕ → ℕ → ℕ → Bool
spans a b t = nat_le a t && nat_lt t b

-- the trays in use at the minute t; they are free again in the minute s + p
abbrev pub load : ℕ → List Lot → List ℕ → ℕ
load t [] ss = 0
load t (x ∷ xs) [] = 0
load t (x ∷ xs) (s ∷ ss) = (if spans s (s + x.p) t then x.c else 0) + load t xs ss

-- each lot has one start, and runs inside its window
abbrev pub Placed : List Lot → List ℕ → Type 0
Placed [] [] = Unit {0}
Placed [] (s ∷ ss) = ⊥
Placed (x ∷ xs) [] = ⊥
Placed (x ∷ xs) (s ∷ ss) = ((x.est ≤ s) × (s + x.p ≤ x.lct)) × Placed xs ss

pub record Schedule (C : ℕ) (T : List Lot) (ss : List ℕ) : Type 0 where
  pub placed : Placed T ss
  pub within : (t : ℕ) → load t T ss ≤ C

-- the minute at which the last lot is out, 0 without lots
abbrev pub end : List Lot → List ℕ → ℕ
end [] ss = 0
end (x ∷ xs) [] = 0
end (x ∷ xs) (s ∷ ss) = max (s + x.p) (end xs ss)

-- the starts ss are a schedule of T that ends at E, and no schedule of T ends earlier
pub record BestSchedule (C : ℕ) (T : List Lot) (E : ℕ) (ss : List ℕ) : Type 0 where
  pub schedule : Schedule C T ss
  pub ends : end T ss ≡ E
  pub least : (us : List ℕ) → Schedule C T us → E ≤ end T us
