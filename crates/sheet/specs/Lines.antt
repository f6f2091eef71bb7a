-- The lines of a sheet, by their written forms.
use Rattle.std.specs.Prelude.{◌≡◌, ℕ, ◌-◌, ◌^◌, ◌≤◌, List, [], ◌∷◌, ◌++◌, length, codes}
use Rattle.std.specs.Int.{IsInRange}
use Rattle.std.specs.List.{AllByRecursion}
use Rattle.lots.specs.Limits.{max_lots}
use Rattle.lots.specs.Texts.{numbers}
use Rattle.lots.specs.declared.Lot.{Lot}

-- the byte that ends a line
abbrev pub newline : ℕ
newline = 10

-- the most bytes of a name
abbrev pub max_name : ℕ
max_name = 24

-- the bytes that a name may have
abbrev pub first_printable : ℕ
first_printable = 32

abbrev pub last_printable : ℕ
last_printable = 126

-- the greatest number of a line, and the greatest budget
abbrev pub max_number : ℕ
max_number = 2 ^ 16 - 1

abbrev pub max_budget : ℕ
max_budget = 2 ^ 32 - 1

-- what a line says
pub data Line : Type 0 where
  -- the capacity, and how many lots follow
  machine : ℕ → ℕ → Line
  -- the name of the next lot
  name : List ℕ → Line
  -- a lot by its number
  lot : ℕ → Lot → Line
  -- the lot of a number goes in at a minute or later, and is out by another
  narrow : ℕ → ℕ → ℕ → Line
  tighten : Line
  -- with a budget of nodes
  solve : ℕ → Line

-- the bytes of a line, but for the one that ends it
abbrev pub written_line : Line → List ℕ
written_line (machine C n) = codes "C" ++ numbers (C ∷ n ∷ [])
written_line (name w) = codes "N " ++ w
written_line (lot i x) = codes "B" ++ numbers (i ∷ x.est ∷ x.lct ∷ x.p ∷ x.c ∷ [])
written_line (narrow i from to) = codes "H" ++ numbers (i ∷ from ∷ to ∷ [])
written_line tighten = codes "T"
written_line (solve budget) = codes "S" ++ numbers (budget ∷ [])

abbrev pub Printable : ℕ → Type 0
Printable b = IsInRange first_printable last_printable b

-- a name has 1 to 24 bytes, each of them printable
abbrev pub Named : List ℕ → Type 0
Named w = (1 ≤ length w) × (length w ≤ max_name) × AllByRecursion Printable w

-- its numbers and its name are within their bounds
abbrev pub Bounded : Line → Type 0
Bounded (machine C n) = (C ≤ max_number) × (n ≤ max_lots)
Bounded (name w) = Named w
Bounded (lot i x) =
    (i ≤ max_number) × (x.est ≤ max_number) × (x.lct ≤ max_number) × (x.p ≤ max_number) × (x.c ≤ max_number)
Bounded (narrow i from to) = (i ≤ max_number) × (from ≤ max_number) × (to ≤ max_number)
Bounded tighten = Unit {0}
Bounded (solve budget) = budget ≤ max_budget

-- the bytes begin with a line, and `rest` comes after it
abbrev pub BeginsWithLine : List ℕ → Line → List ℕ → Type 0
BeginsWithLine bs l rest = (bs ≡ written_line l ++ newline ∷ rest) × Bounded l
