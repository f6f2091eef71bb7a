-- Rows of elements in the strict order of their keys: what putting an element does.
use Rattle.std.specs.Prelude.{◌≡◌, ℕ, ◌+◌, ◌<◌, ◌≤◌, List, ◌++◌, length, take, drop, slice_index_or}
use Rattle.std.specs.declared.cmp.Ordering.TheVariants.{Less, Equal, Greater}
use Rattle.std.specs.declared.cmp.Ordering.{Ordering}
use Rattle.std.specs.List.{insert, HoldsAt, AllWithin}
use Rattle.std.specs.Cmp.{IsTotalOrder}
use Rattle.row.specs.declared.row.Place.{Place}
use Rattle.row.specs.declared.row.Place.TheVariants.{Placed, Present, Full}
use Rattle.row.specs.declared.row.Row.{Row}

-- the cells that were lent
abbrev pub cells_of : {E : Type 0} → Row E → List E
cells_of r = r.cells.now

-- the row in them: the first `len`, or all where there are fewer
abbrev pub row_of : {E : Type 0} → Row E → List E
row_of r = take r.len (cells_of r)

-- what a row in lent cells, and all of these, hold after e was put: row' and cells'
abbrev pub Stored : {E : Type 0} → E → (row cells row' cells' : List E) → Place → Type 0
Stored e row cells row' cells' (Placed i) =
    (i ≤ length row) × (length row < length cells)
    × (row' ≡ insert row i e) × (cells' ≡ insert row i e ++ drop (length row + 1) cells)
Stored e row cells row' cells' (Present i) = (i < length row) × (row' ≡ row) × (cells' ≡ cells)
Stored e row cells row' cells' Full = (length row ≡ length cells) × (row' ≡ row) × (cells' ≡ cells)

-- what a row of at most n elements is after e was put: row'
abbrev pub Put : {E : Type 0} → ℕ → E → (row row' : List E) → Place → Type 0
Put n e row row' (Placed i) = (i ≤ length row) × (length row < n) × (row' ≡ insert row i e)
Put n e row row' (Present i) = (i < length row) × (row' ≡ row)
Put n e row row' Full = (length row ≡ n) × (row' ≡ row)

module _ {E K : Type 0} {R : K → K → Ordering} (o : IsTotalOrder R) (key : E → K) where
  -- the keys are in strict order: each is lower than those after it
  abbrev pub Ascending : List E → Type 0
  Ascending row =
      (i j : ℕ) (d : E) → i < j → j < length row
      → R (key (slice_index_or row i d)) (key (slice_index_or row j d)) ≡ Less

  -- the keys before the place i are lower than k
  abbrev pub Below : K → List E → ℕ → Type 0
  Below k row i = AllWithin (λ x. R (key x) k ≡ Less) row 0 i

  -- the keys from the place i on are higher than k
  abbrev pub Above : K → List E → ℕ → Type 0
  Above k row i = AllWithin (λ x. R (key x) k ≡ Greater) row i (length row)

  -- the key k stands at the place i
  abbrev pub Stands : K → List E → ℕ → Type 0
  Stands k row i = (i < length row) × HoldsAt (λ x. R (key x) k ≡ Equal) row i

  -- why putting e into a row gives that answer, where the row ascends
  abbrev pub Seated : E → List E → Place → Type 0
  Seated e row (Placed i) = Below (key e) row i × Above (key e) row i
  Seated e row (Present i) = Stands (key e) row i
  Seated e row Full = (i : ℕ) → Stands (key e) row i → ⊥
