-- Lots and lawful tables.
use Rattle.std.specs.Prelude.{ℕ, ◌+◌, ◌-◌, ◌≤◌, List, length, slice_index_or}
use Rattle.std.specs.List.{AllByRecursion}
use Rattle.lots.specs.Limits.{horizon, max_capacity, max_lots}
use Rattle.lots.specs.declared.Lot.{Lot}

-- est + p, the earliest minute at which a lot can be out
abbrev pub ect : Lot → ℕ
ect x = x.est + x.p

-- lct − p, and 0 where the run is longer than lct: the latest minute at which a lot that fits can go in
abbrev pub lst : Lot → ℕ
lst x = x.lct - x.p

-- the lot of four zeros, which stands where there is none
abbrev pub blank : Lot
blank = record { est = 0; lct = 0; p = 0; c = 0 }

-- the lot of a number, from 0; past the last, a blank one
abbrev pub lot_at : List Lot → ℕ → Lot
lot_at T j = slice_index_or T j blank

-- every run fits its window
abbrev pub Fits : List Lot → Type 0
Fits T = AllByRecursion (λ x. ect x ≤ x.lct) T

-- one lot under the capacity C
pub record LawfulLot (C : ℕ) (x : Lot) : Type 0 where
  pub runs : 1 ≤ x.p
  pub takes_trays : 1 ≤ x.c
  pub has_trays : x.c ≤ C
  pub has_time : ect x ≤ x.lct
  pub in_week : x.lct ≤ horizon

-- a table: its capacity C and its lots T
pub record Lawful (C : ℕ) (T : List Lot) : Type 0 where
  pub some_trays : 1 ≤ C
  pub few_trays : C ≤ max_capacity
  pub few_lots : length T ≤ max_lots
  pub each : AllByRecursion (LawfulLot C) T

-- a capacity and lots as one value, lawful or not; the `Table` of the code is a lawful one
pub record Table : Type 0 where
  pub capacity : ℕ
  pub lots : List Lot
