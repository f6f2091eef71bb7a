-- The distinct latest ends of a table, each with the lowest lot that has it, and the chain from there.
use Rattle.std.specs.Prelude.{◌≡◌, ℕ, ◌<◌, ◌≤◌, List, map, length, ◌≢◌, slice_index, slice_index_or}
use Rattle.std.specs.Cmp.{nat_cmp_total}
use Rattle.std.specs.List.{AllByRecursion}
use Rattle.lots.specs.Tables.{lot_at}
use Rattle.lots.specs.declared.Lot.{Lot}
use Rattle.elastic.specs.Profile.{creq, has, IsGreatest}
use Rattle.row.specs.Rows.{Ascending}
use Rattle.rules.specs.Overload.{ends_of, due_lots}
use Rattle.rules.specs.declared.ends.End.{End}

-- the minutes of some ends
abbrev pub end_minutes : List End → List ℕ
end_minutes es = map (λ x. x.lct) es

-- the end of a place, from 0
abbrev pub end_at : List End → ℕ → End
end_at es n = slice_index_or es n (record { lct = 0; lot = 0 })

-- the lot of an end has it as its latest end, and no lot of a lower number does
pub record Lowest (T : List Lot) (x : End) : Type 0 where
  pub is_lot : x.lot < length T
  pub has_end : (lot_at T x.lot).lct ≡ x.lct
  pub lowest : (k : ℕ) → k < x.lot → (lot_at T k).lct ≢ x.lct

-- the latest ends of a table, each once and in their order, with their lowest lot numbers
pub record DistinctEnds (T : List Lot) (es : List End) : Type 0 where
  pub rising : Ascending nat_cmp_total (λ x. x.lct) es
  pub ends : (t : ℕ) → has t (end_minutes es) ≡ has t (ends_of T)
  pub each : AllByRecursion (Lowest T) es

-- no lot between the numbers n and m has the latest end of the lot n
abbrev pub NoneBetween : List Lot → ℕ → ℕ → Type 0
NoneBetween T n m = (k : ℕ) → n < k → k < m → (lot_at T k).lct ≢ (lot_at T n).lct

-- m is the next number of a lot with the latest end of the lot n; the number of lots where there is none
pub record Next (T : List Lot) (n m : ℕ) : Type 0 where
  pub later : n < m
  pub few : m ≤ length T
  pub same_end : m < length T → (lot_at T m).lct ≡ (lot_at T n).lct
  pub none_between : NoneBetween T n m

-- `next` has, at each lot's number, its next number
abbrev pub Chained : List Lot → List ℕ → Type 0
Chained T next = (n : ℕ) → n < length T → Next T n (slice_index_or next n 0)

-- by the lowest lot of each end: the most trays that the lots due by it require, if each starts at its est
abbrev pub Requirements : List Lot → List End → List ℕ → Type 0
Requirements T es most =
    (n : ℕ) → n < length es
    → IsGreatest (creq (due_lots (end_at es n).lct T)) (slice_index most (end_at es n).lot)
