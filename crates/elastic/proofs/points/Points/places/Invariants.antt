use Rattle.std.proofs.Common.{◌≡◌, ℕ, ◌<◌, length}
use Rattle.lots.specs.Limits.{max_lots}
use Rattle.lots.specs.Tables.{lot_at}
use Rattle.elastic.specs.Private.Points.{minutes_of, HasPlaces, places_at}
use Rattle.elastic.proofs.points.Points.places.Given as goal

abbrev pub invariant-loop-number : goal.invariant-loop-number
invariant-loop-number l = record {
  same : l.self.row ≡ l.initial.self.row;
  long : length l.places ≡ max_lots;
  so_far : (k : ℕ) → k < l.number → HasPlaces (minutes_of l.self.row) (lot_at l.table.lots.now k) (places_at l.places k);
}
