use Rattle.std.proofs.Common.{◌≡◌, ℕ, suc, ◌<◌, ◌≤◌, length, get_or, take}
use Rattle.lots.specs.Limits.{horizon}
use Rattle.rules.specs.TimeTable.{fixed_load}
use Rattle.rules.specs.Private.Changes.{begun_at, ended_at}
use Rattle.rules.proofs.time_table.enter.Given as goal

abbrev pub invariant-loop-lot : goal.invariant-loop-lot
invariant-loop-lot l = record {
  begun_minutes : length l.begun ≡ horizon;
  ended_minutes : length l.ended ≡ suc horizon;
  begun : (t : ℕ) → t < horizon → get_or l.begun t 0 ≡ begun_at (take l.lot-index l.table.lots.now) t;
  ended : (t : ℕ) → t < suc horizon → get_or l.ended t 0 ≡ ended_at (take l.lot-index l.table.lots.now) t;
  before : (t : ℕ) → t < l.first → fixed_load (take l.lot-index l.table.lots.now) t ≡ 0;
  after : (t : ℕ) → l.last ≤ t → fixed_load (take l.lot-index l.table.lots.now) t ≡ 0;
  week : (l.first ≤ horizon) × (l.last ≤ horizon);
}
