use Rattle.std.proofs.Common.{◌≡◌, ℕ, ◌<◌, ◌≤◌, length, get_or}
use Rattle.lots.specs.Limits.{horizon}
use Rattle.rules.specs.TimeTable.{fixed_load}
use Rattle.rules.specs.Private.Changes.{begun_at, greatest_below}
use Rattle.rules.proofs.Loads.{load_before}
use Rattle.rules.proofs.time_table.Loads.of.Given as goal

abbrev pub invariant-loop-minute : goal.invariant-loop-minute
invariant-loop-minute l = record {
  minutes : length l.by_minute ≡ horizon;
  week : l.minute ≤ horizon;
  loaded : (t : ℕ) → t < l.minute → get_or l.by_minute t 0 ≡ fixed_load l.table.lots.now t;
  begun : (t : ℕ) → l.minute ≤ t → t < horizon → get_or l.by_minute t 0 ≡ begun_at l.table.lots.now t;
  load : l.load ≡ load_before l.table.lots.now l.minute;
  greatest : l.greatest ≡ greatest_below (fixed_load l.table.lots.now) l.minute;
}
