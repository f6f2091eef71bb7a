use Rattle.std.proofs.Common.{get_or}
use Rattle.rules.proofs.Loads.{dead_applied, raise_applied}
use Rattle.rules.proofs.time_table.TimeTableRule.apply.Goals as goal

pub returns-then-some_passes : goal.returns-then-some_passes
returns-then-some_passes c = record { answer = dead_applied _ _ _ _ c.of-loads.ensures.answer c.in_ok-table.ensures.answer c.if-some_passes.ensures.answer }

pub returns : goal.returns
returns c = record { answer = raise_applied _ _ _ _ c.of-loads.ensures.answer c.in_ok-table.ensures.answer c.if-some_passes.ensures.answer (λ j. get_or c.bounds-bounds.result j 0) c.bounds-bounds.ensures.answer _ _ c.raise.ensures.answer }
