-- The rule time-table loses no schedule.
use Rattle.std.specs.Prelude.{◌≡◌, ℕ, ◌<◌, ◌≤◌, true, List, length, nat_lt, slice_index}
use Rattle.std.proofs.Common.{sym, ◌∙◌, arith}
use Rattle.std.proofs.lemmas.Bool.{true≢false, le-ltb}
use Rattle.lots.specs.Limits.{horizon}
use Rattle.lots.specs.Schedules.{Schedule}
use Rattle.lots.specs.Tables.{ect, lot_at}
use Rattle.lots.specs.declared.Lot.{Lot}
use Rattle.rule.specs.Meanings.{Sound, Hopeless}
use Rattle.rule.specs.Laws.Outcomes.{gives_either, dies_either}
use Rattle.rule.specs.Laws.Raises.{raise_lawful, raise_narrows, raise_keeps, raise_dies}
use Rattle.rules.specs.TimeTable.{fixed_load, some_passes, is_blocked, bound_of, time_table}
use Rattle.rules.specs.Laws.FixedParts.{load_of_fixed, blocked_before}
use Rattle.rules.specs.Laws.Searches.{some_none, after_last_le}

bound_kept : (C : ℕ) (T : List Lot) (ss : List ℕ) → Schedule C T ss → (j : ℕ) → j < length T → bound_of C T j ≤ slice_index ss j
bound_kept C T ss s j h = after_last_le (is_blocked C T j) (ect (lot_at T j)) (slice_index ss j) (blocked_before C T ss s j h)

passing_hopeless : (C : ℕ) (T : List Lot) → some_passes C T ≡ true → Hopeless C T
passing_hopeless C T e ss s = true≢false (sym e ∙ some_none (λ t. nat_lt C (fixed_load T t)) horizon (λ t h. le-ltb C (fixed_load T t) (omega (arith, load_of_fixed t T ss s.placed, s.within t))))

pub time_table_sound : Sound time_table
time_table_sound = record {
  lawful = λ C T ok. gives_either _ _ (some_passes C T) (raise_lawful (bound_of C T) C T ok);
  narrows = λ C T ok. gives_either _ _ (some_passes C T) (raise_narrows (bound_of C T) C T ok);
  keeps = λ C T ok. gives_either _ _ (some_passes C T) (raise_keeps (bound_of C T) C T ok (bound_kept C T));
  dies_rightly = λ C T ok. dies_either _ _ (some_passes C T) (passing_hopeless C T) (raise_dies (bound_of C T) C T ok (bound_kept C T));
}
