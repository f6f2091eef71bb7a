use Rattle.std.proofs.Common.{◌≡◌, get_or, drop}
use Rattle.rule.specs.Raised.{later_lots, all_fit}
use Rattle.rule.proofs.starts.every_run_fits.Given as goal

abbrev pub invariant-loop-number : goal.invariant-loop-number
invariant-loop-number l =
    all_fit (later_lots (λ j. get_or l.bounds j 0) l.number (drop l.number l.lots)) ≡ all_fit (later_lots (λ j. get_or l.bounds j 0) 0 l.lots)
