use Rattle.std.proofs.Common.{◌≡◌, ℕ, ◌<◌, length, get_or}
use Rattle.lots.specs.Limits.{max_lots}
use Rattle.rules.specs.Private.Ends.{Next}
use Rattle.rules.proofs.ends.chain.Given as goal

abbrev pub invariant-loop-number : goal.invariant-loop-number
invariant-loop-number l =
    (length l.next ≡ max_lots) × ((n : ℕ) → n < l.number → Next l.lots n (get_or l.next n 0))
