use Rattle.std.proofs.Common.{◌≡◌, ℕ, ◌<◌, true, false, get_or}
use Rattle.elastic.proofs.profile.Profile.of.Given as goal

abbrev pub invariant-loop-number : goal.invariant-loop-number
invariant-loop-number l = (l.profile.table ≡ l.table) × ((k : ℕ) → k < l.number → get_or l.profile.added k false ≡ true)
