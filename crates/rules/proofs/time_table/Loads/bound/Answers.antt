use Rattle.std.proofs.Common.{◌≡◌, ℕ, ◌+◌, ◌≤◌, Bool, MatchOption, arith, rules}
use Rattle.std.proofs.iter.Serving.{serving}
use Rattle.std.proofs.iter.runs.Sources.{ranges}
use Rattle.lots.specs.Limits.{horizon}
use Rattle.lots.specs.Tables.{ect}
use Rattle.rules.specs.Private.Loads.{is_blocked_under}
use Rattle.rules.proofs.Searches.{IsLastBelow, after_last_found}
use Rattle.rules.proofs.time_table.Loads.bound.Goals as goal

pub find-requires-clause-callable : goal.find-requires-clause-callable
find-requires-clause-callable c =
    let week : ect c.args.lot ≤ horizon = omega (arith, c.requires.lawful.has_time, c.requires.lawful.in_week) in
    grind serving

pub returns : goal.returns
returns c = record {
  answer =
      let blocked : ℕ → Bool = is_blocked_under c.args.self.now c.args.lot in
      let last : IsLastBelow blocked (ect c.args.lot) c.find.result = search (rules, ranges) in
      let bound : MatchOption c.find.result (c.map_or.result ≡ 0) (λ m. c.map_or.result ≡ m + 1) = search rules in
      after_last_found blocked _ _ _ last bound;
}
