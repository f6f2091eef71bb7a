use Rattle.rule.proofs.Applications.{both_moves}
use Rattle.rule.proofs.both.BothRule.apply.Goals as goal

pub returns-in-Moved : goal.returns-in-Moved
returns-in-Moved g c = record {
  answer =
      let x = c.args.self.now in
      both_moves _ _ (g.met.X.Rule.sound x.first) (g.met.Y.Rule.sound x.second) _ _ _ _ c.in_ok-first.first c.in_default-first.not-Dead c.in_ok-first.ensures.answer
      (rw c.in-Moved.is at c.in_ok-apply.ensures.answer);
}
