use Rattle.rule.proofs.Turning.{turned_applied}
use Rattle.rule.proofs.Applications.{applied_lawful}
use Rattle.rule.specs.Laws.Turns.{lawful_week, turn_lawful}
use Rattle.rule.proofs.turned.TurnedRule.apply.Goals as goal

pub returns : goal.returns
returns g c = record {
  answer =
      let ok = c.in_ok-new.ensures.answer.2 in
      let a = rw c.turn.ensures.after at c.apply-answer.ensures.answer in
      turned_applied _ (g.met.X.Rule.sound c.args.self.now.rule) _ _ _ _ _ ok a (cc);
}

pub turn-requires : goal.turn-requires
turn-requires g c = record { in_week = lawful_week c.args.capacity _ c.in_ok-new.ensures.answer.2 }

pub turn-requires-2 : goal.turn-requires-2
turn-requires-2 g c =
    let ok = turn_lawful c.args.capacity _ c.in_ok-new.ensures.answer.2 in
    let a = rw c.turn.ensures.after at c.apply-answer.ensures.answer in
    record { in_week = lawful_week c.args.capacity _ (applied_lawful _ (g.met.X.Rule.sound c.args.self.now.rule) _ _ _ _ ok a) }
