use Rattle.std.proofs.Common.{ap, ◌∙◌, sym, arith}
use Rattle.elastic.specs.Private.Walks.{rest}
use Rattle.elastic.proofs.Minutes.{usable_before, usable_after}
use Rattle.elastic.proofs.Walks.{bounds, rest_few, rest_on}
use Rattle.elastic.proofs.walk.State.left_by.Goals as goal

pub overflow_sub-minute : goal.overflow_sub-minute
overflow_sub-minute c = (bounds _ _ _ _ _ _ _ _ _ c.requires.walk.4 c.requires.walk.5).later

pub left_after-requires : goal.left_after-requires
left_after-requires c =
    let b = bounds _ _ _ _ _ _ _ _ _ c.requires.walk.4 c.requires.walk.5 in
    record { left_few = b.left_few; span_short = omega (arith, b.in_week); available_few = b.available_few; required_few = b.required_few }

pub returns-then-minute-until : goal.returns-then-minute-until
returns-then-minute-until c = record {
  answer = λ T Ω ps j w e.
      rest_on _ _ _ T Ω ps j _ w c.args.self.minute c.args.minute _ c.args.self.left _ (omega arith) (bounds _ _ _ T Ω ps j _ _ w e).later (omega (arith, e))
      (λ t h k. usable_before _ _ _ t (omega arith)) (w.stands.left ∙ ap (rest _ Ω) (sym w.stands.minute)) c.left_after.ensures.answer;
}

pub overflow_sub-minute-then-until-self : goal.overflow_sub-minute-then-until-self
overflow_sub-minute-then-until-self c = (bounds _ _ _ _ _ _ _ _ _ c.requires.walk.4 c.requires.walk.5).later

pub left_after-requires-then-until-self : goal.left_after-requires-then-until-self
left_after-requires-then-until-self c =
    let b = bounds _ _ _ _ _ _ _ _ _ c.requires.walk.4 c.requires.walk.5 in
    record { left_few = b.left_few; span_short = omega (arith, b.in_week); available_few = b.available_few; required_few = b.required_few }

pub returns-then-until-self : goal.returns-then-until-self
returns-then-until-self c = record {
  answer = λ T Ω ps j w e.
      rest_on _ _ _ T Ω ps j _ w c.args.self.minute c.args.minute _ c.args.self.left _ (omega arith) (bounds _ _ _ T Ω ps j _ _ w e).later (omega (arith, e))
      (λ t h k. usable_after _ _ _ t (omega arith)) (w.stands.left ∙ ap (rest _ Ω) (sym w.stands.minute)) c.left_after-then-until-self.ensures.answer;
}

pub left_after-left-requires : goal.left_after-left-requires
left_after-left-requires c =
    let b = bounds _ _ _ _ _ _ _ _ _ c.requires.walk.4 c.requires.walk.5 in
    record { left_few = b.left_few; span_short = omega (arith, b.in_week); available_few = b.available_few; required_few = b.required_few }

pub left_after-requires-2 : goal.left_after-requires-2
left_after-requires-2 c =
    let w = c.requires.walk.4 in
    let b = bounds _ _ _ _ _ _ _ _ _ w c.requires.walk.5 in
    let there = rest_on _ _ _ _ _ _ _ _ w c.args.self.minute c.args.beside.until _ c.args.self.left _ (omega arith) (omega arith) (omega (arith, c.requires.walk.5))
    (λ t h k. usable_before _ _ _ t k) (w.stands.left ∙ ap (rest _ _) (sym w.stands.minute)) c.left_after-left.ensures.answer in
    record {
      left_few = omega (arith, there, rest_few _ _ _ _ _ _ _ _ w c.args.beside.until (omega (arith, c.requires.walk.5)));
      span_short = omega (arith, b.in_week);
      available_few = b.available_few;
      required_few = b.required_few;
    }

pub returns : goal.returns
returns c = record {
  answer = λ T Ω ps j w e.
      let there = rest_on _ _ _ T Ω ps j _ w c.args.self.minute c.args.beside.until _ c.args.self.left _ (omega arith) (omega arith) (omega (arith, e))
      (λ t h k. usable_before _ _ _ t k) (w.stands.left ∙ ap (rest _ Ω) (sym w.stands.minute)) c.left_after-left.ensures.answer in
      rest_on _ _ _ T Ω ps j _ w c.args.beside.until c.args.minute _ _ _ (omega arith) (omega arith) (omega (arith, e))
      (λ t h k. usable_after _ _ _ t h) there c.left_after-2.ensures.answer;
}
