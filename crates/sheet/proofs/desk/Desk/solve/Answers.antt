use Rattle.std.proofs.Common.{◌∙◌, refl, ap, replicate}
use Rattle.sheet.specs.Private.Pages.{bytes_of}
use Rattle.tree.specs.Answer.{max_trail}
use Rattle.sheet.specs.Sheets.{Desk}
use Rattle.sheet.proofs.Steps.{solve_room, solve_refused}
use Rattle.sheet.proofs.desk.Desk.solve.Goals as goal

pub returns-in_err-answer-clause-ran : goal.returns-in_err-answer-clause-ran
returns-in_err-answer-clause-ran g c =
    solve_refused _ (g.met.R.Rule.sound c.args.rule.now) c.args.self.now c.args.page.now c.self.inside.plan c.args.budget _ _ _ _ c.in_err-answer.field-0.0 c.from_residual.result
    (ap (λ (D : Desk). D.plan) c.self.view_is) refl refl c.in_err-answer.ensures.exact c.from_residual.ensures.1

pub print_solve-requires : goal.print_solve-requires
print_solve-requires g c = record {
  room = solve_room _ (g.met.R.Rule.sound c.args.rule.now) c.args.self.now c.args.page.now c.self.inside.plan c.args.budget (replicate max_trail c.default-trail.result) _ _ _ c.in_ok-answer.answer _ c.requires.ready
      (ap (λ (D : Desk). D.plan) c.self.view_is) (ap bytes_of c.deref.ensures.0 ∙ ap (λ (D : Desk). D.names) c.self.view_is) refl refl c.in_ok-answer.ensures.exact;
}
