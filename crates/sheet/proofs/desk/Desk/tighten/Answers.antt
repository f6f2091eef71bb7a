use Rattle.std.proofs.Common.{◌∙◌, ap}
use Rattle.sheet.specs.Private.Pages.{bytes_of}
use Rattle.sheet.specs.Sheets.{Desk}
use Rattle.sheet.proofs.Steps.{tighten_room}
use Rattle.sheet.proofs.desk.Desk.tighten.Goals as goal

pub print_tighten-requires : goal.print_tighten-requires
print_tighten-requires g c = record {
  room = tighten_room _ (g.met.R.Rule.sound c.args.rule.now) c.args.self.now c.args.page.now c.requires.ready c.self.inside.plan c.tighten-verdict.new.self _ _ _ _
      (ap (λ (D : Desk). D.plan) c.self.view_is) (ap bytes_of c.deref.ensures.0 ∙ ap (λ (D : Desk). D.names) c.self.view_is) c.lots.ensures.exact c.tighten-verdict.ensures.exact;
}
