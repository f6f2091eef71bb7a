use Rattle.std.proofs.Common.{[], IsTrue, rules}
use Rattle.sheet.proofs.Pages.{adds_nothing}
use Rattle.sheet.proofs.Steps.{took_next, prints_end, refused_room}
use Rattle.sheet.proofs.runs.run_lines.Goals as goal
use Rattle.sheet.proofs.runs.run_lines.Goals.{then-is_at_end, else-is_at_end}

pub print_refusal-requires : goal.print_refusal-requires
print_refusal-requires g c =
    let held = c.loop-desk.invariant in
    let took = c.in-Err.ensures.took in
    record { room = refused_room c.loop-desk.desk c.run_line.new.desk c.loop-desk.page c.run_line.new.page c.in-Err.refusal _ held.orderly held.time held.room took.1 took.2 c.line.ensures.answer }

pub loop-desk-preserved : goal.loop-desk-preserved
loop-desk-preserved g c =
    let held = c.loop-desk.invariant in
    let next = took_next _ (g.met.R.Rule.sound c.args.rule.now) c.loop-desk.desk c.loop-desk.reader c.run_line.new.desk c.run_line.new.reader c.loop-desk.page c.run_line.new.page held.orderly held.room c.in_default.ensures.took in
    record {
      same_buffer = cc;
      orderly = next.orderly;
      time = next.time;
      room = next.room;
      prints = λ out q printed added. let all = next.prints out q printed added in held.prints all.0 q all.1 all.2;
    }

pub returns-clause-adds : goal.returns-clause-adds
returns-clause-adds g c =
    elim c.if-is_at_end.branch [
      | then-is_at_end w ↦
          let ended : IsTrue w.may_end.result = search rules in
          c.loop-desk.invariant.prints [] c.loop-desk.page (prints_end _ c.loop-desk.desk c.loop-desk.reader (c.is_at_end.ensures.answer.0 w.if-is_at_end.true) (w.may_end.ensures.answer.0 ended)) (adds_nothing c.loop-desk.page)
      | else-is_at_end w ↦ absurd (search rules)
    ]
