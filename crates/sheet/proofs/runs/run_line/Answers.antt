use Rattle.std.proofs.Common.{refl}
use Rattle.std.proofs.lemmas.Bool.Decides.{not_from_Decides}
use Rattle.sheet.specs.Sheets.{ninth}
use Rattle.sheet.specs.Private.Said.{said_line}
use Rattle.sheet.proofs.Steps.{no_line, not_due, took_line}
use Rattle.sheet.proofs.runs.run_line.Goals as goal

pub returns-in_default-clause-took : goal.returns-in_default-clause-took
returns-in_default-clause-took g c =
    (not_due _ c.args.desk.now c.args.reader.now c.requires.goes_on (said_line c.in-Some.line) c.line.new.self c.in-Some.ensures.answer (not_from_Decides _ c.is_due.ensures.answer c.if-is_due.false), refl, refl)

pub returns-in_default-2-clause-took : goal.returns-in_default-2-clause-took
returns-in_default-2-clause-took g c =
    let none = rw c.in_default.is at c.line.ensures.answer in
    (no_line _ c.args.desk.now c.args.reader.now c.requires.goes_on none, refl, refl)

pub returns-then-is_full-clause-took : goal.returns-then-is_full-clause-took
returns-then-is_full-clause-took g c = (ninth (said_line c.in-Some.line) c.line.new.self (c.in-Some.ensures.answer, c.is_due.ensures.answer.0 c.if-is_due.true) (c.is_full.ensures.answer.0 c.if-is_full.true), refl, refl)

pub returns-clause-took : goal.returns-clause-took
returns-clause-took g c =
    took_line _ c.args.desk.now c.args.reader.now (said_line c.in-Some.line) c.line.new.self _ _ _ c.run.result (c.in-Some.ensures.answer, c.is_due.ensures.answer.0 c.if-is_due.true)
    (not_from_Decides _ c.is_full.ensures.answer c.if-is_full.false) c.run.ensures.ran
