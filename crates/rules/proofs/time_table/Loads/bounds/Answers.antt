use Rattle.std.proofs.Common.{◌∙◌, arith}
use Rattle.std.proofs.lemmas.List.{length-set}
use Rattle.std.proofs.lemmas.List.Edits.{fill_by_more}
use Rattle.rules.specs.TimeTable.{bound_of}
use Rattle.rules.proofs.Loads.{lots_few, lot_lawful, bound_read}
use Rattle.rules.proofs.time_table.Loads.bounds.Goals as goal

pub bound-requires : goal.bound-requires
bound-requires c = record { lawful = lot_lawful c.args.self.now.table _ c.loop-number-test.true }

pub loop-number-preserved : goal.loop-number-preserved
loop-number-preserved c =
    let table = c.args.self.now.table in
    let is = c.bound.ensures.answer ∙ bound_read c.args.self.now _ c.loop-number-test.true in (
      length-set _ _ _ ∙ c.loop-number.invariant.0,
      rw is (fill_by_more (bound_of table.capacity table.lots.now) _ _ 0 (omega (arith, c.loop-number.invariant.0, lots_few table)) c.loop-number.invariant.1),
    )
