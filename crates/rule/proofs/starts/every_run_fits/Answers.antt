use Rattle.std.proofs.Common.{get_or, sym, ◌∙◌}
use Rattle.std.proofs.lemmas.List.{at_drop_all}
use Rattle.rule.specs.Raised.{later_lots, all_fit}
use Rattle.rule.proofs.Raising.{fit_more}
use Rattle.rule.proofs.starts.every_run_fits.Goals as goal

pub loop-number-preserved : goal.loop-number-preserved
loop-number-preserved c =
    let held = rw c.bound_of.ensures.answer at (sym c.fits.ensures.answer ∙ c.if-not-fits.false) in
    sym (rw held at (fit_more (λ j. get_or c.args.bounds.now j 0) c.args.lots.now c.loop-number.number c.loop-number-test.true))
    ∙ c.loop-number.invariant

pub returns-then-not-fits : goal.returns-then-not-fits
returns-then-not-fits c = record {
  answer =
      let failed = rw c.bound_of.ensures.answer at (sym c.fits.ensures.answer ∙ c.if-not-fits.true) in
      sym (rw failed at (fit_more (λ j. get_or c.args.bounds.now j 0) c.args.lots.now c.loop-number.number c.loop-number-test.true))
      ∙ c.loop-number.invariant;
}

pub returns : goal.returns
returns c = record {
  answer =
      sym (at_drop_all (λ xs. all_fit (later_lots (λ j. get_or c.args.bounds.now j 0) c.loop-number.number xs)) _ _ c.loop-number-test.false)
      ∙ c.loop-number.invariant;
}
