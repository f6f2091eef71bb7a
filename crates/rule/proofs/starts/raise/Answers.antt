use Rattle.std.proofs.Common.{sym, ◌∙◌, arith}
use Rattle.std.proofs.lemmas.List.{set-get_or}
use Rattle.rule.proofs.Raising.{kept_later, moved_later, moved_other, verdict_from_changed}
use Rattle.rule.proofs.starts.raise.Goals as goal
use Rattle.rule.proofs.starts.raise.Goals.{then-lot-bound, else-lot-bound}

pub loop-number-preserved : goal.loop-number-preserved
loop-number-preserved c =
    let r = c.loop-number.invariant.0 in
    elim c.if-lot-bound.branch [
      | then-lot-bound w ↦ (
        moved_later r (omega arith) c.bound_of-bound.ensures.answer w.if-lot-bound.true w.lots-is,
        rw w.verdict-is (moved_other r (omega arith) c.bound_of-bound.ensures.answer w.if-lot-bound.true w.lots-is),
      )
      | else-lot-bound w ↦ (
        kept_later r (omega arith) c.bound_of-bound.ensures.answer w.if-lot-bound.false w.lots-is,
        rw (w.verdict-is, w.lots-is, set-get_or) c.loop-number.invariant.1,
      )
    ]

pub returns : goal.returns
returns c = record {
  answer =
      verdict_from_changed _ c.loop-number.invariant.0 c.loop-number-test.false c.loop-number.auto.lots
      (sym c.every_run_fits.ensures.answer ∙ c.if-not-every_run_fits.false) c.loop-number.invariant.1;
}
