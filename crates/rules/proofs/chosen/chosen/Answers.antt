use Rattle.std.proofs.Common.{length, sym, ap, ◌∙◌, arith}
use Rattle.rules.proofs.ChosenLots.{chosen_takes, chosen_skips}
use Rattle.rules.proofs.chosen.chosen.Goals as goal
use Rattle.rules.proofs.chosen.chosen.Goals.{then-test, else-test}

pub loop-number-preserved : goal.loop-number-preserved
loop-number-preserved g c = elim c.if-test.branch [
  | then-test w ↦ (
    omega (arith, ap (λ v. length v.items) w.chosen-is, w.push.ensures.len),
    λ p t.
        chosen_takes p _ _ c.loop-number-test.true _ (c.loop-number.invariant.1 p t) (sym (t _ _ _ c.test.ensures) ∙ w.if-test.true) _
        (ap (λ v. v.items) w.chosen-is ∙ w.push.ensures.items),
  )
  | else-test w ↦ (
    omega (arith, ap (λ v. length v.items) w.chosen-is),
    λ p t.
        ap (λ v. v.items) w.chosen-is
        ∙ chosen_skips p _ _ c.loop-number-test.true _ (c.loop-number.invariant.1 p t) (sym (t _ _ _ c.test.ensures) ∙ w.if-test.false),
  )
]
