use Rattle.std.proofs.Common.{add-one, arith}
use Rattle.std.proofs.lemmas.Grind.{common_steps}
use Rattle.rule.specs.Settled.{none}
use Rattle.rule.proofs.Settling.{moves_more, settled_still, settled_moved}
use Rattle.rule.proofs.Slack.{slack_fits, moved_falls}
use Rattle.rule.proofs.fixpoint.settle.Goals as goal
use Rattle.rule.proofs.fixpoint.settle.Goals.{then-moves-eq0, else-moves-eq0}

pub unwrap-before-requires : goal.unwrap-before-requires
unwrap-before-requires g c =
    let few = c.in_ok-new.ensures.answer.2.few_lots in
    grind (arith, common_steps)

pub loop-moves-init : goal.loop-moves-init
loop-moves-init g c =
    let ok = c.in_ok-new.ensures.answer.2 in record {
      lawful_before = ok;
      lawful = ok;
      moved = none;
      room = omega arith;
      most = slack_fits _ _ ok;
    }

pub loop-moves-smaller : goal.loop-moves-smaller
loop-moves-smaller g c =
    let a = rw c.in-Moved.is at c.in_ok-apply.ensures.answer in
    (moved_falls _ (g.met.R.Rule.sound c.args.rule.now) _ _ _ a.0 a.1.0 a.1.1).1

pub loop-moves-preserved : goal.loop-moves-preserved
loop-moves-preserved g c =
    let a = rw c.in-Moved.is at c.in_ok-apply.ensures.answer in
    let f = moved_falls _ (g.met.R.Rule.sound c.args.rule.now) _ _ _ a.0 a.1.0 a.1.1 in record {
      lawful_before = c.loop-moves.invariant.lawful_before;
      lawful = f.0;
      moved = moves_more c.loop-moves.invariant.moved a.1.0 a.1.1;
      room = omega (arith, f.1);
      most = c.loop-moves.invariant.most;
    }

pub returns-in-Still : goal.returns-in-Still
returns-in-Still g c = record {
  answer =
      let a = rw c.in-Still.is at c.in_ok-apply.ensures.answer in
      let h = c.loop-moves.invariant in
      elim c.if-moves-eq0.branch [
        | then-moves-eq0 w ↦ (h.lawful_before, rw w.verdict-is (settled_still h.moved a.1.0 a.1.1 w.if-moves-eq0.true), omega arith)
        | else-moves-eq0 w ↦ (h.lawful_before, rw w.verdict-is (settled_moved h.moved a.1.0 a.1.1 (omega arith)), omega arith)
      ];
}

pub returns-in-Dead : goal.returns-in-Dead
returns-in-Dead g c = record {
  answer =
      let a = rw c.in-Dead.is at c.in_ok-apply.ensures.answer in
      let h = c.loop-moves.invariant in
      (h.lawful_before, (_, _, add-one _, h.moved, a.1.0, grind (arith, common_steps)), omega arith);
}
