use Rattle.std.proofs.Common.{length, sym, ap, ◌∙◌, subst, arith}
use Rattle.tree.specs.Private.Held.{best_known}
use Rattle.tree.specs.Private.Stack.{unvisited, Advances}
use Rattle.tree.specs.declared.trail.Trail.{Trail}
use Rattle.tree.proofs.Explorations.{first_node, goes_on, stops}
use Rattle.tree.proofs.explore.explore.Goals as goal
use Rattle.tree.proofs.explore.explore.Goals.{else-loop-nodes-test, then-loop-nodes-test+in_default}

pub loop-nodes-init : goal.loop-nodes-init
loop-nodes-init g c =
    let alone = rw c.over-trail.ensures.empty.0 at c.push.ensures.pushed in
    let first = first_node (g.R.Rule.meaning c.args.rule.now) c.args.table.capacity c.args.table.lots.now _ alone c.args.table.lawful in record {
      table_len = c.push.ensures.same_len ∙ c.over-trail.ensures.empty.1;
      standing = first.0;
      searching = first.1;
      within = omega arith;
    }

pub loop-nodes-preserved : goal.loop-nodes-preserved
loop-nodes-preserved g c =
    let m = g.R.Rule.meaning c.args.rule.now in
    let i = c.loop-nodes.invariant in
    let b = best_known c.loop-nodes.best in
    let a = best_known c.visit.new.best in
    let step = subst (λ Ts. Advances m c.args.table.capacity b Ts a (unvisited c.visit.new.trail)) (sym c.in-Some.ensures.popped) c.visit.ensures.advances in
    let on = goes_on m (g.met.R.Rule.sound c.args.rule.now) c.args.table.capacity _ c.args.table.lots.now b a _ _ _ step i.standing i.searching in record {
      table_len = c.visit.ensures.same_len ∙ c.in-Some.ensures.same_len ∙ i.table_len;
      standing = on.0;
      searching = on.1;
      within = omega arith;
    }

pub returns : goal.returns
returns g c = record {
  answer =
      let i = c.loop-nodes.invariant in
      let trail = c.loop-nodes.trail in
      let stopped =
      stops (g.R.Rule.meaning c.args.rule.now) (g.met.R.Rule.sound c.args.rule.now) c.args.table.capacity (length c.args.table.lots.now) c.args.budget c.args.table.lots.now (best_known c.loop-nodes.best) trail.table_len trail.depth c.loop-nodes.nodes trail.cells.now c.is_empty.result i.standing i.searching i.within in
      elim c.loop-nodes-test.branch [
        | else-loop-nodes-test w ↦ stopped (λ h. omega (arith, w.loop-nodes-test.false)) (rw w.trail-is at c.is_empty.ensures.answer)
        | then-loop-nodes-test+in_default w ↦
            let none = w.in_default.ensures.popped in
            stopped (λ h. absurd (omega (arith, none.0))) (λ e. none.0, λ e. c.is_empty.ensures.answer.1 (ap (λ (t : Trail). t.depth) w.trail-is ∙ none.1))
      ];
}
