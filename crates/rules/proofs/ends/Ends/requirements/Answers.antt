use Rattle.std.proofs.Common.{true, ap, ◌∙◌, subst, rules, arith}
use Rattle.std.proofs.lemmas.List.{length-set}
use Rattle.lots.specs.declared.table.Table.{Table}
use Rattle.lots.proofs.Tables.{lawful_under_most}
use Rattle.elastic.specs.Profile.{creq, IsGreatest}
use Rattle.rules.proofs.Growing.{holds_more, due_held}
use Rattle.rules.proofs.Requirements.{required_more}
use Rattle.rules.proofs.ends.Ends.requirements.Goals as goal

pub loop-end-preserved : goal.loop-end-preserved
loop-end-preserved c =
    let before = c.loop-end.invariant in
    let T = c.args.self.now.table.lots.now in
    let es = c.as_slice-end-items.result.now in
    let i = c.loop-end.end-index in
    let here = c.loop-end-test.true in
    let same = c.grow.ensures.table ∙ before.table in
    let grown = c.grow.ensures.grown (λ k x. true) (λ k x b q. search rules) in
    let holds = holds_more T (λ k x. true) es i here _ _ _ before.holds grown in
    let due = due_held T es before.distinct i here c.grow.new.profile (ap (λ (t : Table). t.lots.now) same) holds in
    record {
      distinct = before.distinct;
      table = same;
      holds = holds;
      long = length-set _ _ _ ∙ before.long;
      so_far = required_more T es before.distinct c.loop-end.most i c.most_required.result here
          (omega (arith, before.long, (lawful_under_most _ _ c.args.self.now.table.lawful).few_lots))
          (subst (λ Ω. IsGreatest (creq Ω) c.most_required.result) due c.most_required.ensures.greatest)
          before.so_far;
    }

pub returns-clause-answer : goal.returns-clause-answer
returns-clause-answer c = rw (← c.as_slice-end-items.ensures.row) (λ n h. c.loop-end.invariant.so_far n (omega (arith, h, c.loop-end-test.false)))
