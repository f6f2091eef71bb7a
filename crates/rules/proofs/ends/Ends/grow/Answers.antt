use Rattle.std.proofs.Common.{◌<◌, length, sym, ap, ◌∙◌, arith}
use Rattle.lots.specs.declared.table.Table.{Table}
use Rattle.elastic.specs.Added.{table_of}
use Rattle.rules.proofs.EndChains.{growing_from, growing_added, growing_skipped, grown_from}
use Rattle.rules.proofs.ends.Ends.grow.Goals as goal
use Rattle.rules.proofs.ends.Ends.grow.Goals.{then-test, else-test}

pub loop-number-init : goal.loop-number-init
loop-number-init g c = record {
  table = c.requires.table;
  on_chain = λ h. c.requires.lowest.has_end;
  growing = λ p tests. growing_from _ p c.args.end c.requires.lowest c.args.profile.now;
}

pub loop-number-preserved : goal.loop-number-preserved
loop-number-preserved g c =
    let before = c.loop-number.invariant in
    let n = c.loop-number.number in
    let here = c.loop-number-test.true in
    let next = c.args.self.now.chained n here in
    let at = before.on_chain here in
    elim c.if-test.branch [
      | then-test w ↦
          let is_lot : n < length (table_of c.loop-number.profile).lots.now = omega (arith, ap (λ (x : Table). length x.lots.now) before.table, here) in
          record {
            table = ap table_of w.profile-is ∙ w.add.ensures.table ∙ before.table;
            on_chain = λ more. next.same_end more ∙ at;
            growing = λ p tests. rw (w.profile-is, w.any-is) (growing_added _ p _ n _ here at next _ _ _ (before.growing p tests) (sym (tests _ _ _ c.test.ensures) ∙ w.if-test.true) _ _ is_lot w.add.ensures.added);
          }
      | else-test w ↦ record {
        table = ap table_of w.profile-is ∙ before.table;
        on_chain = λ more. next.same_end more ∙ at;
        growing = λ p tests. rw (w.profile-is, w.any-is) (growing_skipped _ p _ n _ here at next _ _ _ (before.growing p tests) (sym (tests _ _ _ c.test.ensures) ∙ w.if-test.false));
      }
    ]

pub returns-clause-table : goal.returns-clause-table
returns-clause-table g c = c.loop-number.invariant.table ∙ sym c.requires.table

pub returns-clause-grown : goal.returns-clause-grown
returns-clause-grown g c p tests = grown_from _ p _ _ c.loop-number-test.false _ _ _ (c.loop-number.invariant.growing p tests)
