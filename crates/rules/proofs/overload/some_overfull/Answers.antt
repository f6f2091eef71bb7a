use Rattle.std.proofs.Common.{get_or, false, true, sym, ap, ◌∙◌, subst, inl, inr, rules, arith}
use Rattle.std.proofs.lemmas.Bool.{cases_eq, lt-ltb, le-ltb}
use Rattle.lots.specs.declared.table.Table.{Table}
use Rattle.rules.specs.Chosen.{is_overfull}
use Rattle.rules.specs.Overload.{due_lots}
use Rattle.rules.specs.Private.Ends.{end_at, DistinctEnds}
use Rattle.rules.proofs.Growing.{holds_more}
use Rattle.rules.proofs.OverloadEnds.{some_at, none_at, left_due}
use Rattle.rules.proofs.overload.some_overfull.Goals as goal

pub loop-end-init : goal.loop-end-init
loop-end-init c = record {
  distinct = subst (λ (U : Table). DistinctEnds U.lots.now c.as_slice-end-items.result.now) c.of-ends.ensures.table (rw c.as_slice-end-items.ensures.row c.of-ends.result.distinct);
  table = search rules;
  holds = search rules;
  none = λ n l. absurd (omega arith);
}

pub loop-end-preserved : goal.loop-end-preserved
loop-end-preserved c =
    let before = c.loop-end.invariant in
    let table = c.args.table in
    let es = c.as_slice-end-items.result.now in
    let i = c.loop-end.end-index in
    let here = c.loop-end-test.true in
    let same = c.grow.ensures.table ∙ before.table in
    let grown = rw c.of-ends.ensures.table at (c.grow.ensures.grown (λ k x. true) (λ k x b q. search rules)) in
    let holds = holds_more table.lots.now (λ k x. true) es i here _ _ _ before.holds grown in
    let left = left_due table es before.distinct i here c.grow.new.profile same holds _ c.overflow-left.ensures.left in
    record {
      distinct = before.distinct;
      table = c.overflow-left.ensures.table ∙ same;
      holds = λ k h. ap (λ bs. get_or bs k false) c.overflow-left.ensures.added ∙ holds k h;
      none = λ n h. elim (cases_eq n i) [
        | inl e ↦ ap (λ j. is_overfull table.capacity (due_lots (end_at es j).lct table.lots.now)) e ∙ le-ltb 0 _ (omega (arith, left, c.if-left-gt0.false))
        | inr ne ↦ before.none n (omega arith)
      ];
    }

pub returns-then-left-gt0 : goal.returns-then-left-gt0
returns-then-left-gt0 c = record {
  answer =
      let before = c.loop-end.invariant in
      let table = c.args.table in
      let es = c.as_slice-end-items.result.now in
      let i = c.loop-end.end-index in
      let here = c.loop-end-test.true in
      let grown = rw c.of-ends.ensures.table at (c.grow.ensures.grown (λ k x. true) (λ k x b q. search rules)) in
      let holds = holds_more table.lots.now (λ k x. true) es i here _ _ _ before.holds grown in
      let left = left_due table es before.distinct i here c.grow.new.profile (c.grow.ensures.table ∙ before.table) holds _ c.overflow-left.ensures.left in
      sym (some_at table es before.distinct i here (lt-ltb 0 _ (omega (arith, left, c.if-left-gt0.true))));
}

pub returns : goal.returns
returns c = record {
  answer = sym (none_at c.args.table _ c.loop-end.invariant.distinct (λ n h. c.loop-end.invariant.none n (omega (arith, h, c.loop-end-test.false))));
}
