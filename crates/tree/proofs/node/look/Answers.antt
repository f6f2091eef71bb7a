use Rattle.std.proofs.lemmas.Bool.Decides.{not_from_Decides}
use Rattle.tree.proofs.Looks.{settles_ok, cut_late, cut_lawful, cut_dead, alive_lawful, alive_leaves, alive_found, alive_above}
use Rattle.tree.proofs.node.look.Goals as goal

pub returns-then-not-cut_under : goal.returns-then-not-cut_under
returns-then-not-cut_under g c = record { answer = cut_late _ (g.met.R.Rule.sound c.args.rule.now) _ _ _ _ c.requires.lawful c.cut_under.ensures.after (not_from_Decides _ c.cut_under.ensures.fits c.if-not-cut_under.true) }

pub unwrap-verdict-requires : goal.unwrap-verdict-requires
unwrap-verdict-requires g c =
    settles_ok (g.R.Rule.meaning c.args.rule.now) c.args.capacity c.cut_under.new.lots _ _ (cut_lawful _ (g.met.R.Rule.sound c.args.rule.now) _ _ _ _ c.requires.lawful c.cut_under.ensures.after (c.cut_under.ensures.fits.0 c.if-not-cut_under.false)) c.settle.ensures.answer

pub returns-in-Dead : goal.returns-in-Dead
returns-in-Dead g c = record {
  answer =
      let s = rw c.in-Dead.is at (rw c.unwrap-verdict.ensures at c.settle.ensures.answer) in
      cut_dead _ (g.met.R.Rule.sound c.args.rule.now) _ _ _ _ c.requires.lawful c.cut_under.ensures.after (c.cut_under.ensures.fits.0 c.if-not-cut_under.false) _ _ s.1;
}

pub returns-in-Some : goal.returns-in-Some
returns-in-Some g c = record {
  answer =
      let s = rw c.unwrap-verdict.ensures at c.settle.ensures.answer in (
        alive_leaves _ (g.met.R.Rule.sound c.args.rule.now) _ _ _ _ c.requires.lawful c.cut_under.ensures.after (c.cut_under.ensures.fits.0 c.if-not-cut_under.false) _ _ _ c.in_default.not-Dead s.1,
        c.in-Some.ensures.answer,
      );
}

pub invariant_of-table : goal.invariant_of-table
invariant_of-table g c =
    let s = rw c.unwrap-verdict.ensures at c.settle.ensures.answer in record {
      lawful = alive_lawful _ (g.met.R.Rule.sound c.args.rule.now) _ _ _ _ c.requires.lawful c.cut_under.ensures.after (c.cut_under.ensures.fits.0 c.if-not-cut_under.false) _ _ _ c.in_default.not-Dead s.1;
    }

pub returns-then-is_within : goal.returns-then-is_within
returns-then-is_within g c = record {
  answer =
      let s = rw c.unwrap-verdict.ensures at c.settle.ensures.answer in
      alive_found _ (g.met.R.Rule.sound c.args.rule.now) _ _ _ _ c.requires.lawful c.cut_under.ensures.after (c.cut_under.ensures.fits.0 c.if-not-cut_under.false) _ _ _ c.in_default.not-Dead s.1
      c.in_default-branch_lot.ensures.answer _ _ c.of.ensures.starts c.of.ensures.end c.if-is_within.ensures.answer;
}

pub returns-else-is_within : goal.returns-else-is_within
returns-else-is_within g c = record {
  answer =
      let s = rw c.unwrap-verdict.ensures at c.settle.ensures.answer in
      alive_above _ (g.met.R.Rule.sound c.args.rule.now) _ _ _ _ c.requires.lawful c.cut_under.ensures.after (c.cut_under.ensures.fits.0 c.if-not-cut_under.false) _ _ _ c.in_default.not-Dead s.1
      c.in_default-branch_lot.ensures.answer c.if-is_within.ensures.answer;
}
