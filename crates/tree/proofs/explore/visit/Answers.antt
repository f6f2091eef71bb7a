use Rattle.tree.specs.Private.Stack.{closing, forking}
use Rattle.tree.proofs.Visits.{fork_in_week, fork_has_room}
use Rattle.tree.proofs.explore.visit.Goals as goal

pub fork-requires-clause-in_week : goal.fork-requires-clause-in_week
fork-requires-clause-in_week g c =
    let left = rw c.as_mut_slice-lots.ensures.value at c.in-Fork.ensures.answer in
    fork_in_week _ (g.met.R.Rule.sound c.args.rule.now) _ _ _ _ c.requires.standing.0.0 left.0 _ left.1

pub fork-requires-clause-room : goal.fork-requires-clause-room
fork-requires-clause-room g c =
    let left = rw c.as_mut_slice-lots.ensures.value at c.in-Fork.ensures.answer in
    fork_has_room _ (g.met.R.Rule.sound c.args.rule.now) _ _ _ _ c.requires.standing.0.0 left.0 _ left.1 _ _ _ c.requires.standing

pub returns-in-Closed-clause-advances : goal.returns-in-Closed-clause-advances
returns-in-Closed-clause-advances g c = closing (rw c.as_mut_slice-lots.ensures.value at c.in-Closed.ensures.answer)

pub returns-in-Found-clause-advances : goal.returns-in-Found-clause-advances
returns-in-Found-clause-advances g c = closing (rw c.as_mut_slice-lots.ensures.value at c.in-Found.ensures.answer)

pub returns-in-Fork-clause-advances : goal.returns-in-Fork-clause-advances
returns-in-Fork-clause-advances g c =
    let left = rw c.as_mut_slice-lots.ensures.value at c.in-Fork.ensures.answer in
    rw c.fork.ensures.forked (forking _ left.0 left.1)
