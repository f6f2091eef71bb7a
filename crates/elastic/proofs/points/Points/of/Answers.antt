use Rattle.std.proofs.Common.{ℕ, ◌+◌, ◌*◌, ◌<◌, length, [], sym, take, subst, arith}
use Rattle.std.proofs.lemmas.List.{length-take-le, take_more}
use Rattle.std.proofs.ByRecursion.{All-get_or}
use Rattle.lots.specs.Limits.{max_capacity, max_lots}
use Rattle.lots.specs.Tables.{LawfulLot, lot_at}
use Rattle.lots.specs.declared.table.Table.{Table}
use Rattle.lots.proofs.Tables.{lawful_under_most}
use Rattle.elastic.specs.Profile.{points_of_a_lot}
use Rattle.elastic.specs.Private.Points.{Small, Profiles}
use Rattle.elastic.proofs.Profiles.{Few, few_from_profile, few_more, few_small, entered_as, small_at_est, small_at_ect, profiles_none, profiles_push}
use Rattle.elastic.proofs.points.Points.of.Goals as goal
use Rattle.elastic.proofs.points.Points.of.Goals.{After-at_est, After-at_ect, After-at_lct}

-- the next lot is lawful, and few lots came before it
next_lawful : (s : Table) (i : ℕ) → i < length s.lots.now → LawfulLot max_capacity (lot_at s.lots.now i)
next_lawful s i h = All-get_or _ _ _ _ h (lawful_under_most s.capacity s.lots.now s.lawful).each

few_before : (s : Table) (i : ℕ) → i < length s.lots.now → length (take i s.lots.now) < max_lots
few_before s i h = omega (arith, length-take-le i s.lots.now (omega arith), (lawful_under_most s.capacity s.lots.now s.lawful).few_lots)

few_at : (c : After-at_est) → Few (points_of_a_lot * length (take c.loop-lot.lot-index c.args.table.lots.now)) c.loop-lot.points.row
few_at c = few_from_profile _ _ c.loop-lot.invariant

few_then : (c : After-at_ect) → Few (points_of_a_lot * length (take c.loop-lot.lot-index c.args.table.lots.now) + 1) c.enter.new.self.row
few_then c =
    let ok = next_lawful c.args.table _ c.loop-lot-test.true in
    few_more _ _ _ _ (few_from_profile _ _ c.loop-lot.invariant) (subst (Small max_capacity) (sym c.at_est.ensures.answer) (small_at_est _ ok)) c.enter.ensures.after

few_last : (c : After-at_lct) → Few (points_of_a_lot * length (take c.loop-lot.lot-index c.args.table.lots.now) + 1 + 1) c.enter-in-loop-lot.new.self.row
few_last c =
    let ok = next_lawful c.args.table _ c.loop-lot-test.true in
    let then = few_more _ _ _ _ (few_from_profile _ _ c.loop-lot.invariant) (subst (Small max_capacity) (sym c.at_est.ensures.answer) (small_at_est _ ok)) c.enter.ensures.after in
    few_more _ _ _ _ then (subst (Small max_capacity) (sym c.at_ect.ensures.answer) (small_at_ect _ ok)) c.enter-in-loop-lot.ensures.after

pub loop-lot-init : goal.loop-lot-init
loop-lot-init c = subst (λ ps. Profiles ps [] []) (sym c.new.ensures.empty) profiles_none

pub enter-requires-clause-free : goal.enter-requires-clause-free
enter-requires-clause-free c = omega (arith, (few_at c).0, few_before c.args.table _ c.loop-lot-test.true)

pub enter-requires-clause-small : goal.enter-requires-clause-small
enter-requires-clause-small c = few_small _ _ (few_at c) (omega (arith, few_before c.args.table _ c.loop-lot-test.true))

pub enter-requires-in-loop-lot-clause-free : goal.enter-requires-in-loop-lot-clause-free
enter-requires-in-loop-lot-clause-free c = omega (arith, (few_then c).0, few_before c.args.table _ c.loop-lot-test.true)

pub enter-requires-in-loop-lot-clause-small : goal.enter-requires-in-loop-lot-clause-small
enter-requires-in-loop-lot-clause-small c = few_small _ _ (few_then c) (omega (arith, few_before c.args.table _ c.loop-lot-test.true))

pub enter-requires-in-loop-lot-2-clause-free : goal.enter-requires-in-loop-lot-2-clause-free
enter-requires-in-loop-lot-2-clause-free c = omega (arith, (few_last c).0, few_before c.args.table _ c.loop-lot-test.true)

pub enter-requires-in-loop-lot-2-clause-small : goal.enter-requires-in-loop-lot-2-clause-small
enter-requires-in-loop-lot-2-clause-small c = few_small _ _ (few_last c) (omega (arith, few_before c.args.table _ c.loop-lot-test.true))

pub loop-lot-preserved : goal.loop-lot-preserved
loop-lot-preserved c =
    let ok = next_lawful c.args.table _ c.loop-lot-test.true in
    let pushed = profiles_push _ _ _ _ _ _ c.loop-lot.invariant ok
    (entered_as _ _ _ _ c.at_est.ensures.answer c.enter.ensures.after)
    (entered_as _ _ _ _ c.at_ect.ensures.answer c.enter-in-loop-lot.ensures.after)
    (entered_as _ _ _ _ c.at_lct.ensures.answer c.enter-in-loop-lot-2.ensures.after) in
    subst (λ T. Profiles c.enter-in-loop-lot-2.new.self.row T T) (sym (take_more _ _ _ c.loop-lot-test.true)) pushed
