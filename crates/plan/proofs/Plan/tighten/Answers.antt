use Rattle.std.proofs.Common.{◌≡◌, length, arith, rules}
use Rattle.std.proofs.lemmas.Grind.{common_steps}
use Rattle.arrayvec.proofs.ArrayVecLemmas.{items-with_items}
use Rattle.arrayvec.specs.ArrayVec.{array_vec_len}
use Rattle.rule.proofs.Chains.{settles_lawful}
use Rattle.plan.proofs.Histories.{tighten_follows}
use Rattle.plan.proofs.Plan.tighten.Goals as goal

pub invariant_of-self : goal.invariant_of-self
invariant_of-self g c =
    let plan = c.self.inside in
    let sound = g.met.R.Rule.sound c.args.rule.now in
    let n : length c.settle.new.lots ≡ array_vec_len plan.lots = search rules in
    rw (items-with_items plan.lots c.settle.new.lots n)
    (settles_lawful _ sound plan.capacity plan.lots.items _ c.settle.result c.self.invariant (grind (arith, common_steps)))

pub returns-clause-follows : goal.returns-clause-follows
returns-clause-follows g c =
    let sound = g.met.R.Rule.sound c.args.rule.now in
    tighten_follows _ sound c.args.self.now _ c.unwrap.result.0 c.unwrap.result.1 (grind (arith, common_steps))
