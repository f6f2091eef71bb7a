use Rattle.std.proofs.Common.{arith}
use Rattle.elastic.proofs.Held.{few_passed}
use Rattle.elastic.proofs.profile.Profile.passed_by.Goals as goal

pub offset_bounds-self-passed : goal.offset_bounds-self-passed
offset_bounds-self-passed c = let few = few_passed c.args.self.now in omega (arith, c.loop-passed.invariant.few)

pub bounds-self-passed : goal.bounds-self-passed
bounds-self-passed c = omega (arith, few_passed c.args.self.now, c.loop-passed.invariant.few)
