use Rattle.std.proofs.Common.{◌<◌, length, arith}
use Rattle.elastic.proofs.Counting.{counted_again, counted_first}
use Rattle.elastic.proofs.profile.PointCount.add.Goals as goal

pub returns-then-not-self-place : goal.returns-then-not-self-place
returns-then-not-self-place c = record {
  more = omega arith;
  after = λ us ts ts' different h before.
      let room : c.args.place < length c.args.self.now.marks = omega (arith, c.requires.within) in
      counted_first us ts ts' _ _ _ different h before c.if-not-self-place.true room;
}

pub returns-else-not-self-place : goal.returns-else-not-self-place
returns-else-not-self-place c = record { more = omega arith; after = λ us ts ts' different h before. counted_again us ts ts' _ _ _ different h before c.if-not-self-place.false }
