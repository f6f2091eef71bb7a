use Rattle.std.proofs.Common.{refl, arith, length, ◌+◌}
use Rattle.std.proofs.lemmas.Slice.{take-put_mid, drop-put_mid}
use Rattle.sheet.proofs.page.Page.put.Goals as goal
use borrow.Rule.Slice.PartMut.{same_len_mid}

pub returns-clause-adds : goal.returns-clause-adds
returns-clause-adds c =
    let n = c.args.self.now.len in
    let end = n + length c.args.bytes.now in
    record {
      longer = refl;
      text = rw c.copy_from_slice.ensures.after (take-put_mid n _ c.args.self.now.buffer.now _ end (omega (arith)) (omega (arith, c.requires.room)));
      rest = drop-put_mid n _ c.args.self.now.buffer.now _ end (omega arith) (omega (arith, c.requires.room)) (grind arith);
      same_size = same_len_mid n _ c.args.self.now.buffer.now _ c.copy_from_slice.auto.self;
    }
