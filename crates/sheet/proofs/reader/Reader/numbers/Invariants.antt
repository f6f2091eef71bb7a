use Rattle.std.proofs.Common.{◌≡◌, length, take}
use Rattle.sheet.specs.Private.Words.{BeginsWithNumbers}
use Rattle.sheet.proofs.reader.Reader.numbers.Given as goal

abbrev pub invariant-loop-slot : goal.invariant-loop-slot
invariant-loop-slot g l = record {
  count : length l.slot-items ≡ g.row.N;
  begun : BeginsWithNumbers l.slot-index l.fn.self (take l.slot-index l.slot-items) l.self;
}
