use Rattle.std.proofs.Common.{ℕ, ◌<◌, ◌≤◌, List, arith, rules}
use Rattle.sheet.specs.Lines.{max_number}
use Rattle.sheet.specs.Private.Words.{BeginsWithNumber}
use Rattle.sheet.proofs.Reading.{no_more_numbers, too_great}
use Rattle.sheet.proofs.reader.Reader.numbers.Goals as goal

pub returns-in_err-number : goal.returns-in_err-number
returns-in_err-number g c = record {
  answer =
      let none : (n : ℕ) (rest : List ℕ) → n ≤ max_number → BeginsWithNumber c.loop-slot.self n rest → ⊥ = λ n rest small. search rules in
      rw c.from_residual.ensures (no_more_numbers _ c.args.self.now c.loop-slot.self c.loop-slot.slot-index g.row.N c.loop-slot.invariant.begun none (omega arith));
}

pub returns-in_err-slot : goal.returns-in_err-slot
returns-in_err-slot g c = record {
  answer =
      let read : BeginsWithNumber c.loop-slot.self c.in_ok-number.field-0 c.number.new.self = search rules in
      let great : max_number < c.in_ok-number.field-0 = search rules in
      rw c.from_residual-in_err-slot.ensures (no_more_numbers _ c.args.self.now c.loop-slot.self c.loop-slot.slot-index g.row.N c.loop-slot.invariant.begun (too_great c.loop-slot.self c.in_ok-number.field-0 c.number.new.self read great) (omega arith));
}
