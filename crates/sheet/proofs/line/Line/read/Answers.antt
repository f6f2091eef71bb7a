use Rattle.std.proofs.Common.{ℕ, List, rules}
use Rattle.sheet.specs.Private.Words.{BeginsWithNumbers}
use Rattle.sheet.proofs.Letters.{no_machine, no_machine_of_many, no_lot, no_narrow}
use Rattle.sheet.proofs.line.Line.read.Goals as goal

pub returns-in_err-capacity-in-C : goal.returns-in_err-capacity-in-C
returns-in_err-capacity-in-C c = record {
  answer =
      let none : (ns rest : List ℕ) → BeginsWithNumbers 2 c.args.words.now ns rest → ⊥ = λ ns rest. search rules in
      rw (c.from_residual.ensures, c.in-C.is) (no_machine c.args.words.now none);
}

pub returns-then-from-gt-MAX_LOTS : goal.returns-then-from-gt-MAX_LOTS
returns-then-from-gt-MAX_LOTS c = record { answer = rw c.in-C.is (no_machine_of_many c.args.words.now c.in_ok-capacity-in-C.field-0 c.numbers.new.self (search rules) (search rules)) }

pub returns-in_err-number-in-B : goal.returns-in_err-number-in-B
returns-in_err-number-in-B c = record {
  answer =
      let none : (ns rest : List ℕ) → BeginsWithNumbers 5 c.args.words.now ns rest → ⊥ = λ ns rest. search rules in
      rw (c.from_residual-in_err-number-in-B.ensures, c.in-B.is) (no_lot c.args.words.now none);
}

pub returns-in_err-lot-in-H : goal.returns-in_err-lot-in-H
returns-in_err-lot-in-H c = record {
  answer =
      let none : (ns rest : List ℕ) → BeginsWithNumbers 3 c.args.words.now ns rest → ⊥ = λ ns rest. search rules in
      rw (c.from_residual-in_err-lot-in-H.ensures, c.in-H.is) (no_narrow c.args.words.now none);
}
