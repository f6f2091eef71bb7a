use Rattle.std.proofs.Common.{◌≡◌, ℕ, List, ◌∷◌, refl, rules}
use Rattle.sheet.specs.Lines.{newline}
use Rattle.sheet.specs.Private.Said.{said_line}
use Rattle.sheet.specs.Private.Words.{BeginsBy}
use Rattle.sheet.proofs.Letters.{not_ended}
use Rattle.sheet.proofs.reader.Reader.line.Goals as goal

pub returns-in_err-end_line : goal.returns-in_err-end_line
returns-in_err-end_line c = record {
  answer =
      let letter : c.args.self.now ≡ c.in_ok-letter.letter ∷ c.letter.new.self = search rules in
      let line : BeginsBy c.in_ok-letter.letter c.letter.new.self (said_line c.in_ok-line.line) c.read.new.words = search rules in
      let unended : (rest : List ℕ) → c.read.new.words ≡ newline ∷ rest → ⊥ = λ rest. search rules in
      rw c.from_residual-in_err-end_line.ensures (not_ended c.args.self.now (said_line c.in_ok-line.line) _ _ c.read.new.words letter line unended);
  unchanged = rw c.from_residual-in_err-end_line.ensures refl;
}
