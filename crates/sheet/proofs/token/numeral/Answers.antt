use Rattle.std.proofs.Common.{◌≡◌, IsUtf8, rules}
use Rattle.sheet.proofs.Numerals.{no_numeral, no_text, numeral_from_parse}
use Rattle.sheet.proofs.token.numeral.Goals as goal

pub returns-then-not-begins_numeral : goal.returns-then-not-begins_numeral
returns-then-not-begins_numeral c = record { answer = no_numeral c.args.bytes.now (search rules) }

pub returns-in_err-ok : goal.returns-in_err-ok
returns-in_err-ok c = record {
  answer =
      let not : IsUtf8 c.args.bytes.now → ⊥ = search rules in
      rw c.from_residual.ensures (no_text c.args.bytes.now not);
}

pub returns : goal.returns
returns c = record {
  answer =
      let text : c.in_ok-ok.field-0.now ≡ c.args.bytes.now = search rules in
      rw c.ok-2.ensures.value (numeral_from_parse c.args.bytes.now c.parse.result (search rules) (rw text at c.parse.ensures.value.0));
}
