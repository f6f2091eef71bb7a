use Rattle.std.proofs.Common.{◌≢◌, get_or, rules}
use Rattle.console.proofs.Numerals.{number_from_parse}
use Rattle.console.proofs.words.budget.Goals as goal

pub returns : goal.returns
returns c = record {
  answer =
      let unsigned : get_or c.args.word.now 0 0 ≢ 43 = search rules in
      rw c.ok.ensures.value (number_from_parse 32 c.args.word.now c.parse.result unsigned c.parse.ensures.value.0);
}
