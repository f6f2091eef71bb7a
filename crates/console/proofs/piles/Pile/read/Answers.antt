use Rattle.std.proofs.Common.{◌≢◌, [], rules}
use Rattle.console.proofs.PileWords.{handed_on, names_none, text_left}
use Rattle.console.proofs.piles.Pile.read.Goals as goal

pub returns-in_err-pile : goal.returns-in_err-pile
returns-in_err-pile c = record { answer = handed_on _ _ _ c.from_residual.result c.in_err-pile.field-0.0 c.from_residual.ensures.1 c.in_err-pile.ensures.answer (names_none c.args.word.now) }

pub returns-then-not-is_empty : goal.returns-then-not-is_empty
returns-then-not-is_empty c = record {
  answer =
      let left : c.in_ok-pile.rest.now ≢ [] = search rules in
      text_left c.args.word.now c.in_ok-pile.rest.now _ c.in_ok-pile.pile c.in_ok-pile.ensures.answer left;
}
