use Rattle.std.proofs.Common.{codes, arith}
use Rattle.console.proofs.PileWords.{stripped, handed_on, or_unknown, no_level, nothing_turned, turned_unclosed, no_first, both_uncut, no_second, both_unclosed, alone}
use Rattle.console.proofs.piles.+front.Goals as goal

pub returns-then-levels-eq0 : goal.returns-then-levels-eq0
returns-then-levels-eq0 t c = record { answer = no_level _ _ c.if-levels-eq0.true }

pub returns-in_err-pile : goal.returns-in_err-pile
returns-in_err-pile t c = record {
  answer =
      let start = stripped (codes "turned(") c.args.text.now c.in-Some.rest.now c.in-Some.ensures.cases in
      handed_on _ _ _ c.from_residual.result c.in_err-pile.field-0.0 c.from_residual.ensures.1 c.in_err-pile.ensures.answer (nothing_turned _ c.in-Some.rest.now _ start);
}

pub returns-in_err-rest : goal.returns-in_err-rest
returns-in_err-rest t c = record {
  answer =
      let start = stripped (codes "turned(") c.args.text.now c.in-Some.rest.now c.in-Some.ensures.cases in
      handed_on _ _ _ c.from_residual-in_err-rest.result c.in_err-rest.field-0.0 c.from_residual-in_err-rest.ensures.1 c.in_err-rest.ensures.answer
      (turned_unclosed _ c.in-Some.rest.now c.in_ok-pile.rest.now _ c.in_ok-pile.pile start c.in_ok-pile.ensures.answer);
}

pub returns-in_err-first : goal.returns-in_err-first
returns-in_err-first t c = record {
  answer =
      let start = stripped (codes "both(") c.args.text.now c.in-Some-strip_prefix.rest.now c.in-Some-strip_prefix.ensures.cases in
      handed_on _ _ _ c.from_residual-in_err-first.result c.in_err-first.field-0.0 c.from_residual-in_err-first.ensures.1 c.in_err-first.ensures.answer
      (no_first _ c.in-Some-strip_prefix.rest.now _ start);
}

pub returns-in_err-rest-2 : goal.returns-in_err-rest-2
returns-in_err-rest-2 t c = record {
  answer =
      let start = stripped (codes "both(") c.args.text.now c.in-Some-strip_prefix.rest.now c.in-Some-strip_prefix.ensures.cases in
      handed_on _ _ _ c.from_residual-in_err-rest-2.result c.in_err-rest-2.field-0.0 c.from_residual-in_err-rest-2.ensures.1 c.in_err-rest-2.ensures.answer
      (both_uncut _ c.in-Some-strip_prefix.rest.now c.in_ok-first.rest.now _ c.in_ok-first.first start c.in_ok-first.ensures.answer);
}

pub returns-in_err-second : goal.returns-in_err-second
returns-in_err-second t c = record {
  answer =
      let start = stripped (codes "both(") c.args.text.now c.in-Some-strip_prefix.rest.now c.in-Some-strip_prefix.ensures.cases in
      handed_on _ _ _ c.from_residual-in_err-second.result c.in_err-second.field-0.0 c.from_residual-in_err-second.ensures.1 c.in_err-second.ensures.answer
      (no_second _ c.in-Some-strip_prefix.rest.now c.in_ok-first.rest.now _ c.in_ok-first.first start c.in_ok-first.ensures.answer c.in_ok-rest-2.rest.now c.in_ok-rest-2.ensures.answer);
}

pub returns-in_err-rest-3 : goal.returns-in_err-rest-3
returns-in_err-rest-3 t c = record {
  answer =
      let start = stripped (codes "both(") c.args.text.now c.in-Some-strip_prefix.rest.now c.in-Some-strip_prefix.ensures.cases in
      handed_on _ _ _ c.from_residual-in_err-rest-3.result c.in_err-rest-3.field-0.0 c.from_residual-in_err-rest-3.ensures.1 c.in_err-rest-3.ensures.answer
      (both_unclosed _ c.in-Some-strip_prefix.rest.now c.in_ok-first.rest.now _ c.in_ok-first.first start c.in_ok-first.ensures.answer c.in_ok-rest-2.rest.now c.in_ok-second.rest.now c.in_ok-second.second c.in_ok-rest-2.ensures.answer c.in_ok-second.ensures.answer);
}

pub returns : goal.returns
returns t c = record {
  answer =
      rw c.ok_or.ensures.value (or_unknown _ _ _ _ c.plain.result c.plain.ensures.answer
      (alone _ _ c.in_default.ensures.cases c.in_default-strip_prefix.ensures.cases) (λ r is. (is.0, omega (arith, is.1, c.if-levels-eq0.false))));
}
