use Rattle.std.proofs.Common.{get_or, sym}
use Rattle.rules.specs.NotFirst.{not_first}
use Rattle.rules.proofs.Raised.{raise_same, applied_to_table}
use Rattle.rules.proofs.not_first.NotFirstRule.apply.Goals as goal

pub returns : goal.returns
returns c = record {
  answer =
      applied_to_table not_first _ _ _ _ _ (λ j. get_or c.bounds_of-bounds.result j 0) _ c.in_ok-new.ensures.answer
      (raise_same _ (λ j. get_or c.bounds_of-bounds.result j 0) _ (λ i h. sym (c.bounds_of-bounds.ensures.answer i h))) c.raise.ensures.answer;
}
