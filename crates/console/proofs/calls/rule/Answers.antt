use Rattle.std.proofs.Common.{◌≡◌, ℕ, List, ◌++◌, length, take, drop, Ok, Err, vec_items, Result, refl, rules}
use Rattle.std.proofs.lemmas.Result.{err_from_is_err_and}
use Rattle.lots.specs.declared.Lot.{Lot}
use Rattle.lots.specs.declared.Refusal.{Refusal}
use Rattle.rule.specs.Meanings.{Meaning, Applied}
use Rattle.rule.specs.declared.Verdict.{Verdict}
use Rattle.console.specs.Lines.{RuleForm}
use Rattle.console.specs.Piles.{pile_meaning}
use Rattle.console.proofs.Loans.{given_back}
use Rattle.console.proofs.calls.rule.Goals as goal

-- an application that leaves U leaves what a loan of all n items gives back to a vector
applied_filled : (m : Meaning) (C n : ℕ) (T U rest : List Lot) (r : Result Verdict Refusal) → length U ≡ n → Applied m C T U r → Applied m C T (take n (U ++ rest)) r
applied_filled m C n T U rest r count applied =
    rw (given_back n U rest count) applied

pub returns-in_err-verdict : goal.returns-in_err-verdict
returns-in_err-verdict c = record {
  answer =
      let fault = err_from_is_err_and c.from_residual-in_err-verdict.result c.from_residual-in_err-verdict.ensures.1 in
      let asked : RuleForm c.args.words c.in_ok-pile.pile c.in_ok-capacity.capacity (vec_items c.in_ok-capacity.lots) = search rules in
      λ P. rw (fault.1, fault.2) (c.in_ok-pile.pile, c.in_ok-capacity.capacity, vec_items c.in_ok-capacity.lots, asked, c.in_ok-capacity.lots, refl, (Err c.in_err-verdict.field-0.0, search rules, refl));
}

pub returns : goal.returns
returns c = record {
  answer =
      let lots = c.in_ok-capacity.lots in
      let after = c.apply.new.lots in
      let asked : RuleForm c.args.words c.in_ok-pile.pile c.in_ok-capacity.capacity (vec_items lots) = search rules in
      let count : length after ≡ lots.len = search rules in
      let applied : Applied (pile_meaning c.in_ok-pile.pile) c.in_ok-capacity.capacity (vec_items lots) after (Ok c.in_ok-verdict.verdict) = search rules in
      let filled = applied_filled (pile_meaning c.in_ok-pile.pile) _ lots.len (vec_items lots) after (drop (length after) lots.items) (Ok c.in_ok-verdict.verdict) count applied in
      λ P. (c.in_ok-pile.pile, c.in_ok-capacity.capacity, vec_items lots, asked, _, refl, (Ok c.in_ok-verdict.verdict, filled, refl));
}
