use Rattle.std.proofs.Common.{◌≡◌, ℕ, List, length, take, drop, replicate, Ok, Err, vec_items, ap₂, ◌∙◌, refl, rules}
use Rattle.std.proofs.lemmas.Result.{err_from_is_err_and}
use Rattle.lots.specs.Tables.{blank}
use Rattle.lots.specs.declared.Lot.{Lot}
use Rattle.console.specs.Lines.{SolveForm}
use Rattle.console.specs.Piles.{pile_meaning}
use Rattle.tree.specs.Answer.{Solved}
use Rattle.console.proofs.Loans.{given_back}
use Rattle.console.proofs.calls.solve.Goals as goal

pub returns-in_err-search : goal.returns-in_err-search
returns-in_err-search c = record {
  answer =
      let pile = c.in_ok-pile.pile in
      let fault = err_from_is_err_and c.from_residual-in_err-search.result c.from_residual-in_err-search.ensures.1 in
      let form : SolveForm c.args.words pile c.in_ok-pile.budget c.in_ok-pile.cells c.in_ok-pile.places = search rules in
      let cells : c.in_ok-trail.trail.items ≡ replicate c.in_ok-pile.cells blank = search rules in
      let zeros : c.in_ok-starts.starts.items ≡ replicate c.in_ok-pile.places 0 = search rules in
      let solved : Solved (pile_meaning pile) c.args.plan.now.capacity c.args.plan.now.lots c.in_ok-pile.budget (replicate c.in_ok-pile.cells blank) c.solve.new.trail (replicate c.in_ok-pile.places 0) c.solve.new.starts (Err c.in_err-search.field-0.0) = search rules in
      rw (fault.1, fault.2) (pile, c.in_ok-pile.budget, c.in_ok-pile.cells, c.in_ok-pile.places, form, c.solve.new.trail, c.solve.new.starts, Err c.in_err-search.field-0.0, solved, refl, refl);
}

pub returns : goal.returns
returns c = record {
  answer =
      let pile = c.in_ok-pile.pile in
      let form : SolveForm c.args.words pile c.in_ok-pile.budget c.in_ok-pile.cells c.in_ok-pile.places = search rules in
      let cells : c.in_ok-trail.trail.items ≡ replicate c.in_ok-pile.cells blank = search rules in
      let zeros : c.in_ok-starts.starts.items ≡ replicate c.in_ok-pile.places 0 = search rules in
      let solved : Solved (pile_meaning pile) c.args.plan.now.capacity c.args.plan.now.lots c.in_ok-pile.budget (replicate c.in_ok-pile.cells blank) c.solve.new.trail (replicate c.in_ok-pile.places 0) c.solve.new.starts (Ok c.in_ok-search.search) = search rules in
      let count : length c.solve.new.starts ≡ c.in_ok-starts.starts.len = search rules in
      let back = given_back c.in_ok-starts.starts.len c.solve.new.starts (drop (length c.solve.new.starts) c.in_ok-starts.starts.items) count in
      let first : vec_items c.truncate.new.self ≡ take (length c.args.plan.now.lots) c.solve.new.starts =
      c.truncate.ensures.items ∙ ap₂ (λ (xs : List Lot) (ys : List ℕ). take (length xs) ys) c.lots.ensures.exact back in
      (pile, c.in_ok-pile.budget, c.in_ok-pile.cells, c.in_ok-pile.places, form, c.solve.new.trail, c.solve.new.starts, Ok c.in_ok-search.search, solved, refl, (c.truncate.new.self, first, refl));
}
