use Rattle.std.proofs.Common.{◌≡◌, [], refl, rules, ◌∙◌}
use Rattle.console.proofs.calls.windows.Goals as goal

pub returns : goal.returns
returns c = record {
  answer =
      let none : c.args.words ≡ [] = search rules in
      let items = c.in_ok-lots.ensures.items_if_clones_equal (λ x y same. same) in
      (none, c.in_ok-lots.lots, items ∙ c.lots.ensures.exact, refl, rw c.capacity.ensures.exact refl);
}
