use Rattle.std.proofs.Common.{sym, ap, ◌∙◌, rules, tests}
use Rattle.std.specs.Prelude.{unwrap_or}
use Rattle.std.proofs.lemmas.Iterator.{YieldsList-from_slice, YieldsList-from_map}
use Rattle.std.proofs.lemmas.Iterator.Adapters.{option_map_id}
use Rattle.std.proofs.lemmas.Iterator.Consumers.{min_from_yields_List}
use Rattle.tree.proofs.Loads.{start_least}
use Rattle.tree.proofs.load.first_start.Goals as goal

pub returns : goal.returns
returns c = record {
  answer =
      let least = min_from_yields_List _ _ c.min.ensures.ran (YieldsList-from_map _ (λ x. x.est) (YieldsList-from_slice c.args.lots.now cc) c.map.ensures.closure (λ x r q k. search (rules, tests))) in
      let is = c.unwrap_or.ensures ∙ ap (λ o. unwrap_or o 0) (sym (option_map_id _) ∙ least) in
      rw is (start_least c.args.lots.now);
}
