use Rattle.std.proofs.Common.{sym, ap, ◌∙◌, rules, tests}
use Rattle.std.specs.Prelude.{unwrap_or}
use Rattle.std.proofs.lemmas.Iterator.{YieldsList-from_slice, YieldsList-from_map}
use Rattle.std.proofs.lemmas.Iterator.Adapters.{option_map_id}
use Rattle.std.proofs.lemmas.Iterator.Consumers.{max_from_yields_List}
use Rattle.lots.specs.Tables.{ect}
use Rattle.tree.proofs.Loads.{end_is}
use Rattle.tree.proofs.load.last_end.Goals as goal

pub returns : goal.returns
returns c = record {
  answer =
      let most = max_from_yields_List _ _ c.max.ensures.ran (YieldsList-from_map _ ect (YieldsList-from_slice c.args.lots.now cc) c.map.ensures.closure (λ x r q k. search (rules, tests))) in
      c.unwrap_or.ensures ∙ ap (λ o. unwrap_or o 0) (sym (option_map_id _) ∙ most) ∙ end_is c.args.lots.now;
}
