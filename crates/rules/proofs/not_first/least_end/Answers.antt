use Rattle.std.proofs.Common.{sym, refl, ap, ◌∙◌, rules, tests}
use Rattle.std.specs.Prelude.{unwrap_or}
use Rattle.std.proofs.lemmas.Iterator.{YieldsList-from_slice, YieldsList-from_map}
use Rattle.std.proofs.lemmas.Iterator.Adapters.{option_map_id}
use Rattle.std.proofs.lemmas.Iterator.Consumers.{min_from_yields_List}
use Rattle.lots.specs.Tables.{ect}
use Rattle.rules.specs.NotFirst.{least_ect}
use Rattle.rules.proofs.Least.{least_is}
use Rattle.rules.proofs.not_first.least_end.Goals as goal

pub returns : goal.returns
returns c = record {
  answer =
      let least = min_from_yields_List _ _ c.min.ensures.ran (YieldsList-from_map _ ect (YieldsList-from_slice c.args.lots.now cc) c.map.ensures.closure (λ x r q k. search (rules, tests))) in
      c.unwrap_or.ensures ∙ ap (λ o. unwrap_or o 0) (sym (option_map_id _) ∙ least) ∙ least_is ect least_ect refl (λ x. refl) (λ x y ys. refl) c.args.lots.now;
}
