use Rattle.std.proofs.Common.{◌<◌, ◌≤◌, rules, tests}
use Rattle.std.proofs.lemmas.Iterator.{YieldsList-from_slice, cases_from_all}
use Rattle.std.proofs.lemmas.List.Edits.{map_over_more}
use Rattle.lots.specs.Tables.{ect}
use Rattle.tree.specs.Tree.{lot_out_by}
use Rattle.tree.proofs.Looks.{fits_decided}
use Rattle.tree.proofs.node.cut_under.Goals as goal

pub loop-lot-preserved : goal.loop-lot-preserved
loop-lot-preserved c = search (rules, map_over_more (lot_out_by c.saturating_sub-last.result))

pub returns-clause-fits : goal.returns-clause-fits
returns-clause-fits c =
    fits_decided c.loop-lot.lots _
    (cases_from_all _ _ _ (λ x. ect x ≤ x.lct) (λ x. x.lct < ect x) c.all.ensures.ran (YieldsList-from_slice c.loop-lot.lots cc) (λ x q k. search (rules, tests)) (λ x q k. search (rules, tests)))
