use Rattle.std.proofs.Common.{rules, subst}
use Rattle.std.proofs.lemmas.List.Sorted.{answers_always}
use Rattle.row.specs.Rows.{Ascending}
use Rattle.row.specs.Private.Search.{Sought}
use Rattle.row.proofs.Rows.{take_min, sought}
use Rattle.row.proofs.row.Row.seek.Goals as goal

pub returns-clause-sought : goal.returns-clause-sought
returns-clause-sought g c o =
    let told = c.binary_search_by_key.ensures in
    let by_key = told.position g.E.Keyed.keyed (answers_always _ _ _ (λ f a r f' called. search rules)) in
    subst (λ row. Ascending o g.E.Keyed.keyed row → Sought o g.E.Keyed.keyed c.args.key row c.binary_search_by_key.result)
    (take_min _ _ _ c.len-len.ensures.answer)
    (sought o g.E.Keyed.keyed _ _ _ told.bound by_key)
