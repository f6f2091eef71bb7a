use Rattle.std.proofs.Common.{List, ◌∷◌, length, set, ap, ap₂, ◌∙◌, arith}
use Rattle.std.proofs.lemmas.List.{set-set}
use Rattle.lots.specs.declared.Lot.{Lot}
use Rattle.tree.specs.Private.Stack.{unvisited}
use Rattle.tree.proofs.Cells.{tables_count}
use Rattle.tree.proofs.explore.fork.Goals as goal

pub push-requires-2-clause-room : goal.push-requires-2-clause-room
push-requires-2-clause-room c =
    let before = c.args.trail.now in
    let after = c.push.new.self in
    omega (arith, tables_count before.table_len before.depth before.cells.now, tables_count after.table_len after.depth after.cells.now, ap length c.push.ensures.pushed)

pub returns-clause-forked : goal.returns-clause-forked
returns-clause-forked c =
    let T = c.args.lots.now in
    let j = c.args.number in
    c.push-2.ensures.pushed
    ∙ ap₂ (λ (x : List Lot) (xs : List (List Lot)). x ∷ xs) (set-set T j _ _ ∙ ap (set T j) c.at_once.ensures.answer)
    (c.push.ensures.pushed ∙ ap (λ (x : List Lot). x ∷ unvisited c.args.trail.now) (ap (set T j) c.a_minute_later.ensures.answer))
