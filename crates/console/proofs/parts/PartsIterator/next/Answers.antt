use Rattle.std.proofs.Common.{List, ℕ}
use Rattle.std.specs.Iterator.{YieldsFirstRef}
use Rattle.std.proofs.lemmas.Bool.{ltb-true}
use Rattle.console.specs.Private.Parts.{pieces_to_come}
use Rattle.console.proofs.Pieces.{next_piece, progress}
use Rattle.console.proofs.parts.PartsIterator.next.Goals as goal

pub returns : goal.returns
returns c =
    let steps : YieldsFirstRef (λ (ps : List (List ℕ)). ps) c.args.self.now c.next.result (pieces_to_come c.next.new.self) =
    rw (← c.self.view_is) (next_piece c.self.inside.left c.next.new.self c.next.result (ltb-true _ _ c.self.invariant) c.next.ensures.steps) in
    record { steps = steps; goes = progress _ _ _ steps }
