use Rattle.std.proofs.Common.{◌≤◌, if◌then◌else◌, sym, ap, ◌∙◌, arith}
use Rattle.lots.specs.declared.Lot.{Lot}
use Rattle.elastic.proofs.Marked.{trays_fit}
use Rattle.rules.specs.Private.Candidates.{cut_of}
use Rattle.rules.specs.NotFirst.{least_ect}
use Rattle.rules.proofs.Least.{cut_least}
use Rattle.rules.proofs.Requirements.{cut_not_overfull}
use Rattle.rules.proofs.not_first.Candidate.bound_at.Goals as goal

pub returns-then-required-from-clause-bound : goal.returns-then-required-from-clause-bound
returns-then-required-from-clause-bound c =
    let self = c.args.self.now in
    let table = self.ends.now.table in
    let own = ap (λ (x : Lot). x.c) self.own in
    let fits : self.lot.c ≤ table.capacity = omega (arith, own, trays_fit table.capacity table.lots.now self.number table.lawful.each) in
    let none = cut_not_overfull table.capacity table.lots.now table.lawful self.number c.args.minute self.lot.c fits c.args.required c.requires.required (omega (arith, c.from.ensures, c.if-required-from.true)) own in
    sym (ap (λ b. if b then least_ect (cut_of self c.args.minute) else 0) none)

pub overflow_cast-result : goal.overflow_cast-result
overflow_cast-result c =
    let self = c.args.self.now in
    let table = self.ends.now.table in
    omega (
      arith,
      c.least_end.ensures.answer,
      ap least_ect (c.as_slice.ensures.value ∙ c.cut.ensures.answer),
      cut_least _ table.lots.now table.lawful self.number c.args.minute,
    )
