use Rattle.std.proofs.Common.{◌≡◌, ℕ, false, true, max, get_or, refl, sym, ap, ap₂, ◌∙◌, rules, arith}
use Rattle.std.proofs.lemmas.List.{take_all}
use Rattle.lots.proofs.Tables.{lawful_under_most}
use Rattle.elastic.specs.Added.{table_of, is_added}
use Rattle.rules.specs.Private.Candidates.{lots_of, is_in_cuts}
use Rattle.rules.specs.Private.Ends.{end_minutes}
use Rattle.std.specs.Ordering.{nat_cmp, ord_max}
use Rattle.rules.proofs.Bounds.{greatest_end_bound, greatest_by_ends}
use Rattle.rules.proofs.Candidates.{cut_held, bound_more}
use Rattle.rules.proofs.Requirements.{lowest_at}
use Rattle.rules.proofs.Growing.{holds_more}
use Rattle.rules.proofs.not_first.Candidate.bound.Goals as goal
use Rattle.rules.proofs.not_first.Candidate.bound.Goals.{then-grow, else-grow}

pub loop-end-init : goal.loop-end-init
loop-end-init c = record {
  distinct = rw c.as_slice-end-items.ensures.row c.args.self.now.ends.now.distinct;
  table = search rules;
  holds = search rules;
  greatest = refl;
}

pub bound_at-requires-clause-cut : goal.bound_at-requires-clause-cut
bound_at-requires-clause-cut c =
    let self = c.args.self.now in
    let es = c.as_slice-end-items.result.now in
    let i = c.loop-end.end-index in
    let here = c.loop-end-test.true in
    let before = c.loop-end.invariant in
    let grown = c.grow.ensures.grown (is_in_cuts self) (λ k x b q. search rules) in
    let holds = holds_more (lots_of self) (is_in_cuts self) es i here _ _ _ before.holds grown in
    cut_held self es i here before.distinct c.grow.new.profile (c.grow.ensures.table ∙ before.table) holds

pub bound_at-requires-clause-required : goal.bound_at-requires-clause-required
bound_at-requires-clause-required c =
    let told = rw (← c.as_slice-end-items.ensures.row) at c.requires.required in
    (told c.loop-end.end-index c.loop-end-test.true).bound

pub bounds-required-end : goal.bounds-required-end
bounds-required-end c =
    let self = c.args.self.now in
    let lowest = lowest_at (lots_of self) c.as_slice-end-items.result.now c.loop-end.invariant.distinct c.loop-end.end-index c.loop-end-test.true in
    omega (arith, lowest.is_lot, (lawful_under_most _ _ self.ends.now.table.lawful).few_lots)

-- `max` of two minutes, in a lemma of its own, since where it is used too much is known to be searched
greater : (a b : ℕ) → ord_max nat_cmp a b ≡ max a b
greater a b = search rules

pub loop-end-preserved : goal.loop-end-preserved
loop-end-preserved c =
    let self = c.args.self.now in
    let es = c.as_slice-end-items.result.now in
    let i = c.loop-end.end-index in
    let here = c.loop-end-test.true in
    let before = c.loop-end.invariant in
    let grown = c.grow.ensures.grown (is_in_cuts self) (λ k x b q. search rules) in
    let holds = holds_more (lots_of self) (is_in_cuts self) es i here _ _ _ before.holds grown in
    elim c.if-grow.branch [
      | then-grow w ↦
          let most : w.max-bound.result ≡ max c.loop-end.bound w.bound_at.result = w.max-bound.ensures ∙ greater c.loop-end.bound w.bound_at.result in
          record {
            distinct = before.distinct;
            table = ap table_of w.profile-is ∙ w.bound_at.ensures.table ∙ c.grow.ensures.table ∙ before.table;
            holds = λ k h. ap (λ p. is_added p k) w.profile-is ∙ ap (λ bs. get_or bs k false) w.bound_at.ensures.added ∙ holds k h;
            greatest = w.bound-is ∙ most ∙ ap₂ max before.greatest w.bound_at.ensures.bound ∙ sym (bound_more self es i here true (sym w.if-grow.true ∙ grown.some));
          }
      | else-grow w ↦ record {
        distinct = before.distinct;
        table = ap table_of w.profile-is ∙ c.grow.ensures.table ∙ before.table;
        holds = λ k h. ap (λ p. is_added p k) w.profile-is ∙ holds k h;
        greatest = omega (arith, w.bound-is, before.greatest, bound_more self es i here false (sym w.if-grow.false ∙ grown.some));
      }
    ]

pub returns-clause-answer : goal.returns-clause-answer
returns-clause-answer c =
    let self = c.args.self.now in
    let known = c.loop-end.invariant in
    let es = c.as_slice-end-items.result.now in
    known.greatest
    ∙ ap (λ xs. greatest_end_bound self.ends.now.table.capacity (lots_of self) self.number (end_minutes xs)) (take_all _ es c.loop-end-test.false)
    ∙ greatest_by_ends _ (lots_of self) self.number (end_minutes es) known.distinct.ends
