-- The plan's step and the book's entry keep the two in tally.
use Rattle.std.proofs.Common.{◌≡◌, ℕ, ◌<◌, List, length, sym, refl, ◌∙◌, subst, arith}
use Rattle.std.proofs.lemmas.List.Elements.{length_all_zip, AllZip-push}
use Rattle.lots.specs.Schedules.{Schedule, BestSchedule}
use Rattle.lots.specs.declared.Lot.{Lot}
use Rattle.rule.specs.Meanings.{SameWork, Keeps, Hopeless}
use Rattle.rule.proofs.Chains.{Kept, kept_back, settled_kept}
use Rattle.rule.proofs.Tables.{end_same}
use Rattle.rule.specs.Laws.Tables.{same_work_trans}
use Rattle.rule.proofs.Tables.{same_work_sym}
use Rattle.plan.specs.Tables.{SameSchedules, empty, with_lot, with_lot_between}
use Rattle.lots.specs.Tables.{Lawful, Table}
use Rattle.lots.specs.Checks.{Passed}
use Rattle.plan.specs.Calls.{open_checks, admit_checks, narrow_checks}
use Rattle.plan.specs.Book.{opening, admitting, narrowing, tightening, solving, Entry, accepted, refused, book_after}
use Rattle.plan.specs.History.{Step}
use Rattle.plan.specs.Promise.{AnswersTo}
use Rattle.plan.proofs.Searches.{searches}
use Rattle.plan.proofs.Appends.{push_keeps}
use Rattle.plan.proofs.Windows.{both_between_work, between_keeps}
use Rattle.plan.proofs.Tables.{empty_lawful, with_lot_lawful, with_between_lawful}

-- what every call keeps between the book B and the plan's table T
pub record Tally (B T : Table) : Type 0 where
  pub trays : B.capacity ≡ T.capacity
  pub work : SameWork B.lots T.lots
  pub there : Keeps T.capacity B.lots T.lots
  pub back : Keeps T.capacity T.lots B.lots
  pub lawful : Lawful T.capacity T.lots

pub tally_empty : (C : ℕ) → Passed (open_checks C) → Tally (empty C) (empty C)
tally_empty C k = record { trays = refl; work = tt; there = λ ss s. s; back = λ ss s. s; lawful = empty_lawful C k }

tally_with_lot : (x : Lot) (B T : Table) → Passed (admit_checks x T.capacity (length T.lots)) → Tally B T → Tally (with_lot x B) (with_lot x T)
tally_with_lot x B T k h = record {
  trays = h.trays;
  work = AllZip-push _ B.lots T.lots x x h.work (refl, refl);
  there = push_keeps T.capacity B.lots T.lots x h.work h.there;
  back = push_keeps T.capacity T.lots B.lots x (same_work_sym B.lots T.lots h.work) h.back;
  lawful = with_lot_lawful x T h.lawful k;
}

tally_between : (i a b : ℕ) (B T : Table) → Passed (narrow_checks i a b T.lots) → Tally B T → Tally (with_lot_between i a b B) (with_lot_between i a b T)
tally_between i a b B T k h =
    let n : length B.lots ≡ length T.lots = length_all_zip _ B.lots T.lots h.work in
    let inT : i < length T.lots = omega (arith, k.0) in
    let in_b : i < length B.lots = omega arith in
    record {
      trays = h.trays;
      work = both_between_work i a b B.lots T.lots h.work;
      there = between_keeps T.capacity i a b B.lots T.lots in_b h.work h.there;
      back = between_keeps T.capacity i a b T.lots B.lots inT (same_work_sym B.lots T.lots h.work) h.back;
      lawful = with_between_lawful i a b T h.lawful k;
    }

-- what a sound rule keeps, whatever the rule
tally_kept : (B T : Table) (U : List Lot) → Kept T.capacity T.lots U → Tally B T → Tally B (record { capacity = T.capacity; lots = U })
tally_kept B T U k h = record {
  trays = h.trays;
  work = same_work_trans B.lots T.lots U h.work k.work;
  there = λ ss s. k.keeps ss (h.there ss s);
  back = λ ss s. h.back ss (kept_back T.capacity T.lots U k ss s);
  lawful = k.lawful;
}

pub tally_opened : (C : ℕ) (T U : Table) → Step (accepted (opening C)) T U → Tally (empty C) U
tally_opened C T U s = subst (Tally (empty C)) (sym s.1) (tally_empty C s.0)

pub tally_step : (e : Entry) (B T U : Table) → Step e T U → Tally B T → Tally (book_after e B) U
tally_step (accepted (opening C)) B T U s h = tally_opened C T U s
tally_step (accepted (admitting x)) B T U s h = subst (Tally (with_lot x B)) (sym s.1.1.1) (tally_with_lot x B T s.1.0 h)
tally_step (accepted (narrowing i a b)) B T U s h = subst (Tally (with_lot_between i a b B)) (sym s.1) (tally_between i a b B T s.0 h)
tally_step (accepted (tightening m)) B T U s h =
    let k = settled_kept m s.0 T.capacity T.lots U.lots h.lawful s.1 s.2 s.3.settled in
    let e : record { capacity = T.capacity; lots = U.lots } ≡ U = λ i. record { capacity = sym s.3.same_capacity i; lots = U.lots } in
    subst (Tally B) e (tally_kept B T U.lots k h)
tally_step (accepted (solving m budget cs ss)) B T U s h = subst (Tally B) (sym s.1) h
tally_step (refused (opening C)) B T U s h = subst (Tally B) (sym s.1.1) h
tally_step (refused (admitting x)) B T U s h = subst (Tally B) (sym s.1.1) h
tally_step (refused (narrowing i a b)) B T U s h = subst (Tally B) (sym s.1.1) h
tally_step (refused (tightening m)) B T U s h = absurd s
tally_step (refused (solving m budget cs ss)) B T U s h = subst (Tally B) (sym s.1) h

pub tally_schedules : {B T : Table} → Tally B T → SameSchedules B T
tally_schedules {B} {T} h ss = (
  λ s. h.there ss (subst (λ C. Schedule C B.lots ss) h.trays s),
  λ s. subst (λ C. Schedule C B.lots ss) (sym h.trays) (h.back ss s),
)

-- what is best of a table is best of another with the same work and schedules
best_same : (T U : Table) (E : ℕ) (ss : List ℕ) → SameWork T.lots U.lots → ((us : List ℕ) → Schedule T.capacity T.lots us → Schedule U.capacity U.lots us) → ((us : List ℕ) → Schedule U.capacity U.lots us → Schedule T.capacity T.lots us) → BestSchedule T.capacity T.lots E ss → BestSchedule U.capacity U.lots E ss
best_same T U E ss w there back b = record {
  schedule = there ss b.schedule;
  ends = end_same T.lots U.lots ss w ∙ b.ends;
  least = λ us s. omega (arith, end_same T.lots U.lots us w, b.least us (back us s));
}

pub tally_answers : {B T : Table} → Tally B T → AnswersTo B T
tally_answers {B} {T} h =
    let same = tally_schedules h in
    let hopeless : Hopeless T.capacity T.lots → Hopeless B.capacity B.lots = λ none ss s. none ss ((same ss).0 s) in
    let bests : (E : ℕ) (ss : List ℕ) → BestSchedule T.capacity T.lots E ss → BestSchedule B.capacity B.lots E ss =
    λ E ss. best_same T B E ss (same_work_sym B.lots T.lots h.work) (λ us. (same us).1) (λ us. (same us).0) in
    record {
      lawful = h.lawful;
      same_capacity = sym h.trays;
      same_work = h.work;
      same_schedules = same;
      same_best = λ E ss. (best_same B T E ss h.work (λ us. (same us).0) (λ us. (same us).1), bests E ss);
      same_hopeless = (λ none ss s. none ss ((same ss).1 s), hopeless);
      searches = searches B T h.lawful (sym (length_all_zip _ B.lots T.lots h.work)) bests hopeless;
    }
