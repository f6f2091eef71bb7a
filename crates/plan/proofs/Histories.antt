-- After every history the plan answers to its book; and whatever a call answers, its histories go on.
use Rattle.std.specs.Prelude.{IfOk}
use Rattle.std.proofs.Common.{ℕ, List, Ok, Err, Result, refl, arith}
use Rattle.lots.specs.declared.Lot.{Lot}
use Rattle.lots.specs.declared.Refusal.{Refusal}
use Rattle.rule.specs.Meanings.{Meaning, Sound}
use Rattle.rule.specs.declared.Verdict.{Verdict}
use Rattle.tree.specs.Answer.{Solved}
use Rattle.tree.specs.declared.Search.{Search}
use Rattle.lots.specs.Tables.{Table}
use Rattle.lots.specs.Checks.{Passed}
use Rattle.plan.specs.Calls.{open_checks, Opened, Admitted, Narrowed, Tightened}
use Rattle.plan.specs.Book.{opening, admitting, narrowing, tightening, solving, Entry, accepted, refused, entry_of, book}
use Rattle.plan.specs.History.{Step, History, new, opened, later, BeginsHistory, Follows}
use Rattle.plan.specs.Promise.{SearchAnswersToBooks, Promise}
use Rattle.plan.proofs.Tallies.{Tally, tally_empty, tally_opened, tally_step, tally_schedules, tally_answers}

pub one_tray : Passed (open_checks 1)
one_tray = grind arith

tally : {es : List Entry} {T : Table} → History es T → Tally (book es) T
tally new = tally_empty 1 one_tray
tally (opened T C s) = tally_opened C T _ s
tally (later {es} {T} {U} e h s) = tally_step e (book es) T U s (tally h)

pub promise : Promise
promise es T h = tally_answers (tally h)

follows : (e : Entry) (T U : Table) → Step e T U → Follows e T U
follows e T U s es h = let longer = later e h s in (longer, tally_schedules (tally longer))

pub open_follows : (C : ℕ) (T U : Table) (r : Result (Unit {0}) Refusal) → Opened C T U r → Follows (entry_of (opening C) r) T U
open_follows C T U (Ok u) x = follows (accepted (opening C)) T U x
open_follows C T U (Err e) x = follows (refused (opening C)) T U (e, x)

pub open_begins : (C : ℕ) (T U : Table) (r : Result (Unit {0}) Refusal) → Opened C T U r → BeginsHistory C r U
open_begins C T U (Ok u) x = opened T C x
open_begins C T U (Err e) x = tt

pub admit_follows : (l : Lot) (T U : Table) (r : Result ℕ Refusal) → Admitted l T U r → Follows (entry_of (admitting l) r) T U
admit_follows l T U (Ok n) x = follows (accepted (admitting l)) T U (n, x)
admit_follows l T U (Err e) x = follows (refused (admitting l)) T U (e, x)

pub narrow_follows : (i a b : ℕ) (T U : Table) (r : Result (Unit {0}) Refusal) → Narrowed i a b T U r → Follows (entry_of (narrowing i a b) r) T U
narrow_follows i a b T U (Ok u) x = follows (accepted (narrowing i a b)) T U x
narrow_follows i a b T U (Err e) x = follows (refused (narrowing i a b)) T U (e, x)

pub tighten_follows : (m : Meaning) → Sound m → (T U : Table) (v : Verdict) (k : ℕ) → Tightened m T U v k → Follows (accepted (tightening m)) T U
tighten_follows m p T U v k x = follows (accepted (tightening m)) T U (p, v, k, x)

pub solve_follows : (m : Meaning) → Sound m → (T : Table) (budget : ℕ) (cs ds : List Lot) (ss us : List ℕ) (r : Result Search Refusal) → Solved m T.capacity T.lots budget cs ds ss us r → Follows (entry_of (solving m budget cs ss) r) T T
solve_follows m p T budget cs ds ss us (Ok a) x = follows (accepted (solving m budget cs ss)) T T (p, refl, ds, us, a, x)
solve_follows m p T budget cs ds ss us (Err e) x = follows (refused (solving m budget cs ss)) T T (p, refl, e, rw (x.1.0, x.1.1) at x)

-- what a search of the plan answers is right for the book of each of its histories
pub solve_promised : (m : Meaning) → Sound m → (T : Table) (budget : ℕ) (cs ds : List Lot) (ss us : List ℕ) (r : Result Search Refusal) → Solved m T.capacity T.lots budget cs ds ss us r → IfOk r (SearchAnswersToBooks m T budget us)
solve_promised m p T budget cs ds ss us (Ok a) x = λ es h. (promise es T h).searches m p budget cs ds ss us a x
solve_promised m p T budget cs ds ss us (Err e) x = tt
