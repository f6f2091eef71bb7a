-- The table after an accepted call is lawful.
use Rattle.std.proofs.Common.{ℕ, ◌<◌, length, Ok, sym, subst, arith}
use Rattle.std.proofs.lemmas.List.{length_push, length-set}
use Rattle.std.proofs.ByRecursion.{All-push, All-set, All-get_or}
use Rattle.lots.specs.Tables.{lot_at, LawfulLot, Lawful, Table}
use Rattle.lots.specs.declared.Lot.{Lot}
use Rattle.plan.specs.Tables.{empty, with_lot, lot_between, with_lot_between}
use Rattle.lots.specs.Checks.{Passed}
use Rattle.plan.specs.Calls.{open_checks, admit_checks, Admitted, narrow_checks, Narrowed}

pub empty_lawful : (C : ℕ) → Passed (open_checks C) → Lawful (empty C).capacity (empty C).lots
empty_lawful C k = grind arith

pub with_lot_lawful : (x : Lot) (T : Table) → Lawful T.capacity T.lots → Passed (admit_checks x T.capacity (length T.lots)) → Lawful (with_lot x T).capacity (with_lot x T).lots
with_lot_lawful x T ok k = record {
  some_trays = ok.some_trays;
  few_trays = ok.few_trays;
  few_lots = omega (arith, length_push T.lots x, k.0);
  each = All-push (LawfulLot T.capacity) T.lots x ok.each (grind arith);
}

pub with_between_lawful : (i a b : ℕ) (T : Table) → Lawful T.capacity T.lots → Passed (narrow_checks i a b T.lots) → Lawful (with_lot_between i a b T).capacity (with_lot_between i a b T).lots
with_between_lawful i a b T ok k =
    let inside : i < length T.lots = omega (arith, k.0) in
    let before : LawfulLot T.capacity (lot_at T.lots i) = All-get_or _ T.lots i _ inside ok.each in
    record {
      some_trays = ok.some_trays;
      few_trays = ok.few_trays;
      few_lots = omega (arith, length-set T.lots i (lot_between a b (lot_at T.lots i)));
      each = All-set (LawfulLot T.capacity) T.lots i _ (grind arith) ok.each;
    }

pub admitted_lawful : (x : Lot) (T U : Table) (n : ℕ) → Admitted x T U (Ok n) → Lawful T.capacity T.lots → Lawful U.capacity U.lots
admitted_lawful x T U n a ok = subst (λ U. Lawful U.capacity U.lots) (sym a.1.1) (with_lot_lawful x T ok a.0)

pub narrowed_lawful : (i a b : ℕ) (T U : Table) → Narrowed i a b T U (Ok tt) → Lawful T.capacity T.lots → Lawful U.capacity U.lots
narrowed_lawful i a b T U h ok = subst (λ U. Lawful U.capacity U.lots) (sym h.1) (with_between_lawful i a b T ok h.0)
