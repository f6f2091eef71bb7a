-- A call that is accepted leaves one table.
use Rattle.std.proofs.Common.{◌≡◌, ℕ, Ok, sym, ◌∙◌}
use Rattle.lots.specs.declared.Lot.{Lot}
use Rattle.rule.specs.Meanings.{Meaning}
use Rattle.rule.specs.declared.Verdict.{Verdict}
use Rattle.rule.proofs.Chains.{settled_one}
use Rattle.lots.specs.Tables.{Table}
use Rattle.plan.specs.Calls.{Opened, Admitted, Narrowed, Tightened}

pub opened_one : (C : ℕ) (T U V : Table) → Opened C T U (Ok tt) → Opened C T V (Ok tt) → U ≡ V
opened_one C T U V a b = a.1 ∙ sym b.1

pub admitted_one : (x : Lot) (T U V : Table) (n k : ℕ) → Admitted x T U (Ok n) → Admitted x T V (Ok k) → U ≡ V
admitted_one x T U V n k a b = a.1.1 ∙ sym b.1.1

pub narrowed_one : (i from to : ℕ) (T U V : Table) → Narrowed i from to T U (Ok tt) → Narrowed i from to T V (Ok tt) → U ≡ V
narrowed_one i from to T U V a b = a.1 ∙ sym b.1

table_one : (U V : Table) → U.capacity ≡ V.capacity → U.lots ≡ V.lots → U ≡ V
table_one U V c l = λ i. record { capacity = c i; lots = l i }

pub tightened_one : (m : Meaning) (T U V : Table) (v w : Verdict) (k j : ℕ) → Tightened m T U v k → Tightened m T V w j → (U ≡ V) × (v ≡ w) × (k ≡ j)
tightened_one m T U V v w k j a b =
    let one = settled_one m T.capacity T.lots U.lots V.lots v w k j a.settled b.settled in
    (table_one U V (a.same_capacity ∙ sym b.same_capacity) one.0, one.1, one.2)
