-- A call on a lawful plan has an answer.
use Rattle.std.proofs.Common.{ℕ, suc, ◌⊎◌, List, length, Ok, Err, refl, inl, inr}
use Rattle.lots.specs.Limits.{horizon, max_capacity, max_lots}
use Rattle.lots.specs.Tables.{ect, lot_at, Lawful, Table}
use Rattle.lots.specs.declared.Lot.{Lot}
use Rattle.lots.specs.declared.Refusal.{Refusal}
use Rattle.lots.proofs.Checks.{Decided, passed_or_refused, less, at_most, none, either}
use Rattle.rule.specs.Meanings.{Meaning, Outcome, dead, to, Sound}
use Rattle.rule.specs.Settled.{Settled}
use Rattle.rule.specs.declared.Verdict.{Verdict}
use Rattle.rule.specs.declared.Verdict.TheVariants.{Dead}
use Rattle.rule.proofs.Chains.{chain_few, settled_chain, settled_at}
use Rattle.tree.specs.Tree.{ComesTo}
use Rattle.tree.proofs.Outcomes.{comes_some}
use Rattle.plan.specs.Tables.{empty, with_lot, lot_between, with_lot_between}
use Rattle.plan.specs.Calls.{open_checks, Opened, admit_checks, Admitted, narrow_checks, Narrowed, Tightened}

pub opened_some : (C : ℕ) (T : Table) → Opened C T (empty C) (Ok tt) ⊎ ((e : Refusal) × Opened C T T (Err e))
opened_some C T = elim (passed_or_refused (open_checks C) (either (none C) (less max_capacity C), tt)) [ inl p ↦ inl (p, refl) | inr r ↦ inr (r.0, (r.1, refl)) ]

pub admitted_some : (x : Lot) (T : Table) → Admitted x T (with_lot x T) (Ok (length T.lots)) ⊎ ((e : Refusal) × Admitted x T T (Err e))
admitted_some x T =
    let n = length T.lots in
    let checks : Decided (admit_checks x T.capacity n) = (at_most max_lots n, (either (none x.c) (less T.capacity x.c), (none x.p, (either (less x.lct (ect x)) (less horizon x.lct), tt)))) in
    elim (passed_or_refused (admit_checks x T.capacity n) checks) [ inl p ↦ inl (p, (refl, refl)) | inr r ↦ inr (r.0, (r.1, refl)) ]

pub narrowed_some : (i a b : ℕ) (T : Table) → Narrowed i a b T (with_lot_between i a b T) (Ok tt) ⊎ ((e : Refusal) × Narrowed i a b T T (Err e))
narrowed_some i a b T =
    let x = lot_between a b (lot_at T.lots i) in
    let checks : Decided (narrow_checks i a b T.lots) = (at_most (length T.lots) i, (either (less b a) (less horizon b), (less x.lct (ect x), tt))) in
    elim (passed_or_refused (narrow_checks i a b T.lots) checks) [ inl p ↦ inl (p, refl) | inr r ↦ inr (r.0, (r.1, refl)) ]

module _ (m : Meaning) (sound : Sound m) (T : Table) (ok : Lawful T.capacity T.lots) where
  tightens : (U : List Lot) (v : Verdict) (k : ℕ) → Settled m T.capacity T.lots U v k → (Q : Table) × (w : Verdict) × (n : ℕ) × Tightened m T Q w n
  tightens U v k s = (
    record { capacity = T.capacity; lots = U },
    v,
    k,
    record { same_capacity = refl; settled = s; few = chain_few m sound T.capacity T.lots ok (settled_chain m T.capacity T.lots U v k s) },
  )

  comes_tightened : (o : Outcome) → ComesTo m T.capacity T.lots o → (Q : Table) × (v : Verdict) × (k : ℕ) × Tightened m T Q v k
  comes_tightened dead (n, W, h, e) = tightens T.lots Dead (suc n) (n, W, refl, h, e, refl)
  comes_tightened (to U) (n, h, e) = let s = settled_at m T.capacity T.lots U n h e in tightens U s.0 s.1 s.2

  pub tightened_some : (Q : Table) × (v : Verdict) × (k : ℕ) × Tightened m T Q v k
  tightened_some = let c = comes_some m sound T.capacity T.lots ok in comes_tightened c.0 c.1
