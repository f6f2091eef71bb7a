-- What each call answers and leaves behind, where T is the table before it and U the table after it
-- (docs/PLAN.md, "The calls").
use Rattle.std.specs.Prelude.{◌≡◌, ℕ, ◌+◌, ◌<◌, ◌≤◌, ◌⊎◌, List, [], ◌∷◌, length, Result}
use Rattle.lots.specs.Checks.{Check, Checked}
use Rattle.lots.specs.Limits.{horizon, max_capacity, max_lots}
use Rattle.lots.specs.Tables.{ect, lot_at, Table}
use Rattle.lots.specs.declared.Lot.{Lot}
use Rattle.lots.specs.declared.Refusal.{Refusal}
use Rattle.lots.specs.declared.Refusal.TheVariants.{Capacity, TableFull, Trays, Run, Window, NoSuchLot, Span, NoRoom}
use Rattle.rule.specs.Meanings.{Meaning}
use Rattle.rule.specs.Settled.{slack, Settled}
use Rattle.rule.specs.declared.Verdict.{Verdict}
use Rattle.plan.specs.Tables.{empty, with_lot, lot_between, with_lot_between}

-- for the capacity C
abbrev pub open_checks : ℕ → List Check
open_checks C = record { refusal = Capacity; applies = (C ≡ 0) ⊎ (max_capacity < C) } ∷ []

-- open: no lots, under the capacity that was given
abbrev pub Opened : ℕ → Table → Table → Result (Unit {0}) Refusal → Type 0
Opened C T U r = Checked (open_checks C) (U ≡ T) (λ _. U ≡ empty C) r

-- for the lot x, where n lots are in under the capacity C
abbrev pub admit_checks : Lot → ℕ → ℕ → List Check
admit_checks x C n =
    record { refusal = TableFull; applies = max_lots ≤ n }
    ∷ record { refusal = Trays; applies = (x.c ≡ 0) ⊎ (C < x.c) }
    ∷ record { refusal = Run; applies = x.p ≡ 0 }
    ∷ record { refusal = Window; applies = (x.lct < ect x) ⊎ (horizon < x.lct) }
    ∷ []

-- admit: the lot x is the last, and the answer is its number
abbrev pub Admitted : Lot → Table → Table → Result ℕ Refusal → Type 0
Admitted x T U r =
    Checked (admit_checks x T.capacity (length T.lots)) (U ≡ T)
    (λ n. (n ≡ length T.lots) × (U ≡ with_lot x T)) r

-- for the lot x, in at a or later and out by b
abbrev pub window_checks : Lot → ℕ → ℕ → List Check
window_checks x a b =
    record { refusal = Span; applies = (b < a) ⊎ (horizon < b) }
    ∷ record { refusal = NoRoom; applies = (lot_between a b x).lct < ect (lot_between a b x) }
    ∷ []

-- for the lot with the number i of the lots xs, in at a or later and out by b
abbrev pub narrow_checks : ℕ → ℕ → ℕ → List Lot → List Check
narrow_checks i a b xs =
    record { refusal = NoSuchLot; applies = length xs ≤ i } ∷ window_checks (lot_at xs i) a b

-- narrow: the lot with the number i goes in at a or later and is out by b
abbrev pub Narrowed : ℕ → ℕ → ℕ → Table → Table → Result (Unit {0}) Refusal → Type 0
Narrowed i a b T U r = Checked (narrow_checks i a b T.lots) (U ≡ T) (λ _. U ≡ with_lot_between i a b T) r

-- tighten by the rule m, which never refuses: its verdict v, and the number k of applications
pub record Tightened (m : Meaning) (T U : Table) (v : Verdict) (k : ℕ) : Type 0 where
  pub same_capacity : U.capacity ≡ T.capacity
  pub settled : Settled m T.capacity T.lots U.lots v k
  pub few : k ≤ 1 + slack T.lots
