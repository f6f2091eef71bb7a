-- Every schedule runs the lots over their fixed parts.
use Rattle.std.specs.Prelude.{◌≡◌, ℕ, zero, suc, ◌+◌, ◌<◌, ◌≤◌, true, if◌then◌else◌, List, [], ◌∷◌, length, nat_le, nat_lt, slice_index}
use Rattle.std.proofs.Common.{inl, inr, arith}
use Rattle.std.proofs.lemmas.Bool.{ltb-true, and_parts, cases_lt}
use Rattle.std.proofs.lemmas.Bool.Decides.{nat_tests}
use Rattle.lots.specs.Schedules.{spans, load, Placed, Schedule}
use Rattle.lots.specs.Tables.{ect, lot_at}
use Rattle.lots.specs.declared.Lot.{Lot}
use Rattle.rules.specs.TimeTable.{fixed_trays, fixed_load, fixed_load_of_others, is_blocked}

fixed_runs : (x : Lot) (s t : ℕ) → x.est ≤ s → s + x.p ≤ x.lct → fixed_trays x t ≤ (if spans s (s + x.p) t then x.c else 0)
fixed_runs x s t early late = grind (arith, nat_tests)

runs_by : (x : Lot) (s t : ℕ) → x.est ≤ s → s ≤ t → t < ect x → x.c ≤ (if spans s (s + x.p) t then x.c else 0)
runs_by x s t early started going = grind (arith, nat_tests)

module _ (t : ℕ) where
  pub load_of_fixed : (T : List Lot) (ss : List ℕ) → Placed T ss → fixed_load T t ≤ load t T ss
  load_of_fixed [] ss p = omega arith
  load_of_fixed (x ∷ xs) [] p = absurd p
  load_of_fixed (x ∷ xs) (s ∷ ss) p = omega (arith, fixed_runs x s t p.0.0 p.0.1, load_of_fixed xs ss p.1)

  -- the lot j runs at t too where it started by then
  load_of_others : (j : ℕ) (T : List Lot) (ss : List ℕ) → Placed T ss → j < length T → slice_index ss j ≤ t → t < ect (lot_at T j) → (lot_at T j).c + fixed_load_of_others j T t ≤ load t T ss
  load_of_others j [] ss p h started going = absurd (omega arith)
  load_of_others zero (x ∷ xs) [] p h started going = absurd p
  load_of_others (suc j) (x ∷ xs) [] p h started going = absurd p
  load_of_others zero (x ∷ xs) (s ∷ ss) p h started going =
      omega (arith, runs_by x s t p.0.0 started going, load_of_fixed xs ss p.1)
  load_of_others (suc j) (x ∷ xs) (s ∷ ss) p h started going =
      omega (arith, fixed_runs x s t p.0.0 p.0.1, load_of_others j xs ss p.1 (omega arith) started going)

-- so a lot does not start by a minute at which it is blocked
pub blocked_before : (C : ℕ) (T : List Lot) (ss : List ℕ) → Schedule C T ss → (j : ℕ) → j < length T → (t : ℕ) → t < ect (lot_at T j) → is_blocked C T j t ≡ true → t < slice_index ss j
blocked_before C T ss s j h t going e =
    let over = ltb-true C ((lot_at T j).c + fixed_load_of_others j T t) (and_parts (nat_le (lot_at T j).est t) (nat_lt C ((lot_at T j).c + fixed_load_of_others j T t)) e).1 in
    elim (cases_lt t (slice_index ss j)) [
      | inl before ↦ before
      | inr started ↦ absurd (omega (arith, load_of_others t j T ss s.placed h started going, s.within t))
    ]
