-- Schedules of tables of the same work.
use Rattle.std.proofs.Common.{◌≡◌, ℕ, ◌+◌, ◌≤◌, if◌then◌else◌, List, [], ◌∷◌, sym, refl, subst, ap₂}
use Rattle.lots.specs.Schedules.{spans, load, Placed, Schedule}
use Rattle.lots.specs.declared.Lot.{Lot}
use Rattle.rule.specs.Meanings.{SameWork}

-- the load is of the work alone
pub load_same : (t : ℕ) (T U : List Lot) (ss : List ℕ) → SameWork T U → load t U ss ≡ load t T ss
load_same t [] [] ss w = refl
load_same t [] (y ∷ ys) ss w = absurd w
load_same t (x ∷ xs) [] ss w = absurd w
load_same t (x ∷ xs) (y ∷ ys) [] w = refl
load_same t (x ∷ xs) (y ∷ ys) (s ∷ ss) w =
    ap₂ ◌+◌ (ap₂ (λ p c. if spans s (s + p) t then c else 0) w.0.0 w.0.1) (load_same t xs ys ss w.1)

-- so a schedule of a table is one of the same work wherever its starts fit
pub schedule_same : (C : ℕ) (T U : List Lot) (ss : List ℕ) → SameWork T U → Placed U ss → Schedule C T ss →
    Schedule C U ss
schedule_same C T U ss w p s = record { placed = p; within = λ t. subst (λ n. n ≤ C) (sym (load_same t T U ss w)) (s.within t) }
