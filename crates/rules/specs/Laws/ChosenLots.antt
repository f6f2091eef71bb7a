-- What holds of a table holds of some of its lots.
use Rattle.std.specs.Prelude.{ℕ, suc, ◌+◌, ◌≤◌, Bool, true, false, if◌then◌else◌, List, [], ◌∷◌}
use Rattle.std.proofs.Common.{arith}
use Rattle.lots.specs.Schedules.{spans, load, Placed, Schedule}
use Rattle.lots.specs.declared.Lot.{Lot}
use Rattle.rules.specs.Chosen.{chosen_lots}

module _ (test : ℕ → Lot → Bool) where
  abbrev pub chosen_starts : ℕ → List Lot → List ℕ → List ℕ
  chosen_starts k [] ss = []
  chosen_starts k (x ∷ xs) [] = []
  chosen_starts k (x ∷ xs) (s ∷ ss) = if test k x then s ∷ chosen_starts (suc k) xs ss else chosen_starts (suc k) xs ss

  placed_cond : (b : Bool) (x : Lot) (s : ℕ) (xs : List Lot) (ss : List ℕ) → (x.est ≤ s) × (s + x.p ≤ x.lct) → Placed xs ss → Placed (if b then x ∷ xs else xs) (if b then s ∷ ss else ss)
  placed_cond true x s xs ss p q = (p, q)
  placed_cond false x s xs ss p q = q

  pub chosen_placed : (k : ℕ) (T : List Lot) (ss : List ℕ) → Placed T ss → Placed (chosen_lots test k T) (chosen_starts k T ss)
  chosen_placed k [] [] p = tt
  chosen_placed k [] (s ∷ ss) p = absurd p
  chosen_placed k (x ∷ xs) [] p = absurd p
  chosen_placed k (x ∷ xs) (s ∷ ss) p = placed_cond (test k x) x s (chosen_lots test (suc k) xs) (chosen_starts (suc k) xs ss) p.0 (chosen_placed (suc k) xs ss p.1)

  pub load_cond : (t : ℕ) (b : Bool) (x : Lot) (s : ℕ) (xs : List Lot) (ss : List ℕ) → load t (if b then x ∷ xs else xs) (if b then s ∷ ss else ss) ≤ (if spans s (s + x.p) t then x.c else 0) + load t xs ss
  load_cond t true x s xs ss = omega arith
  load_cond t false x s xs ss = omega arith

  pub chosen_load : (t k : ℕ) (T : List Lot) (ss : List ℕ) → Placed T ss → load t (chosen_lots test k T) (chosen_starts k T ss) ≤ load t T ss
  chosen_load t k [] ss p = omega arith
  chosen_load t k (x ∷ xs) [] p = absurd p
  chosen_load t k (x ∷ xs) (s ∷ ss) p =
      omega (arith, load_cond t (test k x) x s (chosen_lots test (suc k) xs) (chosen_starts (suc k) xs ss), chosen_load t (suc k) xs ss p.1)

  pub chosen_schedule : (C : ℕ) (T : List Lot) (ss : List ℕ) → Schedule C T ss → Schedule C (chosen_lots test 0 T) (chosen_starts 0 T ss)
  chosen_schedule C T ss s = record {
    placed = chosen_placed 0 T ss s.placed;
    within = λ t. omega (arith, chosen_load t 0 T ss s.placed, s.within t);
  }
