-- The least ect of a list of lots: as a chain of iterators finds it, and that it lies in the week.
use Rattle.std.proofs.Common.{◌≡◌, ℕ, ◌≤◌, min, List, [], ◌∷◌, map, sym, ◌∙◌, arith}
use Rattle.std.specs.List.{fold, reduce, AllByRecursion}
use Rattle.std.specs.Prelude.{unwrap_or}
use Rattle.lots.specs.Limits.{horizon}
use Rattle.lots.specs.Tables.{lot_at, LawfulLot, Lawful}
use Rattle.lots.specs.declared.Lot.{Lot}
use Rattle.rules.specs.NotFirst.{is_in_cut, cut, least_ect}
use Rattle.rules.proofs.ChosenLots.{chosen_each}

-- L is the least f of a list, and 0 without lots
module _ (f : Lot → ℕ) (L : List Lot → ℕ) (none : L [] ≡ 0) (one : (x : Lot) → L (x ∷ []) ≡ f x) (more : (x y : Lot) (ys : List Lot) → L (x ∷ (y ∷ ys)) ≡ min (f x) (L (y ∷ ys))) where
  least_from : (m : ℕ) (x : Lot) (xs : List Lot) → fold min m (map f (x ∷ xs)) ≡ min m (L (x ∷ xs))
  least_from m x [] = omega (arith, one x)
  least_from m x (y ∷ ys) = omega (arith, least_from (min m (f x)) y ys, more x y ys)

  pub least_is : (xs : List Lot) → unwrap_or (reduce min (map f xs)) 0 ≡ L xs
  least_is [] = sym none
  least_is (x ∷ []) = sym (one x)
  least_is (x ∷ (y ∷ ys)) = least_from (f x) y ys ∙ sym (more x y ys)

-- the least ect of a cut lies in the week
module _ (C : ℕ) where
  least_in_week : (Ω : List Lot) → AllByRecursion (LawfulLot C) Ω → least_ect Ω ≤ horizon
  least_in_week [] a = omega arith
  least_in_week (x ∷ []) a = omega (arith, a.0.has_time, a.0.in_week)
  least_in_week (x ∷ (y ∷ ys)) a = omega (arith, a.0.has_time, a.0.in_week)

  pub cut_least : (T : List Lot) → Lawful C T → (i t : ℕ) → least_ect (cut T i t) ≤ horizon
  cut_least T ok i t = least_in_week (cut T i t) (chosen_each (is_in_cut i (lot_at T i).est t) (LawfulLot C) 0 T ok.each)
