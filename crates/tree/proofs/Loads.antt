-- The load and the end of a table whose lots each start at their est.
use Rattle.std.proofs.Common.{◌≡◌, ℕ, zero, suc, ◌<◌, ◌≤◌, ◌⊎◌, min, max, false, List, [], ◌∷◌, map, refl, inl, inr, arith}
use Rattle.std.proofs.lemmas.Bool.{cases_lt}
use Rattle.std.proofs.lemmas.Bool.Decides.{nat_tests}
use Rattle.std.specs.List.{AllByRecursion, fold, reduce}
use Rattle.std.specs.Prelude.{unwrap_or, Contains}
use Rattle.lots.specs.Limits.{horizon}
use Rattle.lots.specs.Schedules.{spans, load, end}
use Rattle.lots.specs.Tables.{ect, LawfulLot}
use Rattle.lots.specs.declared.Lot.{Lot}
use Rattle.tree.specs.Tree.{earliest_starts}
use Rattle.tree.specs.Private.Held.{IsLeastEst}

end_from : (m : ℕ) (T : List Lot) → fold max m (map ect T) ≡ max m (end T (earliest_starts T))
end_from m [] = omega arith
end_from m (x ∷ xs) = omega (arith, end_from (max m (ect x)) xs)

pub end_is : (T : List Lot) → unwrap_or (reduce max (map ect T)) 0 ≡ end T (earliest_starts T)
end_is [] = refl
end_is (x ∷ xs) = end_from (ect x) xs

start_from : (m : ℕ) (T : List Lot) → (fold min m (map (λ x. x.est) T) ≤ m) × AllByRecursion (λ x. fold min m (map (λ y. y.est) T) ≤ x.est) T
start_from m [] = (omega arith, tt)
start_from m (x ∷ xs) = let h = start_from (min m x.est) xs in (omega (arith, h.0), (omega (arith, h.0), h.1))

-- a number that is one of two stands for both
contains_either : (a m y : ℕ) (ys : List ℕ) (r : ℕ) → (a ≡ m) ⊎ (a ≡ y) → Contains (a ∷ ys) r → Contains (m ∷ y ∷ ys) r
contains_either a m y ys r (inl e) (zero, h, is) = (0, omega arith, cc)
contains_either a m y ys r (inr e) (zero, h, is) = (1, omega arith, cc)
contains_either a m y ys r e (suc k, h, is) = (suc (suc k), omega arith, is)

-- the least of some numbers is one of them
contains_least : (m : ℕ) (ys : List ℕ) → Contains (m ∷ ys) (fold min m ys)
contains_least m [] = (0, omega arith, refl)
contains_least m (y ∷ ys) =
    let either : (min m y ≡ m) ⊎ (min m y ≡ y) = elim (cases_lt y m) [ inl h ↦ inr (omega arith) | inr h ↦ inl (omega arith) ] in
    contains_either (min m y) m y ys _ either (contains_least (min m y) ys)

pub start_least : (T : List Lot) → IsLeastEst T (unwrap_or (reduce min (map (λ y. y.est) T)) 0)
start_least [] = refl
start_least (x ∷ xs) = (contains_least x.est (map (λ y. y.est) xs), start_from x.est xs)

-- no lot goes in before the least est
pub least_first : (T : List Lot) (s : ℕ) → IsLeastEst T s → AllByRecursion (λ x. s ≤ x.est) T
least_first [] s h = tt
least_first (x ∷ xs) s h = h.1

-- nothing runs before the first lot goes in
pub load_before : (t s : ℕ) (T : List Lot) → AllByRecursion (λ x. s ≤ x.est) T → t < s → load t T (earliest_starts T) ≡ 0
load_before t s [] first h = refl
load_before t s (x ∷ xs) first h = let none : spans x.est (ect x) t ≡ false = grind (arith, nat_tests, first.0) in rw none (omega (arith, load_before t s xs first.1 h))

-- every lot is out by the end of the week
pub end_in_week : (C : ℕ) (T : List Lot) → AllByRecursion (LawfulLot C) T → end T (earliest_starts T) ≤ horizon
end_in_week C [] ok = omega arith
end_in_week C (x ∷ xs) ok = omega (arith, end_in_week C xs ok.1, ok.0.has_time, ok.0.in_week)
