-- Two tables of the same work: the same the other way round, with the same ends, and equal where neither is wider than the other.
use Rattle.std.specs.Prelude.{◌≡◌, ℕ, ◌+◌, max, List, [], ◌∷◌, refl}
use Rattle.std.proofs.Common.{sym, ap₂, arith}
use Rattle.std.specs.List.{AllZip}
use Rattle.lots.specs.Schedules.{end}
use Rattle.lots.specs.declared.Lot.{Lot}
use Rattle.rule.specs.Meanings.{SameWork, Narrower}
use Rattle.lots.proofs.Tables.{lot_path}

pub each_sym : {X : Type 0} (R S : X → X → Type 0) → ((x y : X) → R x y → S y x) → (xs ys : List X) → AllZip R xs ys → AllZip S ys xs
each_sym R S f [] [] h = tt
each_sym R S f [] (y ∷ ys) h = absurd h
each_sym R S f (x ∷ xs) [] h = absurd h
each_sym R S f (x ∷ xs) (y ∷ ys) h = (f x y h.0, each_sym R S f xs ys h.1)

pub same_work_sym : (T U : List Lot) → SameWork T U → SameWork U T
same_work_sym T U w = each_sym _ _ (λ x y h. (sym h.0, sym h.1)) T U w

-- two tables of the same work, each narrower than the other
pub narrower_antisym : (T U : List Lot) → SameWork T U → Narrower T U → Narrower U T → U ≡ T
narrower_antisym [] [] w n m = refl
narrower_antisym [] (y ∷ ys) w n m = absurd w
narrower_antisym (x ∷ xs) [] w n m = absurd w
narrower_antisym (x ∷ xs) (y ∷ ys) w n m =
    ap₂ ◌∷◌ (lot_path y x (omega arith) (omega arith) w.0.0 w.0.1) (narrower_antisym xs ys w.1 n.1 m.1)

-- the end, too, is of the work alone
pub end_same : (T U : List Lot) (ss : List ℕ) → SameWork T U → end U ss ≡ end T ss
end_same [] [] ss w = refl
end_same [] (y ∷ ys) ss w = absurd w
end_same (x ∷ xs) [] ss w = absurd w
end_same (x ∷ xs) (y ∷ ys) [] w = refl
end_same (x ∷ xs) (y ∷ ys) (s ∷ ss) w = ap₂ (λ p n. max (s + p) n) w.0.0 (end_same xs ys ss w.1)
