-- A table read from the other end of the week: it is lawful where the table is, and narrower where that is.
use Rattle.std.specs.Prelude.{ℕ, ◌≤◌, List, [], ◌∷◌, map}
use Rattle.std.proofs.Common.{sym, subst, arith}
use Rattle.std.proofs.lemmas.List.{length-map}
use Rattle.std.proofs.ByRecursion.{All-map, All-weaker}
use Rattle.std.specs.List.{AllZip, AllByRecursion}
use Rattle.lots.specs.Limits.{max_lots}
use Rattle.lots.specs.Tables.{LawfulLot, Lawful}
use Rattle.lots.specs.declared.Lot.{Lot}
use Rattle.rule.specs.Meanings.{SameWork, Narrower}
use Rattle.rule.specs.Turned.{turn}
use Rattle.rule.specs.Private.Week.{InWeek}

pub lawful_week : (C : ℕ) (T : List Lot) → Lawful C T → AllByRecursion InWeek T
lawful_week C T ok = All-weaker (LawfulLot C) InWeek (λ x h. omega arith) T ok.each

pub turn_lawful : (C : ℕ) (T : List Lot) → Lawful C T → Lawful C (map turn T)
turn_lawful C T ok = record {
  some_trays = ok.some_trays;
  few_trays = ok.few_trays;
  few_lots = subst (λ n. n ≤ max_lots) (sym (length-map T turn)) ok.few_lots;
  each = All-map (LawfulLot C) turn T (All-weaker (LawfulLot C) (λ x. LawfulLot C (turn x)) (λ x h. omega arith) T ok.each);
}

-- what relates the turned table to U relates the table to U turned
turn_each : (R S : Lot → Lot → Type 0) → ((x y : Lot) → InWeek x → R (turn x) y → S x (turn y)) →
    (T U : List Lot) → AllByRecursion InWeek T → AllZip R (map turn T) U → AllZip S T (map turn U)
turn_each R S f [] [] h e = tt
turn_each R S f [] (y ∷ ys) h e = absurd e
turn_each R S f (x ∷ xs) [] h e = absurd e
turn_each R S f (x ∷ xs) (y ∷ ys) h e = (f x y h.0 e.0, turn_each R S f xs ys h.1 e.1)

pub turn_same_work : (T U : List Lot) → AllByRecursion InWeek T → SameWork (map turn T) U →
    SameWork T (map turn U)
turn_same_work T U h w = turn_each _ _ (λ x y k r. r) T U h w

pub turn_narrower : (T U : List Lot) → AllByRecursion InWeek T → Narrower (map turn T) U →
    Narrower T (map turn U)
turn_narrower T U h w = turn_each _ _ (λ x y k r. omega arith) T U h w
