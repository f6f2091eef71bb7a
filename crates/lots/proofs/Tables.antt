-- Lots that are equal, and lawful tables.
use Rattle.std.proofs.Common.{◌≡◌, ℕ, ◌≤◌, List, arith}
use Rattle.std.proofs.ByRecursion.{All-weaker}
use Rattle.lots.specs.Limits.{max_capacity}
use Rattle.lots.specs.Tables.{LawfulLot, Lawful}
use Rattle.lots.specs.declared.Lot.{Lot}

-- two lots of the same four numbers
pub lot_path : (x y : Lot) → x.est ≡ y.est → x.lct ≡ y.lct → x.p ≡ y.p → x.c ≡ y.c → x ≡ y
lot_path x y e l p c = λ i. record { est = e i; lct = l i; p = p i; c = c i }

lawful_lot_under_more : (C D : ℕ) → C ≤ D → (x : Lot) → LawfulLot C x → LawfulLot D x
lawful_lot_under_more C D h x ok = record {
  runs = ok.runs;
  takes_trays = ok.takes_trays;
  has_trays = omega (arith, ok.has_trays);
  has_time = ok.has_time;
  in_week = ok.in_week;
}

-- a lawful table is lawful under the greatest capacity too
pub lawful_under_most : (C : ℕ) (T : List Lot) → Lawful C T → Lawful max_capacity T
lawful_under_most C T ok = record {
  some_trays = omega arith;
  few_trays = omega arith;
  few_lots = ok.few_lots;
  each = All-weaker (LawfulLot C) (LawfulLot max_capacity) (lawful_lot_under_more C max_capacity ok.few_trays) T ok.each;
}
