-- The toolkit of who writes a rule that means `raise` by some bounds: the four facts that it owes.
-- `raise_lawful` and `raise_narrows` hold of any bounds. `raise_keeps` and `raise_dies` take one fact of the
-- subject, that every schedule keeps the bounds: each lot of each schedule starts at its bound or later.
use Rattle.std.proofs.Common.{◌≡◌, ℕ, suc, ◌+◌, ◌<◌, ◌≤◌, Bool, true, false, if◌then◌else◌, leb, List, [], ◌∷◌, length, get_or, sym, refl, ap, ◌∙◌, subst, arith}
use Rattle.std.specs.List.{AllByRecursion}
use Rattle.std.proofs.lemmas.Bool.{leb-true, and_parts, le-leb, and_from, true≢false}
use Rattle.lots.specs.Schedules.{Placed, Schedule}
use Rattle.lots.specs.Tables.{ect, Fits, LawfulLot, Lawful}
use Rattle.lots.specs.declared.Lot.{Lot}
use Rattle.lots.proofs.Schedules.{placed_fits}
use Rattle.rule.specs.Meanings.{SameWork, Narrower, LawfulSameWork, Keeps, Hopeless, Gives, Dies, dead, to}
use Rattle.rule.specs.Raised.{later_lot, later_lots, all_fit, raise}
use Rattle.rule.specs.Laws.Schedules.{schedule_same}

-- what later lots keep: their work, and a lawful table where every run still fits
module _ (bound : ℕ → ℕ) where
  later_work : (k : ℕ) (T : List Lot) → SameWork T (later_lots bound k T)
  later_work k [] = tt
  later_work k (x ∷ xs) = ((refl, refl), later_work (suc k) xs)

  later_narrower : (k : ℕ) (T : List Lot) → Narrower T (later_lots bound k T)
  later_narrower k [] = tt
  later_narrower k (x ∷ xs) = ((omega arith, omega arith), later_narrower (suc k) xs)

  later_length : (k : ℕ) (T : List Lot) → length (later_lots bound k T) ≡ length T
  later_length k [] = refl
  later_length k (x ∷ xs) = ap suc (later_length (suc k) xs)

  later_lawful : (C k : ℕ) (T : List Lot) → AllByRecursion (LawfulLot C) T →
      all_fit (later_lots bound k T) ≡ true → AllByRecursion (LawfulLot C) (later_lots bound k T)
  later_lawful C k [] ok fit = tt
  later_lawful C k (x ∷ xs) ok fit =
      let parts = and_parts (leb (ect (later_lot (bound k) x)) x.lct) (all_fit (later_lots bound (suc k) xs)) fit in (
        record {
          runs = ok.0.runs;
          takes_trays = ok.0.takes_trays;
          has_trays = ok.0.has_trays;
          has_time = leb-true (ect (later_lot (bound k) x)) x.lct parts.0;
          in_week = ok.0.in_week;
        },
        later_lawful C (suc k) xs ok.1 parts.1,
      )

  -- starts that keep the bounds are starts of the later lots, whose runs therefore fit
  later_placed : (k : ℕ) (T : List Lot) (ss : List ℕ) →
      ((j : ℕ) → j < length T → bound (k + j) ≤ get_or ss j 0) → Placed T ss →
      Placed (later_lots bound k T) ss
  later_placed k [] [] kept p = tt
  later_placed k [] (s ∷ ss) kept p = absurd p
  later_placed k (x ∷ xs) [] kept p = absurd p
  later_placed k (x ∷ xs) (s ∷ ss) kept p =
      let here : bound k ≤ s = subst (λ n. bound n ≤ s) (omega arith) (kept 0 (omega arith)) in
      let next : (j : ℕ) → j < length xs → bound (suc k + j) ≤ get_or ss j 0 = λ j h. subst (λ n. bound n ≤ get_or ss j 0) (omega arith) (kept (suc j) (omega arith)) in
      ((omega (arith, p.0.0), p.0.1), later_placed (suc k) xs ss next p.1)

  each_fits : (T : List Lot) → Fits T → all_fit T ≡ true
  each_fits [] f = refl
  each_fits (x ∷ xs) f = and_from (leb (ect x) x.lct) (all_fit xs) (le-leb (ect x) x.lct f.0) (each_fits xs f.1)

  -- the four facts, at the lawful table T
  module _ (C : ℕ) (T : List Lot) (ok : Lawful C T) where
    abbrev U : List Lot
    U = later_lots bound 0 T

    given : (P : List Lot → Type 0) → (all_fit U ≡ true → P U) → (b : Bool) → all_fit U ≡ b →
        Gives (if b then to U else dead) P
    given P h true e = h e
    given P h false e = tt

    died : (P : Type 0) → (all_fit U ≡ false → P) → (b : Bool) → all_fit U ≡ b →
        Dies (if b then to U else dead) P
    died P h true e = tt
    died P h false e = h e

    pub raise_lawful : Gives (raise bound T) (LawfulSameWork C T)
    raise_lawful = given (LawfulSameWork C T) (λ fit. (
      record {
        some_trays = ok.some_trays;
        few_trays = ok.few_trays;
        few_lots = omega (arith, later_length 0 T, ok.few_lots);
        each = later_lawful C 0 T ok.each fit;
      },
      later_work 0 T,
    )) (all_fit U) refl

    pub raise_narrows : Gives (raise bound T) (Narrower T)
    raise_narrows = given (Narrower T) (λ fit. later_narrower 0 T) (all_fit U) refl

    module _ (kept : (ss : List ℕ) → Schedule C T ss → (j : ℕ) → j < length T → bound j ≤ get_or ss j 0) where
      placed_later : (ss : List ℕ) → Schedule C T ss → Placed U ss
      placed_later ss s = later_placed 0 T ss (λ j h. subst (λ n. bound n ≤ get_or ss j 0) (omega arith) (kept ss s j h)) s.placed

      pub raise_keeps : Gives (raise bound T) (Keeps C T)
      raise_keeps = given (Keeps C T) (λ fit ss s. schedule_same C T U ss (later_work 0 T) (placed_later ss s) s) (all_fit U) refl

      pub raise_dies : Dies (raise bound T) (Hopeless C T)
      raise_dies = died (Hopeless C T) (λ e ss s. true≢false (sym (each_fits U (placed_fits U ss (placed_later ss s))) ∙ e)) (all_fit U) refl
