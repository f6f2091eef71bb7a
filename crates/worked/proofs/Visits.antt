-- The visit of a table, found by computing it.
use Rattle.std.proofs.Common.{◌≡◌, ℕ, zero, suc, ◌+◌, ◌≤◌, Bool, true, ◌&&◌, List, [], ◌∷◌, ◌++◌, length, Some, None, Option, Decides, refl, ap, ◌∙◌, ◌⊎◌, inl, inr}
use Rattle.std.specs.Prelude.{nat_le, nat_lt}
use Rattle.std.proofs.ByRecursion.{Decides-by_and}
use Rattle.std.proofs.lemmas.Bool.{leb-true, le-leb}
use Rattle.std.proofs.lemmas.Bool.Decides.{Decides-ltb}
use Rattle.lots.specs.Schedules.{load, end}
use Rattle.lots.specs.Tables.{ect, lst, lot_at, Fits}
use Rattle.lots.specs.declared.Lot.{Lot}
use Rattle.rule.specs.Meanings.{Meaning, Outcome, dead, to}
use Rattle.rule.specs.Settled.{Moves, none, more, slack}
use Rattle.tree.specs.Tree.{BestKnown, known, under, ComesTo, Leaves, late, tight, Fixed, earliest_starts, HasChoice, Branch, left, right, barren, above_capacity, found, last_known, Visit, leaf, fork}
use Rattle.tree.proofs.Ways.{to_the_end}
use Rattle.worked.proofs.Found.{and_then, either_by, at_most, less, equal, of_each, of_each_below, of_some_below}
use Rattle.worked.proofs.Outcomes.{same?}

abbrev pub fit : List Lot → Bool
fit [] = true
fit (x ∷ xs) = nat_le (ect x) x.lct && fit xs

pub fit_decides : (T : List Lot) → Decides (fit T) (Fits T)
fit_decides T = Decides-by_and (λ x. nat_le (ect x) x.lct) (λ x. ect x ≤ x.lct) fit (λ x. (leb-true _ _, le-leb _ _)) refl (λ _ _. refl) T

-- Q, where P holds
abbrev pub where_so : {P Q : Type 0} → P ⊎ (P → ⊥) → Option Q → Option (P → Q)
where_so (inl p) q = and_then q (λ r. Some (λ _. r))
where_so (inr n) q = Some (λ p. absurd (n p))

-- the lot k, where it has a choice
abbrev pub where_choice : {Q : Type 0} → (U : List Lot) (k : ℕ) → Option Q → Option (HasChoice (lot_at U k) → Q)
where_choice U k q = where_so (either_by (nat_lt (lot_at U k).est (lst (lot_at U k))) (Decides-ltb _ _)) q

abbrev pub branch : (U : List Lot) (j : ℕ) → Option (Branch U j)
branch U j =
    and_then (less j (length U)) (λ inside. and_then (less (lot_at U j).est (lst (lot_at U j))) (λ choice.
    and_then (of_each_below (λ k. where_choice U k (at_most (lot_at U j).est (lot_at U k).est)) (length U)) (λ earliest.
    and_then (of_each_below (λ k. where_choice U k (less (lot_at U j).est (lot_at U k).est)) j) (λ first.
    Some (record { inside = inside; choice = choice; earliest = earliest; first = first })))))

module _ (m : Meaning) (C : ℕ) where
  -- what the rule makes of T, where n moves lead from it to U; at most k more are looked at
  abbrev pub comes_to : (k : ℕ) (T U : List Lot) (n : ℕ) → Moves m C T n U → (o : Outcome) → m C U ≡ o → Option ((o : Outcome) × ComesTo m C T o)
  comes_to zero T U n h o e = None
  comes_to (suc k) T U n h dead e = Some (dead, (n, U, h, e))
  comes_to (suc k) T U n h (to V) e = elim (same? V U) [
    | inl still ↦ Some (to U, (n, h, e ∙ ap to still))
    | inr moved ↦ comes_to k T V (suc n) (more h e moved) (m C V) refl
  ]

  abbrev pub VisitOf : BestKnown → List Lot → Type 0
  VisitOf b T = (bs : List BestKnown) × Visit m C b T bs

  -- a node whose lots have one start left each
  abbrev pub closing : (b : BestKnown) (T U : List Lot) → Leaves m C b T (to U) → Fixed U → Option (VisitOf b T)
  closing b T U l f = elim (of_each_below (λ t. at_most (load t U (earliest_starts U)) C) (end U (earliest_starts U))) [
    | Some within ↦ Some (known (earliest_starts U) (end U (earliest_starts U)) ∷ [], leaf (found l f (to_the_end C U (earliest_starts U) within)))
    | None ↦ and_then (of_some_below (λ t. less C (load t U (earliest_starts U))) (end U (earliest_starts U))) (λ r. Some (b ∷ [], leaf (above_capacity r.0 l f r.1)))
  ]

  -- the nodes below are visited by w
  module _ (w : (b : BestKnown) (T : List Lot) → Option (VisitOf b T)) (b : BestKnown) (T : List Lot) where
    abbrev pub forking : (U : List Lot) → Leaves m C b T (to U) → (j : ℕ) → Branch U j → Option (VisitOf b T)
    forking U l j br = and_then (w b (left j U)) (λ ls. and_then (w (last_known b ls.0) (right j U)) (λ rs. Some (b ∷ (ls.0 ++ rs.0), fork j l br ls.1 rs.1)))

    abbrev pub node : (o : Outcome) → Leaves m C b T o → Option (VisitOf b T)
    node dead l = Some (b ∷ [], leaf (barren l))
    node (to U) l = elim (of_each (λ x. equal x.est (lst x)) U) [
      | Some f ↦ closing b T U l f
      | None ↦ and_then (of_some_below (branch U) (length U)) (λ r. forking U l r.0 r.1)
    ]

  -- the visit of T, where it is at most k nodes deep
  abbrev pub visit : ℕ → (b : BestKnown) (T : List Lot) → Option (VisitOf b T)
  visit zero b T = None
  visit (suc k) b T = elim (either_by (fit (under b T)) (fit_decides (under b T))) [
    | inl f ↦
        and_then (comes_to (1 + slack (under b T)) (under b T) (under b T) 0 none (m C (under b T)) refl)
        (λ r. node (visit k) b T r.0 (tight f r.1))
    | inr n ↦ Some (b ∷ [], leaf (barren (late n)))
  ]
