-- What is left of a node, and what is lost: no schedule that would end earlier than the best known.
use Rattle.std.proofs.Common.{ℕ, ◌+◌, ◌-◌, ◌≤◌, ◌⊎◌, List, [], ◌∷◌, map, refl, inl, inr, arith}
use Rattle.std.proofs.lemmas.Bool.{cases_lt}
use Rattle.std.proofs.lemmas.List.{length-map}
use Rattle.std.specs.List.{AllByRecursion}
use Rattle.lots.specs.Schedules.{end, Placed, Schedule}
use Rattle.lots.proofs.Schedules.{placed_fits}
use Rattle.lots.specs.Tables.{ect, Fits, LawfulLot, Lawful}
use Rattle.lots.specs.declared.Lot.{Lot}
use Rattle.rule.specs.Meanings.{Meaning, Outcome, dead, to, Gives, Dies, SameWork, Narrower, Hopeless, Sound}
use Rattle.rule.proofs.Chains.{Chain, still, dies, Kept, placed_back, chain_kept, chain_dead, moves_then}
use Rattle.rule.specs.Laws.Schedules.{schedule_same}
use Rattle.rule.specs.Laws.Tables.{same_work_refl, same_work_trans, narrower_refl, narrower_trans}
use Rattle.tree.specs.Tree.{BestKnown, unknown, known, EndsBy, lot_out_by, under, ComesTo, Leaves, late, tight}

-- U is lawful and of the same work as T, and no window is wider
pub record Below (C : ℕ) (T U : List Lot) : Type 0 where
  pub lawful : Lawful C U
  pub work : SameWork T U
  pub narrower : Narrower T U

pub below_trans : (C : ℕ) (T U V : List Lot) → Below C T U → Below C U V → Below C T V
below_trans C T U V p q = record {
  lawful = q.lawful;
  work = same_work_trans T U V p.work q.work;
  narrower = narrower_trans T U V p.narrower q.narrower;
}

pub kept_below : (C : ℕ) (T U : List Lot) → Kept C T U → Below C T U
kept_below C T U k = record { lawful = k.lawful; work = k.work; narrower = k.narrower }

-- the lots, out by d
out_work : (d : ℕ) (T : List Lot) → SameWork T (map (lot_out_by d) T)
out_work d [] = tt
out_work d (x ∷ xs) = ((refl, refl), out_work d xs)

out_narrower : (d : ℕ) (T : List Lot) → Narrower T (map (lot_out_by d) T)
out_narrower d [] = tt
out_narrower d (x ∷ xs) = (omega arith, out_narrower d xs)

out_each : (C d : ℕ) (T : List Lot) → AllByRecursion (LawfulLot C) T → Fits (map (lot_out_by d) T) → AllByRecursion (LawfulLot C) (map (lot_out_by d) T)
out_each C d [] ok h = tt
out_each C d (x ∷ xs) ok h = (omega arith, out_each C d xs ok.1 h.1)

out_lawful : (C d : ℕ) (T : List Lot) → Lawful C T → Fits (map (lot_out_by d) T) → Lawful C (map (lot_out_by d) T)
out_lawful C d T ok h = record {
  some_trays = ok.some_trays;
  few_trays = ok.few_trays;
  few_lots = omega (arith, length-map T (lot_out_by d), ok.few_lots);
  each = out_each C d T ok.each h;
}

-- the starts of T that end by d are those of the lots out by d
out_placed : (d : ℕ) (T : List Lot) (ss : List ℕ) → Placed T ss → end T ss ≤ d → Placed (map (lot_out_by d) T) ss
out_placed d [] [] p h = tt
out_placed d [] (s ∷ ss) p h = absurd p
out_placed d (x ∷ xs) [] p h = absurd p
out_placed d (x ∷ xs) (s ∷ ss) p h = (omega arith, out_placed d xs ss p.1 (omega arith))

out_end : (d : ℕ) (T : List Lot) (ss : List ℕ) → Placed (map (lot_out_by d) T) ss → end T ss ≤ d
out_end d [] ss p = omega arith
out_end d (x ∷ xs) [] p = absurd p
out_end d (x ∷ xs) (s ∷ ss) p = omega (arith, out_end d xs ss p.1)

-- the lots under the best known
under_work : (b : BestKnown) (T : List Lot) → SameWork T (under b T)
under_work unknown T = same_work_refl T
under_work (known ss e) T = out_work (e - 1) T

under_narrower : (b : BestKnown) (T : List Lot) → Narrower T (under b T)
under_narrower unknown T = narrower_refl T
under_narrower (known ss e) T = out_narrower (e - 1) T

under_lawful : (C : ℕ) (b : BestKnown) (T : List Lot) → Lawful C T → Fits (under b T) → Lawful C (under b T)
under_lawful C unknown T ok h = ok
under_lawful C (known ss e) T ok h = out_lawful C (e - 1) T ok h

pub under_below : (C : ℕ) (b : BestKnown) (T : List Lot) → Lawful C T → Fits (under b T) → Below C T (under b T)
under_below C b T ok h = record { lawful = under_lawful C b T ok h; work = under_work b T; narrower = under_narrower b T }

-- a schedule that ends earlier than the best known is one of theirs
under_placed : (b : BestKnown) (T : List Lot) (ss : List ℕ) → Placed T ss → (EndsBy b (end T ss) → ⊥) → Placed (under b T) ss
under_placed unknown T ss p h = p
under_placed (known rs e) T ss p h = elim (cases_lt (end T ss) e) [ inl k ↦ out_placed (e - 1) T ss p (omega arith) | inr k ↦ absurd (h k) ]

pub under_keeps : (C : ℕ) (b : BestKnown) (T : List Lot) (ss : List ℕ) → Schedule C T ss → (EndsBy b (end T ss) → ⊥) → Schedule C (under b T) ss
under_keeps C b T ss s h = schedule_same C T (under b T) ss (under_work b T) (under_placed b T ss s.placed h) s

-- and theirs end no later than the best known
pub under_end : (b : BestKnown) (T : List Lot) (ss : List ℕ) → Placed (under b T) ss → (k : ℕ) → EndsBy b k → end T ss ≤ k
under_end unknown T ss p k h = absurd h
under_end (known rs e) T ss p k h = omega (arith, out_end (e - 1) T ss p)

pub ends_by_or_not : (b : BestKnown) (k : ℕ) → EndsBy b k ⊎ (EndsBy b k → ⊥)
ends_by_or_not unknown k = inr (λ h. h)
ends_by_or_not (known ss e) k = elim (cases_lt k e) [ inl h ↦ inr (λ q. omega arith) | inr h ↦ inl h ]

pub fits_or_not : (T : List Lot) → Fits T ⊎ (Fits T → ⊥)
fits_or_not [] = inl tt
fits_or_not (x ∷ xs) = elim (cases_lt x.lct (ect x)) [
  | inl h ↦ inr (λ f. omega arith)
  | inr h ↦ elim (fits_or_not xs) [ inl f ↦ inl (h, f) | inr n ↦ inr (λ f. n f.1) ]
]

-- what a rule makes of a table is the end of a chain
pub comes_chain : (m : Meaning) (C : ℕ) (T : List Lot) (o : Outcome) → ComesTo m C T o → (k : ℕ) × Chain m C T k o
comes_chain m C T dead (n, W, h, e) = (n + 1, moves_then m C T h 1 dead (dies e))
comes_chain m C T (to U) (n, h, e) = (n + 1, moves_then m C T h 1 (to U) (still e))

-- U remains of T: nothing that would end earlier than the best known b is lost
pub record Remains (C : ℕ) (b : BestKnown) (T U : List Lot) : Type 0 where
  pub below : Below C T U
  -- every schedule of T that ends earlier is one of U
  pub keeps : (ss : List ℕ) → Schedule C T ss → (EndsBy b (end T ss) → ⊥) → Schedule C U ss
  -- and those of U end no later
  pub ends : (ss : List ℕ) → Placed U ss → (k : ℕ) → EndsBy b k → end T ss ≤ k

module _ (m : Meaning) (sound : Sound m) (C : ℕ) where
  pub comes_kept : (T : List Lot) (o : Outcome) → Lawful C T → ComesTo m C T o → Gives o (Kept C T)
  comes_kept T o ok h = chain_kept m sound C T ok (comes_chain m C T o h).1

  pub comes_dead : (T : List Lot) (o : Outcome) → Lawful C T → ComesTo m C T o → Dies o (Hopeless C T)
  comes_dead T o ok h = chain_dead m sound C T ok (comes_chain m C T o h).1

  pub leaves_remains : (b : BestKnown) (T U : List Lot) → Lawful C T → Leaves m C b T (to U) → Remains C b T U
  leaves_remains b T U ok (tight f h) =
      let first = under_below C b T ok f in
      let then = comes_kept (under b T) (to U) first.lawful h in
      record {
        below = below_trans C T (under b T) U first (kept_below C (under b T) U then);
        keeps = λ ss s e. then.keeps ss (under_keeps C b T ss s e);
        ends = λ ss p k e. under_end b T ss (placed_back (under b T) U ss then.work then.narrower p) k e;
      }

  -- where nothing is left, no schedule would end earlier
  pub leaves_dead : (b : BestKnown) (T : List Lot) → Lawful C T → Leaves m C b T dead → (ss : List ℕ) → Schedule C T ss → EndsBy b (end T ss)
  leaves_dead b T ok h ss s = elim (ends_by_or_not b (end T ss)) [ inl e ↦ e | inr e ↦ absurd (none h (under_keeps C b T ss s e)) ]
    where
      none : Leaves m C b T dead → Schedule C (under b T) ss → ⊥
      none (late f) q = f (placed_fits (under b T) ss q.placed)
      none (tight f d) q = comes_dead (under b T) dead (under_lawful C b T ok f) d ss q
