-- What a whole visit tells of a table.
use Rattle.std.proofs.Common.{◌≡◌, ℕ, ◌-◌, ◌*◌, ◌≤◌, ◌⊎◌, List, [], ◌∷◌, length, sym, ap, ◌∙◌, subst, refl, inl, inr, arith}
use Rattle.lots.specs.Schedules.{end, Placed, Schedule, BestSchedule}
use Rattle.lots.specs.Tables.{Lawful}
use Rattle.lots.specs.declared.Lot.{Lot}
use Rattle.rule.specs.Meanings.{Meaning, Sound, Hopeless}
use Rattle.tree.specs.Tree.{ways, BestKnown, unknown, known, Visit, last_known, Optimal}
use Rattle.tree.proofs.Law.{tree_law}

-- a best schedule, from what a whole visit finds
known_best : (C : ℕ) (T : List Lot) (us : List ℕ) (e : ℕ) → Optimal C T unknown (known us e) → BestSchedule C T e us
known_best C T us e o = from o.source
  where
    from : (known us e ≡ unknown) ⊎ ((ss : List ℕ) × (known us e ≡ known ss (end T ss)) × Schedule C T ss) → BestSchedule C T e us
    from (inl p) = absurd (cc)
    from (inr (ss, p, s)) =
        let q : ss ≡ us = cc in
        let ends : end T ss ≡ e = cc in
        record { schedule = subst (Schedule C T) q s; ends = ap (end T) (sym q) ∙ ends; least = o.least }

placed_length : (T : List Lot) (ss : List ℕ) → Placed T ss → length ss ≡ length T
placed_length [] [] p = refl
placed_length [] (s ∷ ss) p = absurd p
placed_length (x ∷ xs) [] p = absurd p
placed_length (x ∷ xs) (s ∷ ss) p = omega (arith, placed_length xs ss p.1)

-- what the visit bs of T tells
module _ (m : Meaning) (sound : Sound m) (C : ℕ) (T : List Lot) (ok : Lawful C T) (bs : List BestKnown) (v : Visit m C unknown T bs) where
  pub few_nodes : (k : ℕ) → k ≤ length bs → k ≤ 2 * ways T - 1
  few_nodes k h = omega (arith, (tree_law m sound C unknown T ok).short bs v)

  pub unknown_hopeless : last_known unknown bs ≡ unknown → Hopeless C T
  unknown_hopeless f = (subst (Optimal C T unknown) f ((tree_law m sound C unknown T ok).optimal bs v)).least

  pub found_best : (us : List ℕ) (e : ℕ) → last_known unknown bs ≡ known us e → BestSchedule C T e us
  found_best us e f = known_best C T us e (subst (Optimal C T unknown) f ((tree_law m sound C unknown T ok).optimal bs v))

  pub found_length : (us : List ℕ) (e : ℕ) → last_known unknown bs ≡ known us e → length us ≡ length T
  found_length us e f = placed_length T us (found_best us e f).schedule.placed
