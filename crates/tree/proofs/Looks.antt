-- What a node comes to.
use Rattle.std.proofs.Common.{◌≡◌, ◌≢◌, ℕ, ◌<◌, ◌≤◌, Bool, true, false, List, length, refl, sym, subst, ap₂, IsTrue, ◌↔◌, MatchBool, Result, Ok, Err, IsOk, arith}
use Rattle.std.proofs.lemmas.Bool.{false≢true}
use Rattle.std.proofs.lemmas.List.Elements.{All-from_all_within, recursion_from_All}
use Rattle.std.specs.List.{AllWithin, HoldsAt}
use Rattle.std.proofs.ByRecursion.{All-from_get_or, All-get_or}
use Rattle.lots.specs.Schedules.{load, end}
use Rattle.lots.specs.Tables.{ect, lst, blank, lot_at, Fits, LawfulLot, Lawful}
use Rattle.lots.specs.declared.Lot.{Lot}
use Rattle.lots.specs.declared.Refusal.{Refusal}
use Rattle.rule.specs.Meanings.{Meaning, dead, to, Sound}
use Rattle.rule.specs.Settled.{none, Settled, Settles}
use Rattle.rule.specs.declared.Verdict.{Verdict}
use Rattle.rule.specs.declared.Verdict.TheVariants.{Still, Moved, Dead}
use Rattle.rule.proofs.Chains.{settled_kept}
use Rattle.tree.specs.Tree.{BestKnown, known, under, ComesTo, Leaves, late, tight, Fixed, earliest_starts, HasChoice, Closes, barren, above_capacity, found}
use Rattle.tree.proofs.Nodes.{under_below}

-- whether each run fits, as `all` answers it
pub fits_decided : (T : List Lot) (r : Bool) → MatchBool r (AllWithin (λ x. ect x ≤ x.lct) T 0 (length T)) ((k : ℕ) × (k < length T) × HoldsAt (λ x. x.lct < ect x) T k) → IsTrue r ↔ Fits T
fits_decided T true all = (λ e. recursion_from_All (λ x. ect x ≤ x.lct) T (All-from_all_within (λ x. ect x ≤ x.lct) T all), λ f. refl)
fits_decided T false (k, h, over) = (λ e. absurd (false≢true e), λ f. let l : (lot_at T k).lct < ect (lot_at T k) = over blank in absurd (omega (arith, All-get_or (λ x. ect x ≤ x.lct) T k blank h f)))

settled_to : (m : Meaning) (C : ℕ) (T U : List Lot) (v : Verdict) (k : ℕ) → (v ≢ Dead) → Settled m C T U v k → ComesTo m C T (to U)
settled_to m C T U Still k alive s = subst (λ V. ComesTo m C T (to V)) (sym s.2) (0, none, s.1)
settled_to m C T U Moved k alive (n, some, count, h, e) = (n, h, e)
settled_to m C T U Dead k alive s = absurd (alive refl)

-- a lawful table is not refused
pub settles_ok : (m : Meaning) (C : ℕ) (T U : List Lot) (r : Result (Verdict × ℕ) Refusal) → Lawful C T → Settles m C T U r → IsOk r
settles_ok m C T U (Ok x) ok s = refl
settles_ok m C T U (Err e) ok s = absurd (s.0 ok)

-- no lot has a choice of starts
none_free : (C : ℕ) (U : List Lot) → Lawful C U → ((k : ℕ) → k < length U → HasChoice (lot_at U k) → ⊥) → Fixed U
none_free C U ok h = All-from_get_or (λ x. x.est ≡ lst x) U blank (λ i l. let f = All-get_or (LawfulLot C) U i blank l ok.each in omega (arith, h i l))

-- V is the node T, once only an end before that of b is of use
module _ (m : Meaning) (sound : Sound m) (C : ℕ) (b : BestKnown) (T V : List Lot) (ok : Lawful C T) (cut : V ≡ under b T) where
  pub cut_late : (Fits V → ⊥) → Closes m C b T b
  cut_late n = barren (late (λ f. n (subst Fits (sym cut) f)))

  module _ (fits : Fits V) where
    pub cut_lawful : Lawful C V
    cut_lawful = subst (Lawful C) (sym cut) (under_below C b T ok (subst Fits cut fits)).lawful

    pub cut_dead : (U : List Lot) (k : ℕ) → Settled m C V U Dead k → Closes m C b T b
    cut_dead U k (n, W, count, h, e, same) = barren (tight (subst Fits cut fits) (subst (λ W. ComesTo m C W dead) cut (n, W, h, e)))

    module _ (U : List Lot) (v : Verdict) (k : ℕ) (alive : v ≢ Dead) (s : Settled m C V U v k) where
      pub alive_lawful : Lawful C U
      alive_lawful = (settled_kept m sound C V U cut_lawful v k s).lawful

      pub alive_leaves : Leaves m C b T (to U)
      alive_leaves = tight (subst Fits cut fits) (subst (λ W. ComesTo m C W (to U)) cut (settled_to m C V U v k alive s))

      module _ (fixed : (j : ℕ) → j < length U → HasChoice (lot_at U j) → ⊥) where
        pub alive_found : (ss : List ℕ) (e : ℕ) → ss ≡ earliest_starts U → e ≡ end U (earliest_starts U) → ((t : ℕ) → load t U (earliest_starts U) ≤ C) → Closes m C b T (known ss e)
        alive_found ss e same ends within = subst (Closes m C b T) (sym (ap₂ known same ends)) (found alive_leaves (none_free C U alive_lawful fixed) within)

        pub alive_above : (t : ℕ) × (C < load t U (earliest_starts U)) → Closes m C b T b
        alive_above (t, over) = above_capacity t alive_leaves (none_free C U alive_lawful fixed) over
