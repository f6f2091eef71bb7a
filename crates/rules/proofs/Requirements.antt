-- What the lots that are due by an end require, and that a cut within it leaves nothing over.
use Rattle.std.proofs.Common.{◌≡◌, ℕ, suc, ◌+◌, ◌-◌, ◌<◌, ◌≤◌, min, Bool, true, false, if◌then◌else◌, not, leb, eqb, List, [], ◌∷◌, ◌++◌, length, get_or, set, sym, refl, ap, subst, inl, inr, arith}
use Rattle.std.proofs.lemmas.List.{get_or-set_same, get_or-set_other}
use Rattle.std.proofs.ByRecursion.{All-get_or, All-weaker}
use Rattle.std.proofs.lemmas.Bool.{cases_eq, and_parts, le-ltb}
use Rattle.lots.specs.Tables.{ect, lot_at, Fits, LawfulLot, Lawful}
use Rattle.lots.specs.declared.Lot.{Lot}
use Rattle.elastic.specs.Marked.{stand_in}
use Rattle.elastic.specs.Profile.{creq, overflow, IsGreatest}
use Rattle.elastic.proofs.Required.{nothing_left}
use Rattle.rules.specs.Chosen.{chosen_lots, is_overfull}
use Rattle.rules.specs.NotFirst.{is_in_cut, cut, cut_with_stand_in}
use Rattle.rules.specs.Overload.{due_lots}
use Rattle.rules.specs.Private.Ends.{Lowest, end_at, DistinctEnds}
use Rattle.rules.specs.declared.ends.End.{End}
use Rattle.rules.proofs.ChosenLots.{chosen_each}
use Rattle.rules.proofs.Growing.{end_rises}

module _ (T : List Lot) (es : List End) (is : DistinctEnds T es) where
  pub lowest_at : (n : ℕ) → n < length es → Lowest T (end_at es n)
  lowest_at n h = All-get_or (Lowest T) es n _ h is.each

  -- two ends have two lots
  lots_differ : (i n : ℕ) → i < n → n < length es → (end_at es i).lot ≡ (end_at es n).lot → ⊥
  lots_differ i n h l e =
      omega (arith, end_rises T es is i n h l, (lowest_at i (omega arith)).has_end, (lowest_at n l).has_end, ap (λ k. (lot_at T k).lct) e)

  -- one end more
  pub required_more : (most : List ℕ) (n r : ℕ) → n < length es → length T ≤ length most → IsGreatest (creq (due_lots (end_at es n).lct T)) r → ((i : ℕ) → i < n → IsGreatest (creq (due_lots (end_at es i).lct T)) (get_or most (end_at es i).lot 0)) → (i : ℕ) → i < n + 1 → IsGreatest (creq (due_lots (end_at es i).lct T)) (get_or (set most (end_at es n).lot r) (end_at es i).lot 0)
  required_more most n r l long here so_far i h = elim (cases_eq i n) [
    | inl e ↦
        let same = get_or-set_same most (end_at es n).lot r 0 (omega (arith, (lowest_at n l).is_lot, long)) in
        subst (λ k. IsGreatest (creq (due_lots (end_at es k).lct T)) (get_or (set most (end_at es n).lot r) (end_at es k).lot 0)) (sym e)
        (subst (IsGreatest (creq (due_lots (end_at es n).lct T))) (sym same) here)
    | inr ne ↦
        let other = get_or-set_other most (end_at es n).lot (end_at es i).lot r 0 (lots_differ i n (omega (arith, h, ne)) l) in
        subst (IsGreatest (creq (due_lots (end_at es i).lct T))) (sym other) (so_far i (omega (arith, h, ne)))
  ]

-- of fewer lots no more is required
cond_creq : (a b : Bool) (x : Lot) (xs ys : List Lot) (t : ℕ) → (a ≡ true → b ≡ true) → creq xs t ≤ creq ys t → creq (if a then x ∷ xs else xs) t ≤ creq (if b then x ∷ ys else ys) t
cond_creq true true x xs ys t h le = omega (arith, le)
cond_creq true false x xs ys t h le = absurd (let e = h refl in cc)
cond_creq false true x xs ys t h le = omega (arith, le)
cond_creq false false x xs ys t h le = le

creq_chosen : (p q : ℕ → Lot → Bool) → ((k : ℕ) (x : Lot) → p k x ≡ true → q k x ≡ true) → (k : ℕ) (T : List Lot) (t : ℕ) → creq (chosen_lots p k T) t ≤ creq (chosen_lots q k T) t
creq_chosen p q into k [] t = omega arith
creq_chosen p q into k (x ∷ xs) t =
    cond_creq (p k x) (q k x) x (chosen_lots p (suc k) xs) (chosen_lots q (suc k) xs) t (into k x) (creq_chosen p q into (suc k) xs t)

module _ (C : ℕ) (T : List Lot) (ok : Lawful C T) (i u : ℕ) (c : ℕ) (fits : c ≤ C) where
  cut_within : (t : ℕ) → creq (cut T i u) t ≤ creq (due_lots u T) t
  cut_within t = creq_chosen (is_in_cut i (lot_at T i).est u) (λ k x. leb x.lct u) (λ k x e.
      (and_parts _ (leb x.lct u) (and_parts (not (eqb k i)) _ e).1).1) 0 T t

  cut_fits : Fits (cut T i u)
  cut_fits = chosen_each (is_in_cut i (lot_at T i).est u) (λ x. ect x ≤ x.lct) 0 T (All-weaker (LawfulLot C) (λ x. ect x ≤ x.lct) (λ x l. l.has_time) T ok.each)

  -- a cut leaves nothing over where the lots due by then leave room for its stand-in
  pub cut_not_overfull : (r : ℕ) → ((t : ℕ) → creq (due_lots u T) t ≤ r) → r ≤ C - c → c ≡ (lot_at T i).c → is_overfull C (cut_with_stand_in T i u) ≡ false
  cut_not_overfull r most room own =
      let nothing = nothing_left C c (min (ect (lot_at T i)) u) (cut T i u) fits cut_fits (λ t. omega (arith, cut_within t, most t, room, fits)) in
      le-ltb 0 (overflow C (cut_with_stand_in T i u)) (omega (arith, subst (λ n. overflow C (cut T i u ++ stand_in n (min (ect (lot_at T i)) u) (cut T i u)) ≡ 0) own nothing))
