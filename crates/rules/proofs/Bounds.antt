-- The greatest bound over the lots is the greatest over their latest ends.
use Rattle.std.proofs.Common.{◌≡◌, ℕ, zero, suc, ◌+◌, ◌<◌, ◌≤◌, Bool, true, false, if◌then◌else◌, not, ◌&&◌, eqb, ltb, leb, List, [], ◌∷◌, length, ◌++◌, max, take, sym, refl, ap, ◌∙◌, subst, inl, inr, zero-add, arith}
use Rattle.std.proofs.lemmas.List.{map_more}
use Rattle.std.proofs.lemmas.Bool.{cases_eq, false≢true, and_parts, and_from, or_cases, eqb-true, le-leb}
use Rattle.lots.specs.Tables.{ect, lot_at}
use Rattle.lots.specs.declared.Lot.{Lot}
use Rattle.elastic.specs.Profile.{has}
use Rattle.elastic.proofs.Keys.{key_has}
use Rattle.rules.specs.Chosen.{is_overfull}
use Rattle.rules.specs.Private.Ends.{end_at, end_minutes}
use Rattle.rules.specs.Overload.{ends_of}
use Rattle.rules.specs.NotFirst.{is_in_cut, cut, least_ect, cut_with_stand_in, bound_by, greatest_bound}
use Rattle.rules.specs.declared.ends.End.{End}
use Rattle.rules.proofs.ChosenLots.{chosen_from, chosen_has}

-- the bound that the latest end t puts on the est of i, by whichever lot of the cut has it
abbrev pub end_bound : ℕ → List Lot → ℕ → ℕ → ℕ
end_bound C T i t = if has t (ends_of (cut T i t)) && is_overfull C (cut_with_stand_in T i t) then least_ect (cut T i t) else 0

-- the greatest of those that the latest ends ts put
abbrev pub greatest_end_bound : ℕ → List Lot → ℕ → List ℕ → ℕ
greatest_end_bound C T i [] = 0
greatest_end_bound C T i (t ∷ ts) = max (end_bound C T i t) (greatest_end_bound C T i ts)

module _ (C : ℕ) (T : List Lot) (i : ℕ) where
  bound_below : (n j : ℕ) → j < n → bound_by C T i j ≤ greatest_bound C T i n
  bound_below zero j h = absurd (omega arith)
  bound_below (suc n) j h = elim (cases_eq j n) [
    | inl e ↦ omega (arith, ap (bound_by C T i) e)
    | inr ne ↦ omega (arith, bound_below n j (omega arith))
  ]

  end_below : (ts : List ℕ) (t : ℕ) → has t ts ≡ true → end_bound C T i t ≤ greatest_end_bound C T i ts
  end_below [] t h = absurd (false≢true h)
  end_below (u ∷ us) t h = elim (or_cases (eqb t u) (has t us) h) [
    | inl e ↦ omega (arith, ap (end_bound C T i) (eqb-true t u e))
    | inr g ↦ omega (arith, end_below us t g)
  ]

  abbrev e : ℕ
  e = (lot_at T i).est

  cond_zero : (b : Bool) (n m : ℕ) → (b ≡ true → n ≤ m) → (if b then n else 0) ≤ m
  cond_zero true n m h = h refl
  cond_zero false n m h = omega arith

  -- a lot with the latest end t, but i, that cannot be out by the est of i
  bound_at_end : (j t : ℕ) → (lot_at T j).lct ≡ t → not (eqb j i) ≡ true → ltb e (ect (lot_at T j)) ≡ true → is_overfull C (cut_with_stand_in T i t) ≡ true → bound_by C T i j ≡ least_ect (cut T i t)
  bound_at_end j t is other late full =
      ap (λ u. if not (eqb j i) && (ltb e (ect (lot_at T j)) && is_overfull C (cut_with_stand_in T i u)) then least_ect (cut T i u) else 0) is
      ∙ ap (λ b. if b then least_ect (cut T i t) else 0)
      (and_from (not (eqb j i)) (ltb e (ect (lot_at T j)) && is_overfull C (cut_with_stand_in T i t)) other (and_from (ltb e (ect (lot_at T j))) (is_overfull C (cut_with_stand_in T i t)) late full))

  -- the bound of a latest end is that of a lot that has it
  end_from_lot : (t : ℕ) → end_bound C T i t ≤ greatest_bound C T i (length T)
  end_from_lot t = cond_zero (has t (ends_of (cut T i t)) && is_overfull C (cut_with_stand_in T i t)) (least_ect (cut T i t)) (greatest_bound C T i (length T)) (λ both.
      let parts = and_parts (has t (ends_of (cut T i t))) (is_overfull C (cut_with_stand_in T i t)) both in
      let found = chosen_from (λ (x : Lot). x.lct) (is_in_cut i e t) 0 t T parts.0 in
      let j : ℕ = found.0 in
      let passed = subst (λ n. is_in_cut i e t n (lot_at T j) ≡ true) (zero-add j) found.2 in
      let first = and_parts (not (eqb j i)) (ltb e (ect (lot_at T j)) && leb (lot_at T j).lct t) passed in
      let late = (and_parts (ltb e (ect (lot_at T j))) (leb (lot_at T j).lct t) first.1).0 in
      omega (arith, bound_at_end j t found.3 first.0 late parts.1, bound_below (length T) j found.1))

  -- the bound of a lot is that of its latest end
  lot_from_end : (j : ℕ) → j < length T → bound_by C T i j ≤ end_bound C T i (lot_at T j).lct
  lot_from_end j h =
      let t = (lot_at T j).lct in
      cond_zero (not (eqb j i) && (ltb e (ect (lot_at T j)) && is_overfull C (cut_with_stand_in T i t))) (least_ect (cut T i t)) (end_bound C T i t) (λ all.
      let first = and_parts (not (eqb j i)) (ltb e (ect (lot_at T j)) && is_overfull C (cut_with_stand_in T i t)) all in
      let second = and_parts (ltb e (ect (lot_at T j))) (is_overfull C (cut_with_stand_in T i t)) first.1 in
      let passed = and_from (not (eqb j i)) (ltb e (ect (lot_at T j)) && leb t t) first.0 (and_from (ltb e (ect (lot_at T j))) (leb t t) second.0 (le-leb t t (omega arith))) in
      let known = chosen_has (λ (x : Lot). x.lct) (is_in_cut i e t) 0 j T h (subst (λ n. is_in_cut i e t n (lot_at T j) ≡ true) (sym (zero-add j)) passed) in
      omega (arith, ap (λ b. if b then least_ect (cut T i t) else 0) (and_from (has t (ends_of (cut T i t))) (is_overfull C (cut_with_stand_in T i t)) known second.1)))

  ends_most : (ts : List ℕ) → greatest_end_bound C T i ts ≤ greatest_bound C T i (length T)
  ends_most [] = omega arith
  ends_most (t ∷ ts) = omega (arith, end_from_lot t, ends_most ts)

  lots_most : (ts : List ℕ) → ((t : ℕ) → has t ts ≡ has t (ends_of T)) → (n : ℕ) → n ≤ length T → greatest_bound C T i n ≤ greatest_end_bound C T i ts
  lots_most ts same zero h = omega arith
  lots_most ts same (suc n) h =
      let known = key_has (λ (x : Lot). x.lct) T n (lot_at T n).lct _ (omega arith) refl in
      omega (arith, lot_from_end n (omega arith), end_below ts (lot_at T n).lct (same (lot_at T n).lct ∙ known), lots_most ts same n (omega arith))

  pub greatest_by_ends : (ts : List ℕ) → ((t : ℕ) → has t ts ≡ has t (ends_of T)) → greatest_end_bound C T i ts ≡ greatest_bound C T i (length T)
  greatest_by_ends ts same = omega (arith, ends_most ts, lots_most ts same (length T) (omega arith))

  -- the greatest bound, one end more
  greatest_push : (ts : List ℕ) (t : ℕ) → greatest_end_bound C T i (ts ++ (t ∷ [])) ≡ max (greatest_end_bound C T i ts) (end_bound C T i t)
  greatest_push [] t = omega arith
  greatest_push (u ∷ us) t = omega (arith, greatest_push us t)

  pub greatest_more : (es : List End) (n : ℕ) → n < length es → greatest_end_bound C T i (end_minutes (take (n + 1) es)) ≡ max (greatest_end_bound C T i (end_minutes (take n es))) (end_bound C T i (end_at es n).lct)
  greatest_more es n h =
      ap (greatest_end_bound C T i) (map_more (λ (x : End). x.lct) es n _ h)
      ∙ greatest_push (end_minutes (take n es)) (end_at es n).lct
