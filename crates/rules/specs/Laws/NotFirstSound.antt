-- Not-first loses no schedule.
use Rattle.std.specs.Prelude.{◌≡◌, ℕ, zero, suc, ◌+◌, ◌-◌, ◌<◌, ◌≤◌, min, Bool, true, false, if◌then◌else◌, not, ◌&&◌, List, [], ◌∷◌, ◌++◌, length, ◌==◌, nat_le, nat_lt, slice_index, slice_index_or, refl}
use Rattle.std.proofs.Common.{inl, inr, sym, ap, subst, add-zero, zero-add, arith}
use Rattle.std.specs.List.{AllByRecursion}
use Rattle.std.proofs.ByRecursion.{All-get_or}
use Rattle.std.proofs.lemmas.List.{append-nil}
use Rattle.std.proofs.lemmas.Bool.{eq-eqb, cases_lt, and_parts, ltb-true, leb-false}
use Rattle.std.proofs.lemmas.Bool.Decides.{nat_tests}
use Rattle.lots.specs.Schedules.{spans, load, Placed, Schedule}
use Rattle.lots.specs.Tables.{ect, lot_at, LawfulLot, Lawful}
use Rattle.lots.specs.declared.Lot.{Lot}
use Rattle.elastic.specs.Marked.{stand_in_lot}
use Rattle.elastic.specs.Profile.{earliest, overflow}
use Rattle.elastic.proofs.Soundness.{overflow_of_schedulable}
use Rattle.lots.proofs.Schedules.{placed_append}
use Rattle.rule.specs.Meanings.{Sound}
use Rattle.rule.specs.Laws.Raises.{raise_lawful, raise_narrows, raise_keeps, raise_dies}
use Rattle.rules.specs.Chosen.{chosen_lots, is_overfull}
use Rattle.rules.specs.NotFirst.{is_in_cut, cut, least_ect, cut_with_stand_in, bound_by, greatest_bound, not_first}
use Rattle.rules.specs.Laws.ChosenLots.{chosen_starts, load_cond, chosen_placed, chosen_load, chosen_schedule}

load_append : (t : ℕ) (xs ys : List Lot) (ss us : List ℕ) → Placed xs ss → load t (xs ++ ys) (ss ++ us) ≡ load t xs ss + load t ys us
load_append t [] ys [] us p = omega arith
load_append t [] ys (s ∷ ss) us p = absurd p
load_append t (x ∷ xs) ys [] us p = absurd p
load_append t (x ∷ xs) ys (s ∷ ss) us p = omega (arith, load_append t xs ys ss us p.1)

runs_on : (t u s p c e : ℕ) → t ≤ u → u < e → e ≤ s + p → (if spans s (s + p) t then c else 0) ≤ (if spans s (s + p) u then c else 0)
runs_on t u s p c e h k l = grind (arith, nat_tests)

-- lots that cannot be out by u still run at u where they ran before
load_later : (t u : ℕ) (Ω : List Lot) (ss : List ℕ) → t ≤ u → AllByRecursion (λ x. u < ect x) Ω → Placed Ω ss → load t Ω ss ≤ load u Ω ss
load_later t u [] ss h a p = omega arith
load_later t u (x ∷ xs) [] h a p = omega arith
load_later t u (x ∷ xs) (s ∷ ss) h a p =
    omega (arith, runs_on t u s x.p x.c (ect x) h a.0 (omega arith), load_later t u xs ss h a.1 p.1)

-- a lot that was not chosen runs beside those that were
module _ (test : ℕ → Lot → Bool) (t : ℕ) where
  load_beside : (k i : ℕ) (T : List Lot) (ss : List ℕ) → Placed T ss → i < length T → test (k + i) (lot_at T i) ≡ false → spans (slice_index ss i) (slice_index ss i + (lot_at T i).p) t ≡ true → load t (chosen_lots test k T) (chosen_starts test k T ss) + (lot_at T i).c ≤ load t T ss
  load_beside k i [] ss p h out here = absurd (omega arith)
  load_beside k i (x ∷ xs) [] p h out here = absurd p
  load_beside k zero (x ∷ xs) (s ∷ ss) p h out here =
      let none = subst (λ n. test n x ≡ false) (add-zero k) out in
      let left = ap (λ b. load t (if b then x ∷ chosen_lots test (suc k) xs else chosen_lots test (suc k) xs) (if b then s ∷ chosen_starts test (suc k) xs ss else chosen_starts test (suc k) xs ss)) none in
      let runs = ap (λ b. if b then x.c else 0) here in
      omega (arith, left, runs, chosen_load test t (suc k) xs ss p.1)
  load_beside k (suc i) (x ∷ xs) (s ∷ ss) p h out here =
      let rest = load_beside (suc k) i xs ss p.1 (omega arith) (subst (λ n. test n (lot_at xs i) ≡ false) (omega arith) out) here in
      omega (arith, load_cond test t (test k x) x s (chosen_lots test (suc k) xs) (chosen_starts test (suc k) xs ss), rest)

placed_start : (T : List Lot) (ss : List ℕ) (i : ℕ) → i < length T → Placed T ss → ((lot_at T i).est ≤ slice_index ss i) × (slice_index ss i + (lot_at T i).p ≤ (lot_at T i).lct)
placed_start [] ss i h p = absurd (omega arith)
placed_start (x ∷ xs) [] i h p = absurd p
placed_start (x ∷ xs) (s ∷ ss) zero h p = p.0
placed_start (x ∷ xs) (s ∷ ss) (suc i) h p = placed_start xs ss i (omega arith) p.1

least_below : (u : ℕ) (Ω : List Lot) → u < least_ect Ω → AllByRecursion (λ x. u < ect x) Ω
least_below u [] h = tt
least_below u (x ∷ []) h = (h, tt)
least_below u (x ∷ (y ∷ ys)) h = (omega arith, least_below u (y ∷ ys) (omega arith))

span_below : (a b v : ℕ) → spans a b v ≡ true → v < b
span_below a b v e = grind (arith, nat_tests)

runs_at : (s p t : ℕ) → s ≤ t → t < s + p → spans s (s + p) t ≡ true
runs_at s p t h k = grind (arith, nat_tests)

own_test : (T : List Lot) (i t : ℕ) → is_in_cut i (lot_at T i).est t i (lot_at T i) ≡ false
own_test T i t = ap (λ b. not b && (nat_lt (lot_at T i).est (ect (lot_at T i)) && nat_le (lot_at T i).lct t)) (eq-eqb i i refl)

-- a schedule in which i starts before every ect of the cut gives one of the cut with its stand-in
module _ (C : ℕ) (T : List Lot) (ok : Lawful C T) (ss : List ℕ) (s : Schedule C T ss) (i : ℕ) (h : i < length T) (t : ℕ) (early : slice_index_or ss i 0 < least_ect (cut T i t)) where
  abbrev test : ℕ → Lot → Bool
  test = is_in_cut i (lot_at T i).est t

  abbrev Ω : List Lot
  Ω = cut T i t

  abbrev us : List ℕ
  us = chosen_starts test 0 T ss

  abbrev m : ℕ
  m = min (ect (lot_at T i)) t

  placed_Ω : Placed Ω us
  placed_Ω = chosen_placed test 0 T ss s.placed

  -- up to the ect of i, its trays are free beside the cut
  beside : (v : ℕ) → v < ect (lot_at T i) → load v Ω us + (lot_at T i).c ≤ C
  beside v k = elim (cases_lt v (slice_index ss i)) [
    | inl before ↦
        let start = placed_start T ss i h s.placed in
        let lot : LawfulLot C (lot_at T i) = All-get_or (LawfulLot C) T i _ h ok.each in
        let there = load_beside test (slice_index ss i) 0 i T ss s.placed h (subst (λ n. test n (lot_at T i) ≡ false) (sym (zero-add i)) (own_test T i t)) (runs_at (slice_index ss i) (lot_at T i).p (slice_index ss i) (omega arith) (omega (arith, lot.runs))) in
        omega (arith, there, s.within (slice_index ss i), load_later v (slice_index ss i) Ω us (omega arith) (least_below (slice_index ss i) Ω early) placed_Ω)
    | inr after ↦
        let start = placed_start T ss i h s.placed in
        let there = load_beside test v 0 i T ss s.placed h (subst (λ n. test n (lot_at T i) ≡ false) (sym (zero-add i)) (own_test T i t)) (runs_at (slice_index ss i) (lot_at T i).p v after (omega arith)) in
        omega (arith, there, s.within v)
  ]

  abbrev own_stand_in : Lot
  own_stand_in = stand_in_lot (lot_at T i).c m Ω

  load_with : (v : ℕ) (b : Bool) → spans (earliest Ω) (earliest Ω + (m - earliest Ω)) v ≡ b → earliest Ω < m → load v Ω us + ((if b then (lot_at T i).c else 0) + 0) ≤ C
  load_with v true e k = omega (arith, beside v (omega (arith, span_below (earliest Ω) (earliest Ω + (m - earliest Ω)) v e)))
  load_with v false e k = omega (arith, chosen_load test v 0 T ss s.placed, s.within v)

  scheduled : (b : Bool) → nat_le m (earliest Ω) ≡ b → (ws : List ℕ) × Schedule C (Ω ++ (if b then [] else own_stand_in ∷ [])) ws
  scheduled true e = (us, subst (λ xs. Schedule C xs us) (sym (append-nil Ω)) (chosen_schedule test C T ss s))
  scheduled false e =
      let later = leb-false m (earliest Ω) e in (
        us ++ (earliest Ω ∷ []),
        record {
          placed = placed_append Ω (own_stand_in ∷ []) us (earliest Ω ∷ []) placed_Ω ((omega arith, omega arith), tt);
          within = λ v. omega (arith, load_append v Ω (own_stand_in ∷ []) us (earliest Ω ∷ []) placed_Ω, load_with v (spans (earliest Ω) (earliest Ω + (m - earliest Ω)) v) refl later);
        },
      )

  not_overfull : is_overfull C (cut_with_stand_in T i t) ≡ true → ⊥
  not_overfull full =
      let found = scheduled (nat_le m (earliest Ω)) refl in
      omega (arith, ltb-true 0 (overflow C (cut_with_stand_in T i t)) full, overflow_of_schedulable C (cut_with_stand_in T i t) found.0 found.1)

module _ (C : ℕ) (T : List Lot) (ok : Lawful C T) (ss : List ℕ) (s : Schedule C T ss) (i : ℕ) (h : i < length T) where
  bound_cond : (t : ℕ) (b : Bool) → (b ≡ true → is_overfull C (cut_with_stand_in T i t) ≡ true) → (if b then least_ect (cut T i t) else 0) ≤ slice_index ss i
  bound_cond t true full = elim (cases_lt (slice_index ss i) (least_ect (cut T i t))) [
    | inl early ↦ absurd (not_overfull C T ok ss s i h t early (full refl))
    | inr late ↦ late
  ]
  bound_cond t false full = omega arith

  bound_kept : (j : ℕ) → bound_by C T i j ≤ slice_index ss i
  bound_kept j =
      bound_cond (lot_at T j).lct (not (j == i) && (nat_lt (lot_at T i).est (ect (lot_at T j)) && is_overfull C (cut_with_stand_in T i (lot_at T j).lct)))
      (λ e. (and_parts (nat_lt (lot_at T i).est (ect (lot_at T j))) _ (and_parts (not (j == i)) _ e).1).1)

  greatest_kept : (n : ℕ) → greatest_bound C T i n ≤ slice_index ss i
  greatest_kept zero = omega arith
  greatest_kept (suc n) = omega (arith, bound_kept n, greatest_kept n)

pub not_first_sound : Sound not_first
not_first_sound = record {
  lawful = λ C T ok. raise_lawful (λ i. greatest_bound C T i (length T)) C T ok;
  narrows = λ C T ok. raise_narrows (λ i. greatest_bound C T i (length T)) C T ok;
  keeps = λ C T ok. raise_keeps (λ i. greatest_bound C T i (length T)) C T ok (λ ss s i h. greatest_kept C T ok ss s i h (length T));
  dies_rightly = λ C T ok. raise_dies (λ i. greatest_bound C T i (length T)) C T ok (λ ss s i h. greatest_kept C T ok ss s i h (length T));
}
