-- The profile counted from minute 0, and not from the earliest est.
use Rattle.std.proofs.Common.{◌≡◌, ℕ, zero, suc, ◌+◌, ◌-◌, ◌<◌, ◌≤◌, Bool, true, false, if◌then◌else◌, leb, List, [], ◌∷◌, ◌++◌, sym, refl, ap, ◌∙◌, inl, inr, add-suc, arith}
use Rattle.std.proofs.ByRecursion.{All-append}
use Rattle.std.proofs.lemmas.List.{append-nil}
use Rattle.std.proofs.lemmas.Bool.{cases_lt, leb-true, leb-false}
use Rattle.std.proofs.lemmas.Bool.Decides.{nat_tests}
use Rattle.lots.specs.Schedules.{spans}
use Rattle.lots.specs.Tables.{ect, Fits}
use Rattle.lots.specs.declared.Lot.{Lot}
use Rattle.elastic.specs.Marked.{stand_in_lot, stand_in}
use Rattle.elastic.specs.Profile.{earliest, latest, available, creq, ov_before, overflow}
use Rattle.elastic.specs.Private.Walks.{usable, rest}
use Rattle.elastic.proofs.Profiles.{available_between, creq_between}

pub usable_before : (C c m t : ℕ) → t < m → usable C c m t ≡ C - c
usable_before C c m t h = grind (arith, nat_tests)

pub usable_after : (C c m t : ℕ) → m ≤ t → usable C c m t ≡ C
usable_after C c m t h = grind (arith, nat_tests)

pub spans_out : (a b c t : ℕ) → t < a → (if spans a b t then c else 0) ≡ 0
spans_out a b c t h = grind (arith, nat_tests)

spans_past : (a b c t : ℕ) → b ≤ t → (if spans a b t then c else 0) ≡ 0
spans_past a b c t h = grind (arith, nat_tests)

spans_in : (a b c t : ℕ) → a ≤ t → t < b → (if spans a b t then c else 0) ≡ c
spans_in a b c t h k = grind (arith, nat_tests)

creq_early : (Ω : List Lot) (t : ℕ) → t < earliest Ω → creq Ω t ≡ 0
creq_early [] t h = refl
creq_early (x ∷ []) t h = omega (arith, spans_out x.est (x.est + x.p) x.c t h)
creq_early (x ∷ (y ∷ ys)) t h =
    omega (arith, spans_out x.est (x.est + x.p) x.c t (omega arith), creq_early (y ∷ ys) t (omega arith))

-- no lot is open before the earliest est
pub rest_early : (U : ℕ → ℕ) (Ω : List Lot) (t : ℕ) → t ≤ earliest Ω → rest U Ω t ≡ 0
rest_early U Ω zero h = refl
rest_early U Ω (suc t) h = omega (arith, rest_early U Ω t (omega arith), creq_early Ω t h)

pub rest_from : (C : ℕ) (Ω : List Lot) (k : ℕ) → rest (λ t. C) Ω (earliest Ω + k) ≡ ov_before C Ω k
rest_from C Ω zero = rest_early (λ t. C) Ω (earliest Ω + 0) (omega arith)
rest_from C Ω (suc k) = ap (rest (λ t. C) Ω) (add-suc (earliest Ω) k) ∙ omega (arith, rest_from C Ω k)

earliest_latest : (Ω : List Lot) → Fits Ω → earliest Ω ≤ latest Ω
earliest_latest [] h = omega arith
earliest_latest (x ∷ []) h = omega (arith, h.0)
earliest_latest (x ∷ (y ∷ ys)) h = omega (arith, h.0)

pub overflow_rest : (C : ℕ) (Ω : List Lot) → Fits Ω → overflow C Ω ≡ rest (λ t. C) Ω (latest Ω)
overflow_rest C Ω h =
    let e : earliest Ω + (latest Ω - earliest Ω) ≡ latest Ω = omega (arith, earliest_latest Ω h) in
    sym (rest_from C Ω (latest Ω - earliest Ω)) ∙ ap (rest (λ t. C) Ω) e

pub creq_late : (Ω : List Lot) (t : ℕ) → Fits Ω → latest Ω ≤ t → creq Ω t ≡ 0
creq_late [] t h l = refl
creq_late (x ∷ xs) t h l = omega (arith, spans_past x.est (ect x) x.c t (omega (arith, h.0)), creq_late xs t h.1 (omega arith))

available_late : (Ω : List Lot) (t : ℕ) → latest Ω ≤ t → available Ω t ≡ 0
available_late [] t l = refl
available_late (x ∷ xs) t l = omega (arith, spans_past x.est x.lct x.c t (omega arith), available_late xs t (omega arith))

-- past the latest lct nothing changes
pub rest_late : (U : ℕ → ℕ) (Ω : List Lot) → Fits Ω → (k : ℕ) → rest U Ω (latest Ω + k) ≡ rest U Ω (latest Ω)
rest_late U Ω h zero = ap (rest U Ω) (omega arith)
rest_late U Ω h (suc k) =
    ap (rest U Ω) (add-suc (latest Ω) k)
    ∙ omega (arith, rest_late U Ω h k, creq_late Ω (latest Ω + k) h (omega arith), available_late Ω (latest Ω + k) (omega arith))

latest_push : (Ω : List Lot) (x : Lot) → latest Ω ≤ latest (Ω ++ (x ∷ []))
latest_push [] x = omega arith
latest_push (y ∷ ys) x = omega (arith, latest_push ys x)

-- a stand-in leaves as much over as fewer trays until its end
module _ (C c m : ℕ) (fits : c ≤ C) (Ω : List Lot) where
  rest-no_stand_in : m ≤ earliest Ω → (t : ℕ) → rest (λ u. C) Ω t ≡ rest (usable C c m) Ω t
  rest-no_stand_in early zero = refl
  rest-no_stand_in early (suc t) = elim (cases_lt t m) [
    | inl h ↦ omega (arith, rest_early (λ u. C) Ω (suc t) (omega arith), rest_early (usable C c m) Ω (suc t) (omega arith))
    | inr h ↦ omega (arith, rest-no_stand_in early t, usable_after C c m t h)
  ]

  module _ (later : earliest Ω < m) where
    available-stand_in : (t : ℕ) → available (Ω ++ (stand_in_lot c m Ω ∷ [])) t ≡ available Ω t + (if spans (earliest Ω) m t then c else 0)
    available-stand_in t = available_between t Ω [] (stand_in_lot c m Ω) ∙ ap (λ xs. available xs t + (if spans (earliest Ω) m t then c else 0)) (append-nil Ω)

    creq-stand_in : (t : ℕ) → creq (Ω ++ (stand_in_lot c m Ω ∷ [])) t ≡ creq Ω t + (if spans (earliest Ω) m t then c else 0)
    creq-stand_in t =
        let end : earliest Ω + (m - earliest Ω) ≡ m = omega arith in
        creq_between t Ω [] (stand_in_lot c m Ω)
        ∙ ap (λ xs. creq xs t + (if spans (earliest Ω) (ect (stand_in_lot c m Ω)) t then c else 0)) (append-nil Ω)
        ∙ ap (λ n. creq Ω t + (if spans (earliest Ω) n t then c else 0)) end

    rest-stand_in : (t : ℕ) → rest (λ u. C) (Ω ++ (stand_in_lot c m Ω ∷ [])) t ≡ rest (usable C c m) Ω t
    rest-stand_in zero = refl
    rest-stand_in (suc t) = elim (cases_lt t (earliest Ω)) [
      | inl h ↦
          omega (
            arith,
            rest-stand_in t,
            rest_early (usable C c m) Ω t (omega arith),
            rest_early (usable C c m) Ω (suc t) h,
            creq-stand_in t,
            creq_early Ω t h,
            spans_out (earliest Ω) m c t h,
          )
      | inr g ↦ elim (cases_lt t m) [
        | inl h ↦ omega (arith, rest-stand_in t, creq-stand_in t, available-stand_in t, spans_in (earliest Ω) m c t g h, usable_before C c m t h, fits)
        | inr h ↦ omega (arith, rest-stand_in t, creq-stand_in t, available-stand_in t, spans_past (earliest Ω) m c t h, usable_after C c m t h)
      ]
    ]

  overflow-stand_in_by : Fits Ω → (b : Bool) → leb m (earliest Ω) ≡ b → overflow C (Ω ++ (if b then [] else stand_in_lot c m Ω ∷ [])) ≡ rest (usable C c m) Ω (latest Ω)
  overflow-stand_in_by h true e =
      ap (overflow C) (append-nil Ω) ∙ overflow_rest C Ω h ∙ rest-no_stand_in (leb-true m (earliest Ω) e) (latest Ω)
  overflow-stand_in_by h false e =
      let later = leb-false m (earliest Ω) e in
      let ends : Fits (Ω ++ (stand_in_lot c m Ω ∷ [])) = All-append (λ x. ect x ≤ x.lct) Ω (stand_in_lot c m Ω ∷ []) h (omega arith, tt) in
      let most = latest (Ω ++ (stand_in_lot c m Ω ∷ [])) in
      let past : most ≡ latest Ω + (most - latest Ω) = omega (arith, latest_push Ω (stand_in_lot c m Ω)) in
      overflow_rest C (Ω ++ (stand_in_lot c m Ω ∷ [])) ends ∙ rest-stand_in later most ∙ ap (rest (usable C c m) Ω) past ∙ rest_late (usable C c m) Ω h (most - latest Ω)

  pub overflow-stand_in : Fits Ω → overflow C (Ω ++ stand_in c m Ω) ≡ rest (usable C c m) Ω (latest Ω)
  overflow-stand_in h = overflow-stand_in_by h (leb m (earliest Ω)) refl
