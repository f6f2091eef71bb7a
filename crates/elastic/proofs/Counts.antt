-- The different numbers of a list.
use Rattle.std.proofs.Common.{◌≡◌, ℕ, ◌+◌, ◌*◌, ◌≤◌, Bool, true, false, cond, ◌||◌, eqb, List, [], ◌∷◌, ◌++◌, length, sym, refl, ap, ◌∙◌, inl, inr, arith, if◌then◌else◌}
use Rattle.std.proofs.lemmas.List.{append-nil}
use Rattle.std.proofs.lemmas.Bool.{cases_Bool, cases_eq, eqb-true, or_left, eq-eqb, ne_eqb}
use Rattle.lots.specs.declared.Lot.{Lot}
use Rattle.elastic.specs.Profile.{has, distinct, minutes, points, points_of_a_lot}

or_swap : (a b c : Bool) → (a || (b || c)) ≡ (b || (a || c))
or_swap true true c = refl
or_swap true false c = refl
or_swap false b c = refl

-- a number put in anywhere
pub has_between : (t u : ℕ) (ts us : List ℕ) → has t (ts ++ (u ∷ us)) ≡ (eqb t u || has t (ts ++ us))
has_between t u [] us = refl
has_between t u (v ∷ ts) us = ap (λ b. eqb t v || b) (has_between t u ts us) ∙ or_swap (eqb t v) (eqb t u) (has t (ts ++ us))

pub has_push : (t u : ℕ) (ts : List ℕ) → has t (ts ++ (u ∷ [])) ≡ (eqb t u || has t ts)
has_push t u ts = has_between t u ts [] ∙ ap (λ us. eqb t u || has t us) (append-nil ts)

-- a number that is there already adds none
pub has_known : (t u : ℕ) (ts : List ℕ) → has u ts ≡ true → has t ts ≡ (eqb t u || has t ts)
has_known t u ts h = elim (cases_Bool (eqb t u)) [
  | inl e ↦ ap (λ v. has v ts) (eqb-true t u e) ∙ h ∙ sym (or_left (eqb t u) (has t ts) e)
  | inr n ↦ sym (ap (λ b. b || has t ts) n)
]

abbrev one : Bool → ℕ
one b = if b then 0 else 1

-- one more number, put in anywhere
pub distinct_between : (ts us : List ℕ) (u : ℕ) → distinct (ts ++ (u ∷ us)) ≡ distinct (ts ++ us) + (if has u (ts ++ us) then 0 else 1)
distinct_between [] us u = omega arith
distinct_between (t ∷ ts) us u =
    let ih = distinct_between ts us u in
    let here = ap one (has_between t u ts us) in
    elim (cases_eq t u) [
      | inl e ↦
          let now = ap (λ b. one (b || has t (ts ++ us))) (eq-eqb t u e) in
          let swapped = ap (λ b. one (b || has u (ts ++ us))) (eq-eqb u t (sym e)) in
          let same = ap (λ v. one (has v (ts ++ us))) e in
          omega (arith, here, now, swapped, same, ih)
      | inr ne ↦
          let now = ap (λ b. one (b || has t (ts ++ us))) (ne_eqb t u ne) in
          let swapped = ap (λ b. one (b || has u (ts ++ us))) (ne_eqb u t (λ e. ne (sym e))) in
          omega (arith, here, now, swapped, ih)
    ]

pub at_most_one : (b : Bool) → cond {A = ℕ} b 0 1 ≤ 1
at_most_one true = omega arith
at_most_one false = omega arith

distinct_few : (ts : List ℕ) → distinct ts ≤ length ts
distinct_few [] = omega arith
distinct_few (t ∷ ts) = omega (arith, at_most_one (has t ts), distinct_few ts)

length_minutes : (Ω : List Lot) → length (minutes Ω) ≡ points_of_a_lot * length Ω
length_minutes [] = refl
length_minutes (x ∷ xs) = omega (arith, length_minutes xs)

pub points_few : (Ω : List Lot) → points Ω ≤ points_of_a_lot * length Ω
points_few Ω = omega (arith, distinct_few (minutes Ω), length_minutes Ω)
