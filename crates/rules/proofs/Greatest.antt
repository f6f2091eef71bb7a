-- The greatest of the numbers of the minutes below one.
use Rattle.std.specs.Prelude.{◌≡◌, ℕ, zero, suc, ◌+◌, ◌≤◌, ◌<◌, max, ◌||◌, nat_lt, refl}
use Rattle.std.proofs.Common.{inl, inr, sym, ap, ◌∙◌, arith}
use Rattle.std.proofs.lemmas.Bool.{cases_order}
use Rattle.std.proofs.lemmas.Bool.Decides.{nat_tests}
use Rattle.rules.specs.TimeTable.{some_below}
use Rattle.rules.specs.Private.Changes.{greatest_below}

pub greatest_more : (f : ℕ → ℕ) (n m : ℕ) → m ≡ n + 1 → greatest_below f m ≡ max (f n) (greatest_below f n)
unfolding greatest_below
greatest_more f n m e =
    let next : m ≡ suc n = omega arith in
    ap (greatest_below f) next

pub greatest_none : (f : ℕ → ℕ) (n : ℕ) → ((t : ℕ) → t < n → f t ≡ 0) → greatest_below f n ≡ 0
unfolding greatest_below
greatest_none f zero none = refl
greatest_none f (suc n) none = omega (arith, none n (omega arith), greatest_none f n (λ t h. none t (omega arith)))

-- minutes of the number 0 add nothing
pub greatest_past : (f : ℕ → ℕ) (n m : ℕ) → n ≤ m → ((t : ℕ) → n ≤ t → f t ≡ 0) → greatest_below f m ≡ greatest_below f n
unfolding greatest_below
greatest_past f n zero h none =
    let none_there : zero ≡ n = omega arith in
    ap (greatest_below f) none_there
greatest_past f n (suc m) h none = elim (cases_order n (suc m)) [
  | inl same ↦ ap (greatest_below f) (sym same)
  | inr (inl less) ↦ omega (arith, none m (omega arith), greatest_past f n m (omega arith) none)
  | inr (inr more) ↦ absurd (omega arith)
]

passes_max : (C a b : ℕ) → nat_lt C (max a b) ≡ (nat_lt C a || nat_lt C b)
passes_max C a b = grind (arith, nat_tests)

-- some number passes C where the greatest does
pub some_by_greatest : (C : ℕ) (f : ℕ → ℕ) (n : ℕ) → some_below (λ t. nat_lt C (f t)) n ≡ nat_lt C (greatest_below f n)
unfolding some_below greatest_below
some_by_greatest C f zero = grind (arith, nat_tests)
some_by_greatest C f (suc n) = ap (λ b. nat_lt C (f n) || b) (some_by_greatest C f n) ∙ sym (passes_max C (f n) (greatest_below f n))
