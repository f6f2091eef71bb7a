-- What a search of the minutes below a number finds.
use Rattle.std.specs.Prelude.{◌≡◌, ℕ, zero, suc, ◌+◌, ◌<◌, Bool, true, false, if◌then◌else◌, Option, None, Some, MatchOption, refl}
use Rattle.std.proofs.Common.{inl, inr, sym, ap₂, subst, ◌∙◌, arith}
use Rattle.std.proofs.lemmas.Bool.{cases_order, cond-true, cond-false}
use Rattle.rules.specs.TimeTable.{after_last}

after_last_none : (f : ℕ → Bool) (n : ℕ) → ((t : ℕ) → t < n → f t ≡ false) → after_last f n ≡ 0
unfolding after_last
after_last_none f zero h = refl
after_last_none f (suc n) h = cond-false (f n) (suc n) (after_last f n) (h n (omega arith)) ∙ after_last_none f n (λ t k. h t (omega arith))

pub after_last_same : (f g : ℕ → Bool) (n : ℕ) → ((t : ℕ) → t < n → f t ≡ g t) → after_last f n ≡ after_last g n
unfolding after_last
after_last_same f g zero h = refl
after_last_same f g (suc n) h = ap₂ (λ b m. if b then suc n else m) (h n (omega arith)) (after_last_same f g n (λ t k. h t (omega arith)))

-- r is the last minute below n of which a test holds, if there is one
abbrev pub IsLastBelow : (ℕ → Bool) → ℕ → Option ℕ → Type 0
IsLastBelow f n r = MatchOption r ((t : ℕ) → t < n → f t ≡ false) (λ m. (m < n) × (f m ≡ true) × ((t : ℕ) → m < t → t < n → f t ≡ false))

after_last_at : (f : ℕ → Bool) (n m : ℕ) → m < n → f m ≡ true → ((t : ℕ) → m < t → t < n → f t ≡ false) → m + 1 ≡ after_last f n
unfolding after_last
after_last_at f zero m h here after = absurd (omega arith)
after_last_at f (suc n) m h here after = elim (cases_order m n) [
  | inl same ↦ omega (arith, cond-true (f n) (suc n) (after_last f n) (subst (λ k. f k ≡ true) same here))
  | inr (inl less) ↦ omega (arith, cond-false (f n) (suc n) (after_last f n) (after n less (omega arith)), after_last_at f n m less here (λ t l k. after t l (omega arith)))
  | inr (inr more) ↦ absurd (omega arith)
]

pub after_last_found : (f : ℕ → Bool) (n : ℕ) (r : Option ℕ) (bound : ℕ) → IsLastBelow f n r → MatchOption r (bound ≡ 0) (λ m. bound ≡ m + 1) → bound ≡ after_last f n
after_last_found f n None bound none is = is ∙ sym (after_last_none f n none)
after_last_found f n (Some m) bound last is = is ∙ after_last_at f n m last.0 last.1 last.2
