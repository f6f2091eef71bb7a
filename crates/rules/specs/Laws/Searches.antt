-- Tests of the minutes below a number.
use Rattle.std.specs.Prelude.{◌≡◌, ℕ, zero, suc, ◌<◌, ◌≤◌, Bool, true, false, refl}
use Rattle.std.proofs.Common.{arith}
use Rattle.std.proofs.lemmas.Bool.{or_from, cond_both}
use Rattle.rules.specs.TimeTable.{some_below, after_last}

pub some_none : (f : ℕ → Bool) (n : ℕ) → ((t : ℕ) → t < n → f t ≡ false) → some_below f n ≡ false
unfolding some_below
some_none f zero h = refl
some_none f (suc n) h = or_from (f n) (some_below f n) (h n (omega arith)) (some_none f n (λ t k. h t (omega arith)))

pub after_last_le : (f : ℕ → Bool) (n b : ℕ) → ((t : ℕ) → t < n → f t ≡ true → t < b) → after_last f n ≤ b
unfolding after_last
after_last_le f zero b h = omega arith
after_last_le f (suc n) b h = cond_both (f n) (suc n) (after_last f n) (λ m. m ≤ b) (λ e. omega (arith, h n (omega arith) e)) (λ e. after_last_le f n b (λ t k. h t (omega arith)))
