-- A test of lots that is passed to a function, and what it answers.
use Rattle.std.specs.Prelude.{ℕ, Bool, ◌≡◌}
use Rattle.std.specs.Borrow.{Bor}
use Rattle.lots.specs.declared.Lot.{Lot}

-- whatever the test answers is what p answers
abbrev pub Tests : (ℕ → Bor Lot → Bool → Type 0) → (ℕ → Lot → Bool) → Type 0
Tests gives p = (k : ℕ) (x : Bor Lot) (b : Bool) → gives k x b → b ≡ p k x.now
