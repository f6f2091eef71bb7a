-- The rule overload: dead where the lots that must all be out by some minute are overfull.
use Rattle.std.specs.Prelude.{ℕ, Bool, false, if◌then◌else◌, ◌||◌, List, [], ◌∷◌, nat_le, map}
use Rattle.lots.specs.declared.Lot.{Lot}
use Rattle.rule.specs.Meanings.{Meaning, dead, to}
use Rattle.rules.specs.Chosen.{chosen_lots, is_overfull}

-- the latest ends of the lots
abbrev pub ends_of : List Lot → List ℕ
ends_of T = map (λ x. x.lct) T

-- the lots that must be out by the minute t
abbrev pub due_lots : ℕ → List Lot → List Lot
due_lots t T = chosen_lots (λ k x. nat_le x.lct t) 0 T

-- whether, for some minute of ts, the lots that must be out by then are overfull
abbrev pub some_overfull : ℕ → List Lot → List ℕ → Bool
some_overfull C T [] = false
some_overfull C T (t ∷ ts) = is_overfull C (due_lots t T) || some_overfull C T ts

-- dead where that holds for the latest end of some lot; else the table stays as it is
abbrev pub overload : Meaning
overload C T = if some_overfull C T (ends_of T) then dead else to T
