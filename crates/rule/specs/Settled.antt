-- A rule applied until it is still or dead.
use Rattle.std.specs.Prelude.{◌≡◌, ℕ, zero, suc, ◌+◌, ◌-◌, ◌<◌, ◌≤◌, List, [], ◌∷◌, Ok, Err, Result, ◌≢◌}
use Rattle.lots.specs.Tables.{lst, Lawful}
use Rattle.lots.specs.declared.Lot.{Lot}
use Rattle.lots.specs.declared.Refusal.{Refusal}
use Rattle.lots.specs.declared.Refusal.TheVariants.{Unlawful}
use Rattle.rule.specs.Meanings.{Meaning, dead, to}
use Rattle.rule.specs.declared.Verdict.{Verdict}
use Rattle.rule.specs.declared.Verdict.TheVariants.{Still, Moved, Dead}

-- n moves lead from T, each by the meaning and each to another table
pub data Moves (m : Meaning) (C : ℕ) (T : List Lot) : ℕ → List Lot → Type 0 where
  none : Moves m C T zero T
  more : {n : ℕ} {U V : List Lot} → Moves m C T n U → m C U ≡ to V → (V ≢ U) → Moves m C T (suc n) V

-- the room that is left to the starts: the sum of lst − est
abbrev pub slack : List Lot → ℕ
slack [] = 0
slack (x ∷ xs) = (lst x - x.est) + slack xs

-- the verdict and the number k of applications, where T is the table before and U the table after
abbrev pub Settled : Meaning → ℕ → List Lot → List Lot → Verdict → ℕ → Type 0
Settled m C T U Still k = (k ≡ 1) × (m C T ≡ to T) × (U ≡ T)
Settled m C T U Moved k = (n : ℕ) × (0 < n) × (k ≡ suc n) × Moves m C T n U × (m C U ≡ to U)
Settled m C T U Dead k = (n : ℕ) × (W : List Lot) × (k ≡ suc n) × Moves m C T n W × (m C W ≡ dead) × (U ≡ T)

-- what applying a rule until it is still or dead answers: at most one application more than there is room
abbrev pub Settles : Meaning → ℕ → List Lot → List Lot → Result (Verdict × ℕ) Refusal → Type 0
Settles m C T U (Ok (v, k)) = Lawful C T × Settled m C T U v k × (k ≤ 1 + slack T)
Settles m C T U (Err e) = (Lawful C T → ⊥) × (e ≡ Unlawful) × (U ≡ T)
