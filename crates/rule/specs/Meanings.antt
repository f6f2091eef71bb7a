-- What a rule makes of a table, and what it owes.
use Rattle.std.specs.Prelude.{◌≡◌, ℕ, ◌≤◌, List, Ok, Err, Result, ◌≢◌}
use Rattle.std.specs.List.{AllZip}
use Rattle.lots.specs.Schedules.{Schedule}
use Rattle.lots.specs.Tables.{Lawful}
use Rattle.lots.specs.declared.Lot.{Lot}
use Rattle.lots.specs.declared.Refusal.{Refusal}
use Rattle.lots.specs.declared.Refusal.TheVariants.{Unlawful}
use Rattle.rule.specs.declared.Verdict.{Verdict}
use Rattle.rule.specs.declared.Verdict.TheVariants.{Still, Moved, Dead}

-- what becomes of a table: it is dead, having no schedule, or it goes to a table, perhaps the same
pub data Outcome : Type 0 where
  dead : Outcome
  to : List Lot → Outcome

-- a rule's meaning: what it makes of the lots under a capacity
abbrev pub Meaning : Type 0
Meaning = ℕ → List Lot → Outcome

-- P holds of the table, where the outcome is one
abbrev pub Gives : Outcome → (List Lot → Type 0) → Type 0
Gives dead P = Unit {0}
Gives (to U) P = P U

-- P holds, where the outcome is dead
abbrev pub Dies : Outcome → Type 0 → Type 0
Dies dead P = P
Dies (to U) P = Unit {0}

-- the same work: as many lots, each as long and as large
abbrev pub SameWork : List Lot → List Lot → Type 0
SameWork T U = AllZip (λ x y. (y.p ≡ x.p) × (y.c ≡ x.c)) T U

-- no est is lower in U, and no lct is higher
abbrev pub Narrower : List Lot → List Lot → Type 0
Narrower T U = AllZip (λ x y. (x.est ≤ y.est) × (y.lct ≤ x.lct)) T U

-- U is lawful, and of the same work as T
abbrev pub LawfulSameWork : ℕ → List Lot → List Lot → Type 0
LawfulSameWork C T U = Lawful C U × SameWork T U

-- each schedule of T is a schedule of U
abbrev pub Keeps : ℕ → List Lot → List Lot → Type 0
Keeps C T U = (ss : List ℕ) → Schedule C T ss → Schedule C U ss

-- T has no schedule
abbrev pub Hopeless : ℕ → List Lot → Type 0
Hopeless C T = (ss : List ℕ) → Schedule C T ss → ⊥

-- the four facts that a rule owes, at every lawful table
pub record Sound (m : Meaning) : Type 0 where
  pub lawful : (C : ℕ) (T : List Lot) → Lawful C T → Gives (m C T) (LawfulSameWork C T)
  pub narrows : (C : ℕ) (T : List Lot) → Lawful C T → Gives (m C T) (Narrower T)
  pub keeps : (C : ℕ) (T : List Lot) → Lawful C T → Gives (m C T) (Keeps C T)
  pub dies_rightly : (C : ℕ) (T : List Lot) → Lawful C T → Dies (m C T) (Hopeless C T)

-- the verdict on an outcome, where T is the table before and U the table after
abbrev pub IsVerdictOn : Outcome → List Lot → List Lot → Verdict → Type 0
IsVerdictOn o T U Still = (o ≡ to T) × (U ≡ T)
IsVerdictOn o T U Moved = (o ≡ to U) × (U ≢ T)
IsVerdictOn o T U Dead = (o ≡ dead) × (U ≡ T)

-- what an application answers, where T is the table before and U the table after: of a lawful table the verdict
-- on what the rule makes of it, and of any other a refusal, and the table stays
abbrev pub Applied : Meaning → ℕ → List Lot → List Lot → Result Verdict Refusal → Type 0
Applied m C T U (Ok v) = Lawful C T × IsVerdictOn (m C T) T U v
Applied m C T U (Err e) = (Lawful C T → ⊥) × (e ≡ Unlawful) × (U ≡ T)
