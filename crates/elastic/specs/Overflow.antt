-- What the overflow calls answer.
use Rattle.std.specs.Prelude.{◌≡◌, ℕ, ◌*◌, ◌≤◌, List, length, Ok, Err, Result, IfOk}
use Rattle.lots.specs.Schedules.{Schedule}
use Rattle.lots.specs.Tables.{Lawful}
use Rattle.lots.specs.declared.Lot.{Lot}
use Rattle.lots.specs.declared.Refusal.{Refusal}
use Rattle.lots.specs.declared.Refusal.TheVariants.{Unlawful}
use Rattle.elastic.specs.Profile.{overflow, points, points_of_a_lot}

-- an answer: the work that is left over, and the number of points
abbrev pub Measures : Type 0
Measures = ℕ × ℕ

abbrev pub left_over : Measures → ℕ
left_over answer = answer.0

abbrev pub point_count : Measures → ℕ
point_count answer = answer.1

-- the overflow and the number of points of a lawful table, and a refusal of any other
abbrev pub OverflowAnswered : ℕ → List Lot → Result Measures Refusal → Type 0
OverflowAnswered C Ω (Ok answer) =
    Lawful C Ω × (left_over answer ≡ overflow C Ω) × (point_count answer ≡ points Ω)
OverflowAnswered C Ω (Err e) = (Lawful C Ω → ⊥) × (e ≡ Unlawful)

-- there are no more points than the lots can bring
abbrev pub FewPoints : List Lot → Result Measures Refusal → Type 0
FewPoints Ω result = IfOk result (λ answer. point_count answer ≤ points_of_a_lot * length Ω)

-- lots that have a schedule leave no overflow
abbrev pub NoneIfSchedulable : ℕ → List Lot → Result Measures Refusal → Type 0
NoneIfSchedulable C Ω result =
    IfOk result (λ answer. (ss : List ℕ) → Schedule C Ω ss → left_over answer ≡ 0)
