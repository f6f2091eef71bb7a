-- What a call checks before it does anything: each refusal, and when it applies.
use Rattle.std.specs.Prelude.{◌≡◌, ◌⊎◌, List, [], ◌∷◌, Ok, Err, Result}
use Rattle.lots.specs.declared.Refusal.{Refusal}

-- a refusal, and when it applies
pub record Check : Type 1 where
  pub refusal : Refusal
  pub applies : Type 0

-- none of the checks applies
abbrev pub Passed : List Check → Type 0
Passed [] = Unit {0}
Passed (k ∷ ks) = (k.applies → ⊥) × Passed ks

-- the first check that applies is the refusal e
abbrev pub Refused : List Check → Refusal → Type 0
Refused [] e = ⊥
Refused (k ∷ ks) e = (k.applies × (e ≡ k.refusal)) ⊎ ((k.applies → ⊥) × Refused ks e)

-- an answer behind checks: the first that applies is the refusal, and then Q holds; where none applies, P holds
-- of what is answered
abbrev pub Checked : {X : Type 0} → List Check → Type 0 → (X → Type 0) → Result X Refusal → Type 0
Checked ks Q P (Ok x) = Passed ks × P x
Checked ks Q P (Err e) = Refused ks e × Q
