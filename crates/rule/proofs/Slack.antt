-- The room that is left to the starts of a table.
use Rattle.std.proofs.Common.{◌≡◌, ℕ, ◌*◌, ◌<◌, ◌≤◌, List, [], ◌∷◌, length, refl, ap₂, inl, inr, arith}
use Rattle.std.proofs.lemmas.Bool.{cases_lt}
use Rattle.std.specs.List.{AllByRecursion}
use Rattle.lots.specs.Limits.{horizon, max_lots}
use Rattle.lots.specs.Tables.{LawfulLot, Lawful}
use Rattle.lots.specs.declared.Lot.{Lot}
use Rattle.rule.specs.Meanings.{SameWork, Narrower, Meaning, to, Sound}
use Rattle.rule.specs.Settled.{slack}
use Rattle.rule.proofs.Applications.{gives_at}
use Rattle.lots.proofs.Tables.{lot_path}

slack_le : (T U : List Lot) → SameWork T U → Narrower T U → slack U ≤ slack T
slack_le [] [] w n = omega arith
slack_le [] (y ∷ ys) w n = absurd w
slack_le (x ∷ xs) [] w n = absurd w
slack_le (x ∷ xs) (y ∷ ys) w n = let h = slack_le xs ys w.1 n.1 in omega arith

-- a narrower table of the same work with no less room is the table
pub slack_same : (C : ℕ) (T U : List Lot) → AllByRecursion (LawfulLot C) T → AllByRecursion (LawfulLot C) U → SameWork T U → Narrower T U → slack T ≤ slack U → U ≡ T
slack_same C [] [] f h w n s = refl
slack_same C [] (y ∷ ys) f h w n s = absurd w
slack_same C (x ∷ xs) [] f h w n s = absurd w
slack_same C (x ∷ xs) (y ∷ ys) f h w n s =
    let k = slack_le xs ys w.1 n.1 in
    ap₂ ◌∷◌ (lot_path y x (omega arith) (omega arith) w.0.0 w.0.1) (slack_same C xs ys f.1 h.1 w.1 n.1 (omega arith))

pub slack_falls : (C : ℕ) (T U : List Lot) → Lawful C T → Lawful C U → SameWork T U → Narrower T U → (U ≡ T → ⊥) → slack U < slack T
slack_falls C T U f h w n ne = elim (cases_lt (slack U) (slack T)) [ inl k ↦ k | inr k ↦ absurd (ne (slack_same C T U f.each h.each w n k)) ]

slack_most : (C : ℕ) (T : List Lot) → AllByRecursion (LawfulLot C) T → slack T ≤ horizon * length T
slack_most C [] f = omega arith
slack_most C (x ∷ xs) f = let h = slack_most C xs f.1 in omega arith

pub slack_fits : (C : ℕ) (T : List Lot) → Lawful C T → slack T ≤ horizon * max_lots
slack_fits C T ok = omega (arith, slack_most C T ok.each)

-- a move leaves a lawful table with less room
pub moved_falls : (m : Meaning) → Sound m → (C : ℕ) (T U : List Lot) → Lawful C T → m C T ≡ to U → (U ≡ T → ⊥) → Lawful C U × (slack U < slack T)
moved_falls m p C T U ok e ne =
    let l = gives_at (m C T) _ U e (p.lawful C T ok) in
    (l.0, slack_falls C T U ok l.0 l.1 (gives_at (m C T) _ U e (p.narrows C T ok)) ne)
