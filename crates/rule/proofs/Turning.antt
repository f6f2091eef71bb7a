-- A table turned twice, what a turned rule answers, and what a rule turned twice means.
use Rattle.std.specs.Prelude.{◌≡◌, ℕ, List, [], ◌∷◌, map, Ok, Err, Result, refl}
use Rattle.std.proofs.Common.{sym, ap, ap₂, ◌∙◌, arith}
use Rattle.std.specs.List.{AllByRecursion}
use Rattle.lots.specs.Tables.{Lawful}
use Rattle.lots.specs.declared.Lot.{Lot}
use Rattle.lots.specs.declared.Refusal.{Refusal}
use Rattle.rule.specs.Meanings.{Meaning, Outcome, dead, to, Gives, LawfulSameWork, Sound, Applied}
use Rattle.rule.specs.Turned.{turn, turn_outcome, turned, Alike}
use Rattle.rule.specs.declared.Verdict.{Verdict}
use Rattle.rule.specs.declared.Verdict.TheVariants.{Still, Moved, Dead}
use Rattle.rule.specs.Private.Week.{InWeek}
use Rattle.lots.proofs.Tables.{lot_path}
use Rattle.rule.specs.Laws.Turns.{lawful_week, turn_lawful}
use Rattle.rule.proofs.Applications.{gives_at}

turn_turn : (x : Lot) → InWeek x → turn (turn x) ≡ x
turn_turn x h = lot_path _ _ (omega arith) (omega arith) refl refl

map_turn-map_turn : (T : List Lot) → AllByRecursion InWeek T → map turn (map turn T) ≡ T
map_turn-map_turn [] h = refl
map_turn-map_turn (x ∷ xs) h = ap₂ ◌∷◌ (turn_turn x h.0) (map_turn-map_turn xs h.1)

-- the answer at the turned table is the answer at the table, once the table U that the rule left is turned back to V
pub turned_applied : (m : Meaning) → Sound m → (C : ℕ) (T U V : List Lot) (r : Result Verdict Refusal) → Lawful C T → Applied m C (map turn T) U r → V ≡ map turn U → Applied (turned m) C T V r
turned_applied m p C T U V (Ok Still) ok a s =
    let back = map_turn-map_turn T (lawful_week C T ok) in
    (ok, (ap turn_outcome a.1.0 ∙ ap to back, s ∙ ap (map turn) a.1.1 ∙ back))
turned_applied m p C T U V (Ok Moved) ok a s =
    let there = gives_at (m C (map turn T)) _ U a.1.0 (p.lawful C (map turn T) a.0) in (
      ok,
      (
        ap turn_outcome a.1.0 ∙ ap to (sym s),
        λ e. a.1.1 (sym (map_turn-map_turn U (lawful_week C U there.0)) ∙ ap (map turn) (sym s ∙ e)),
      ),
    )
turned_applied m p C T U V (Ok Dead) ok a s =
    (ok, (ap turn_outcome a.1.0, s ∙ ap (map turn) a.1.1 ∙ map_turn-map_turn T (lawful_week C T ok)))
turned_applied m p C T U V (Err e) ok a s = absurd (a.0 (turn_lawful C T ok))

turn_outcome_twice : (C : ℕ) (T : List Lot) (o : Outcome) → Gives o (LawfulSameWork C T) → turn_outcome (turn_outcome o) ≡ o
turn_outcome_twice C T dead h = refl
turn_outcome_twice C T (to U) h = ap to (map_turn-map_turn U (lawful_week C U h.0))

-- a rule turned twice means the rule itself
pub turned_twice : (m : Meaning) → Sound m → Alike (turned (turned m)) m
turned_twice m p C T ok =
    ap (λ V. turn_outcome (turn_outcome (m C V))) (map_turn-map_turn T (lawful_week C T ok))
    ∙ turn_outcome_twice C T (m C T) (p.lawful C T ok)
