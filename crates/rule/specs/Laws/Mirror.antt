-- Schedules read from the other end of the week.
use Rattle.std.specs.Prelude.{◌≡◌, ℕ, ◌+◌, ◌-◌, ◌<◌, ◌≤◌, false, if◌then◌else◌, List, [], ◌∷◌, map, refl}
use Rattle.std.proofs.Common.{inl, inr, sym, ap, ap₂, subst, arith}
use Rattle.std.proofs.lemmas.Bool.{cases_lt}
use Rattle.std.proofs.lemmas.Bool.Decides.{nat_tests}
use Rattle.std.specs.List.{AllByRecursion}
use Rattle.lots.specs.Limits.{horizon}
use Rattle.lots.specs.Schedules.{spans, load, Placed, Schedule}
use Rattle.lots.specs.Tables.{Lawful}
use Rattle.lots.specs.declared.Lot.{Lot}
use Rattle.rule.specs.Meanings.{SameWork, Narrower, Meaning, Outcome, dead, to, Gives, Dies, LawfulSameWork, Keeps, Hopeless, Sound}
use Rattle.rule.specs.Turned.{turn, turn_outcome, turned}
use Rattle.rule.specs.Private.Week.{InWeek}
use Rattle.rule.specs.Laws.Turns.{lawful_week, turn_lawful, turn_same_work, turn_narrower}

abbrev pub mirror : List Lot → List ℕ → List ℕ
mirror [] ss = []
mirror (x ∷ xs) [] = []
mirror (x ∷ xs) (s ∷ ss) = (horizon - (s + x.p)) ∷ mirror xs ss

mirror_placed : (T : List Lot) (ss : List ℕ) → AllByRecursion InWeek T → Placed T ss →
    Placed (map turn T) (mirror T ss)
mirror_placed [] [] h p = tt
mirror_placed [] (s ∷ ss) h p = absurd p
mirror_placed (x ∷ xs) [] h p = absurd p
mirror_placed (x ∷ xs) (s ∷ ss) h p = (omega arith, mirror_placed xs ss h.1 p.1)

mirror_mirror : (T U : List Lot) (ss : List ℕ) → AllByRecursion InWeek T → Placed T ss →
    SameWork (map turn T) U → mirror U (mirror T ss) ≡ ss
mirror_mirror [] [] [] h p w = refl
mirror_mirror [] [] (s ∷ ss) h p w = absurd p
mirror_mirror [] (y ∷ ys) ss h p w = absurd w
mirror_mirror (x ∷ xs) [] ss h p w = absurd w
mirror_mirror (x ∷ xs) (y ∷ ys) [] h p w = absurd p
mirror_mirror (x ∷ xs) (y ∷ ys) (s ∷ ss) h p w = ap₂ ◌∷◌ (omega arith) (mirror_mirror xs ys ss h.1 p.1 w.1)

spans_mirror : (t s p : ℕ) → t < horizon → s + p ≤ horizon →
    spans (horizon - (s + p)) (horizon - (s + p) + p) t ≡ spans s (s + p) (horizon - 1 - t)
spans_mirror t s p h k = grind (arith, nat_tests)

spans_late : (t s p : ℕ) → horizon ≤ t → s + p ≤ horizon →
    spans (horizon - (s + p)) (horizon - (s + p) + p) t ≡ false
spans_late t s p h k = grind (arith, nat_tests)

load_mirror : (t : ℕ) (T : List Lot) (ss : List ℕ) → t < horizon → AllByRecursion InWeek T → Placed T ss →
    load t (map turn T) (mirror T ss) ≡ load (horizon - 1 - t) T ss
load_mirror t [] ss k h p = refl
load_mirror t (x ∷ xs) [] k h p = refl
load_mirror t (x ∷ xs) (s ∷ ss) k h p =
    ap₂ ◌+◌ (ap (λ b. if b then x.c else 0) (spans_mirror t s x.p k (omega arith))) (load_mirror t xs ss k h.1 p.1)

load_late : (t : ℕ) (T : List Lot) (ss : List ℕ) → horizon ≤ t → AllByRecursion InWeek T → Placed T ss →
    load t (map turn T) (mirror T ss) ≡ 0
load_late t [] ss k h p = refl
load_late t (x ∷ xs) [] k h p = refl
load_late t (x ∷ xs) (s ∷ ss) k h p =
    ap₂ ◌+◌ (ap (λ b. if b then x.c else 0) (spans_late t s x.p k (omega arith))) (load_late t xs ss k h.1 p.1)

pub mirrored : (C : ℕ) (T : List Lot) (ss : List ℕ) → AllByRecursion InWeek T → Schedule C T ss →
    Schedule C (map turn T) (mirror T ss)
mirrored C T ss h s = record {
  placed = mirror_placed T ss h s.placed;
  within = λ t. elim (cases_lt t horizon) [
    | inl k ↦ subst (λ n. n ≤ C) (sym (load_mirror t T ss k h s.placed)) (s.within (horizon - 1 - t))
    | inr k ↦ subst (λ n. n ≤ C) (sym (load_late t T ss k h s.placed)) (omega arith)
  ];
}

module _ (C : ℕ) (T : List Lot) (ok : Lawful C T) where
  week : AllByRecursion InWeek T
  week = lawful_week C T ok

  turned_lawful : (o : Outcome) → Gives o (LawfulSameWork C (map turn T)) →
      Gives (turn_outcome o) (LawfulSameWork C T)
  turned_lawful dead h = tt
  turned_lawful (to U) h = (turn_lawful C U h.0, turn_same_work T U week h.1)

  turned_narrows : (o : Outcome) → Gives o (Narrower (map turn T)) → Gives (turn_outcome o) (Narrower T)
  turned_narrows dead h = tt
  turned_narrows (to U) h = turn_narrower T U week h

  turned_keeps : (o : Outcome) → Gives o (LawfulSameWork C (map turn T)) → Gives o (Keeps C (map turn T)) →
      Gives (turn_outcome o) (Keeps C T)
  turned_keeps dead l h = tt
  turned_keeps (to U) l h = λ ss s.
      subst (Schedule C (map turn U)) (mirror_mirror T U ss week s.placed l.1)
      (mirrored C U (mirror T ss) (lawful_week C U l.0) (h (mirror T ss) (mirrored C T ss week s)))

  turned_dies : (o : Outcome) → Dies o (Hopeless C (map turn T)) → Dies (turn_outcome o) (Hopeless C T)
  turned_dies dead h = λ ss s. h (mirror T ss) (mirrored C T ss week s)
  turned_dies (to U) h = tt

pub turned_sound : (m : Meaning) → Sound m → Sound (turned m)
turned_sound m p = record {
  lawful = λ C T ok. turned_lawful C T ok (m C (map turn T)) (p.lawful C (map turn T) (turn_lawful C T ok));
  narrows = λ C T ok. turned_narrows C T ok (m C (map turn T)) (p.narrows C (map turn T) (turn_lawful C T ok));
  keeps = λ C T ok. let l = turn_lawful C T ok in turned_keeps C T ok (m C (map turn T)) (p.lawful C (map turn T) l) (p.keeps C (map turn T) l);
  dies_rightly = λ C T ok. turned_dies C T ok (m C (map turn T)) (p.dies_rightly C (map turn T) (turn_lawful C T ok));
}
