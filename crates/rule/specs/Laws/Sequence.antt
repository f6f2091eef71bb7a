-- One sound rule after another is sound.
use Rattle.std.specs.Prelude.{ℕ, List}
use Rattle.lots.specs.declared.Lot.{Lot}
use Rattle.rule.specs.Both.{and_then, both}
use Rattle.rule.specs.Meanings.{Narrower, Meaning, Outcome, dead, to, Gives, Dies, LawfulSameWork, Keeps, Hopeless, Sound}
use Rattle.rule.specs.Laws.Outcomes.{gives_weaker, dies_weaker}
use Rattle.rule.specs.Laws.Tables.{same_work_trans, narrower_trans}

module _ (n : Meaning) (q : Sound n) (C : ℕ) (T : List Lot) where
  and_then_lawful : (o : Outcome) → Gives o (LawfulSameWork C T) →
      Gives (and_then o (n C)) (LawfulSameWork C T)
  and_then_lawful dead h = tt
  and_then_lawful (to U) h = gives_weaker (n C U) _ _ (λ V r. (r.0, same_work_trans T U V h.1 r.1)) (q.lawful C U h.0)

  and_then_narrows : (o : Outcome) → Gives o (LawfulSameWork C T) → Gives o (Narrower T) →
      Gives (and_then o (n C)) (Narrower T)
  and_then_narrows dead l h = tt
  and_then_narrows (to U) l h = gives_weaker (n C U) _ _ (λ V r. narrower_trans T U V h r) (q.narrows C U l.0)

  and_then_keeps : (o : Outcome) → Gives o (LawfulSameWork C T) → Gives o (Keeps C T) →
      Gives (and_then o (n C)) (Keeps C T)
  and_then_keeps dead l h = tt
  and_then_keeps (to U) l h = gives_weaker (n C U) _ _ (λ V r ss s. r ss (h ss s)) (q.keeps C U l.0)

  and_then_dies : (o : Outcome) → Gives o (LawfulSameWork C T) → Gives o (Keeps C T) →
      Dies o (Hopeless C T) → Dies (and_then o (n C)) (Hopeless C T)
  and_then_dies dead l k h = h
  and_then_dies (to U) l k h = dies_weaker (n C U) _ _ (λ r ss s. r ss (k ss s)) (q.dies_rightly C U l.0)

pub both_sound : (m n : Meaning) → Sound m → Sound n → Sound (both m n)
both_sound m n p q = record {
  lawful = λ C T ok. and_then_lawful n q C T (m C T) (p.lawful C T ok);
  narrows = λ C T ok. and_then_narrows n q C T (m C T) (p.lawful C T ok) (p.narrows C T ok);
  keeps = λ C T ok. and_then_keeps n q C T (m C T) (p.lawful C T ok) (p.keeps C T ok);
  dies_rightly = λ C T ok. and_then_dies n q C T (m C T) (p.lawful C T ok) (p.keeps C T ok) (p.dies_rightly C T ok);
}
