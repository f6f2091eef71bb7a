-- Every lawful table comes to one outcome, and one thing is left of every node.
use Rattle.std.proofs.Common.{◌≡◌, ℕ, zero, suc, ◌<◌, List, refl, ap, ◌∙◌, inl, inr, arith}
use Rattle.std.proofs.lemmas.Bool.{cases_lt}
use Rattle.lots.specs.Tables.{Lawful}
use Rattle.lots.specs.declared.Lot.{Lot}
use Rattle.rule.specs.Meanings.{Meaning, Outcome, dead, to, Sound}
use Rattle.rule.specs.Settled.{Moves, none, more, slack}
use Rattle.rule.proofs.Chains.{chain_same, moves_kept, sound_kept}
use Rattle.rule.proofs.Slack.{slack_same}
use Rattle.tree.specs.Tree.{BestKnown, under, ComesTo, Leaves, late, tight}
use Rattle.tree.proofs.Nodes.{under_below, fits_or_not, comes_chain}

module _ (m : Meaning) (C : ℕ) where
  pub comes_same : (T : List Lot) (o v : Outcome) → ComesTo m C T o → ComesTo m C T v → o ≡ v
  comes_same T o v p q = (chain_same m C T (comes_chain m C T o p).1 (comes_chain m C T v q).1).1

  pub leaves_same : (b : BestKnown) (T : List Lot) (o v : Outcome) → Leaves m C b T o → Leaves m C b T v → o ≡ v
  leaves_same b T _ _ (late n) (late k) = refl
  leaves_same b T _ v (late n) (tight f h) = absurd (n f)
  leaves_same b T o _ (tight f h) (late n) = absurd (n f)
  leaves_same b T o v (tight f h) (tight g k) = comes_same (under b T) o v h k

module _ (m : Meaning) (sound : Sound m) (C : ℕ) where
  abbrev Comes : List Lot → Type 0
  Comes T = (o : Outcome) × ComesTo m C T o

  -- moves led from T to U: there the rule is still or dead, or it moves on
  comes_next : (T U : List Lot) (n : ℕ) → Lawful C T → Moves m C T n U → (o : Outcome) → m C U ≡ o → ((V : List Lot) → Moves m C T (suc n) V → slack V < slack U → Comes T) → Comes T
  comes_next T U n ok h dead e go = (dead, (n, U, h, e))
  comes_next T U n ok h (to V) e go =
      let here = (moves_kept m sound C T ok h).lawful in
      let k = sound_kept m sound C U V here e in
      elim (cases_lt (slack V) (slack U)) [
        | inl l ↦ go V (more h e (λ q. omega (arith, ap slack q))) l
        | inr l ↦ (to U, (n, h, e ∙ ap to (slack_same C U V here.each k.lawful.each k.work k.narrower l)))
      ]

  comes_from : (k : ℕ) (T U : List Lot) (n : ℕ) → Lawful C T → Moves m C T n U → slack U < k → Comes T
  comes_from zero T U n ok h l = absurd (omega arith)
  comes_from (suc k) T U n ok h l = comes_next T U n ok h (m C U) refl (λ V q f. comes_from k T V (suc n) ok q (omega arith))

  pub comes_some : (T : List Lot) → Lawful C T → (o : Outcome) × ComesTo m C T o
  comes_some T ok = comes_from (suc (slack T)) T T 0 ok none (omega arith)

  pub leaves_some : (b : BestKnown) (T : List Lot) → Lawful C T → (o : Outcome) × Leaves m C b T o
  leaves_some b T ok = elim (fits_or_not (under b T)) [
    | inl f ↦ let r = comes_some (under b T) (under_below C b T ok f).lawful in (r.0, tight f r.1)
    | inr n ↦ (dead, late n)
  ]
