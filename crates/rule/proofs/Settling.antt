-- One move more, and what settling answers at the end of the moves.
use Rattle.std.proofs.Common.{◌≡◌, ℕ, ◌+◌, ◌<◌, List, sym, refl, ◌∙◌, subst, add-one, arith}
use Rattle.lots.specs.declared.Lot.{Lot}
use Rattle.rule.specs.Meanings.{Meaning, to}
use Rattle.rule.specs.Settled.{Moves, none, more, Settled}
use Rattle.rule.specs.declared.Verdict.TheVariants.{Still, Moved}

module _ {m : Meaning} {C : ℕ} {T : List Lot} where
  pub moves_more : {n : ℕ} {U V : List Lot} → Moves m C T n U → m C U ≡ to V → (V ≡ U → ⊥) → Moves m C T (n + 1) V
  moves_more {n} {U} {V} h e ne = subst (λ k. Moves m C T k V) (sym (add-one n)) (more h e ne)

  moves_none : {n : ℕ} {U : List Lot} → Moves m C T n U → n ≡ 0 → U ≡ T
  moves_none none e = refl
  moves_none (more h k ne) e = absurd (omega arith)

  pub settled_still : {n : ℕ} {U V : List Lot} → Moves m C T n U → m C U ≡ to U → V ≡ U → n ≡ 0 → Settled m C T V Still (n + 1)
  settled_still {n} {U} {V} h e s z =
      let b = moves_none h z in
      (omega arith, subst (λ W. m C W ≡ to W) b e, s ∙ b)

  pub settled_moved : {n : ℕ} {U V : List Lot} → Moves m C T n U → m C U ≡ to U → V ≡ U → 0 < n → Settled m C T V Moved (n + 1)
  settled_moved {n} {U} {V} h e s z = (n, z, add-one n, subst (Moves m C T n) (sym s) h, subst (λ W. m C W ≡ to W) (sym s) e)
