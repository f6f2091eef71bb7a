-- What an application leaves, and two of them one after the other.
use Rattle.std.specs.Prelude.{◌≡◌, ℕ, List, Ok, Err, Result, ◌≢◌, refl}
use Rattle.std.proofs.Common.{sym, ap, subst, ◌∙◌}
use Rattle.lots.specs.Tables.{Lawful}
use Rattle.lots.specs.declared.Lot.{Lot}
use Rattle.lots.specs.declared.Refusal.{Refusal}
use Rattle.rule.specs.Meanings.{Meaning, Outcome, to, Gives, Sound, Applied, Narrower, LawfulSameWork}
use Rattle.rule.specs.declared.Verdict.{Verdict}
use Rattle.rule.specs.declared.Verdict.TheVariants.{Still, Moved, Dead}
use Rattle.rule.specs.Both.{and_then, both}
use Rattle.rule.proofs.Tables.{narrower_antisym}

-- what holds of an outcome holds of the table that it is
pub gives_at : (o : Outcome) (P : List Lot → Type 0) (U : List Lot) → o ≡ to U → Gives o P → P U
gives_at o P U e h = subst (λ v. Gives v P) e h

-- an application that is not dead: the table after it is the rule's
pub applied_to : (m : Meaning) (C : ℕ) (T U : List Lot) (v : Verdict) → (v ≢ Dead) → Applied m C T U (Ok v) → Lawful C T × (m C T ≡ to U)
applied_to m C T U Still alive a = (a.0, a.1.0 ∙ ap to (sym a.1.1))
applied_to m C T U Moved alive a = (a.0, a.1.0)
applied_to m C T U Dead alive a = absurd (alive refl)

-- a lawful table is lawful after an application, whatever the answer
pub applied_lawful : (m : Meaning) → Sound m → (C : ℕ) (T U : List Lot) (r : Result Verdict Refusal) → Lawful C T → Applied m C T U r → Lawful C U
applied_lawful m p C T U (Ok Still) ok a = subst (Lawful C) (sym a.1.1) ok
applied_lawful m p C T U (Ok Moved) ok a = (gives_at (m C T) _ U a.1.0 (p.lawful C T ok)).0
applied_lawful m p C T U (Ok Dead) ok a = subst (Lawful C) (sym a.1.1) ok
applied_lawful m p C T U (Err e) ok a = absurd (a.0 ok)

-- where the second moved, the table is another than before the first: what the first took away does not come back
pub both_moves : (m n : Meaning) → Sound m → Sound n → (C : ℕ) (T U V : List Lot) (v : Verdict) → (v ≢ Dead) → Applied m C T U (Ok v) → Applied n C U V (Ok Moved) → Applied (both m n) C T V (Ok Moved)
both_moves m n p q C T U V v alive a b =
    let x = applied_to m C T U v alive a in
    let law = gives_at (m C T) (LawfulSameWork C T) U x.1 (p.lawful C T x.0) in
    let there = gives_at (m C T) (Narrower T) U x.1 (p.narrows C T x.0) in
    let on = gives_at (n C U) (Narrower U) V b.1.0 (q.narrows C U law.0) in
    (x.0, (ap (λ o. and_then o (n C)) x.1 ∙ b.1.0, λ e. b.1.1 (e ∙ sym (narrower_antisym T U law.1 there (subst (Narrower U) e on)))))
