-- A rule that raises earliest starts applies its meaning.
use Rattle.std.proofs.Common.{◌≡◌, ℕ, suc, ◌+◌, ◌<◌, if◌then◌else◌, List, [], ◌∷◌, length, Ok, sym, refl, ap, subst, ap₂, arith}
use Rattle.lots.specs.Tables.{Lawful}
use Rattle.lots.specs.declared.Lot.{Lot}
use Rattle.rule.specs.Meanings.{Meaning, Applied, dead, to, IsVerdictOn}
use Rattle.rule.specs.Raised.{later_lot, later_lots, all_fit, raise}
use Rattle.rule.specs.declared.Verdict.{Verdict}

-- only the bounds of the lots that there are matter
later_same : (f g : ℕ → ℕ) (k : ℕ) (T : List Lot) → ((j : ℕ) → j < length T → f (k + j) ≡ g (k + j)) → later_lots f k T ≡ later_lots g k T
later_same f g k [] h = refl
later_same f g k (x ∷ xs) h =
    let here : f k ≡ g k = subst (λ n. f n ≡ g n) (omega arith) (h 0 (omega arith)) in
    let next : (j : ℕ) → j < length xs → f (suc k + j) ≡ g (suc k + j) = λ j l. subst (λ n. f n ≡ g n) (omega arith) (h (suc j) (omega arith)) in
    ap₂ (λ e ys. later_lot e x ∷ ys) here (later_same f g (suc k) xs next)

pub raise_same : (f g : ℕ → ℕ) (T : List Lot) → ((j : ℕ) → j < length T → f j ≡ g j) → raise f T ≡ raise g T
raise_same f g T h =
    ap (λ U. if all_fit U then to U else dead) (later_same f g 0 T (λ j l. subst (λ n. f n ≡ g n) (omega arith) (h j l)))

pub applied_from_verdict : (m : Meaning) (C : ℕ) (T U : List Lot) (bound : ℕ → ℕ) (v : Verdict) → Lawful C T → m C T ≡ raise bound T → IsVerdictOn (raise bound T) T U v → Applied m C T U (Ok v)
applied_from_verdict m C T U bound v ok e a = (ok, subst (λ o. IsVerdictOn o T U v) (sym e) a)

-- the same of a table that was found lawful
pub applied_to_table : (m : Meaning) (C D : ℕ) (T V U : List Lot) (bound : ℕ → ℕ) (v : Verdict) → (C ≡ D) × (T ≡ V) × Lawful D V → m C T ≡ raise bound T → IsVerdictOn (raise bound V) V U v → Applied m D V U (Ok v)
applied_to_table m C D T V U bound v is e =
    applied_from_verdict m D V U bound v is.2 (subst (λ X. m D X ≡ raise bound X) is.1 (subst (λ E. m E T ≡ raise bound T) is.0 e))
