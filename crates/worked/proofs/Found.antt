-- Facts that a computation finds, or none.
use Rattle.std.proofs.Common.{◌≡◌, ℕ, zero, suc, ◌<◌, ◌≤◌, Bool, true, false, ◌⊎◌, List, [], ◌∷◌, Some, None, Option, Decides, refl, inl, inr, arith, subst}
use Rattle.std.specs.Prelude.{nat_le, nat_lt, ◌==◌}
use Rattle.std.specs.List.{AllByRecursion}
use Rattle.std.specs.Option.{is_some}
use Rattle.std.proofs.lemmas.Bool.{cases_lt, eqb-true, false≢true, leb-true, ltb-true}
use Rattle.std.proofs.lemmas.Bool.Decides.{not_from_Decides}

-- what was found
pub found : {P : Type 0} → (o : Option P) → is_some o ≡ true → P
found None e = absurd (false≢true e)
found (Some p) e = p

abbrev pub and_then : {P Q : Type 0} → Option P → (P → Option Q) → Option Q
and_then None f = None
and_then (Some p) f = f p

-- what the yes of a test shows
abbrev pub by_yes : {P : Type 0} → (b : Bool) → (b ≡ true → P) → Option P
by_yes true f = Some (f refl)
by_yes false f = None

-- what a test decides
abbrev pub either_by : {P : Type 0} → (b : Bool) → Decides b P → P ⊎ (P → ⊥)
either_by true d = inl (d.0 refl)
either_by false d = inr (not_from_Decides false d refl)

abbrev pub at_most : (a b : ℕ) → Option (a ≤ b)
at_most a b = by_yes (nat_le a b) (leb-true a b)

abbrev pub less : (a b : ℕ) → Option (a < b)
less a b = by_yes (nat_lt a b) (ltb-true a b)

abbrev pub equal : (a b : ℕ) → Option (a ≡ b)
equal a b = by_yes (a == b) (eqb-true a b)

-- of each element of a list
abbrev pub of_each : {X : Type 0} {P : X → Type 0} → ((x : X) → Option (P x)) → (xs : List X) → Option (AllByRecursion P xs)
of_each f [] = Some tt
of_each f (x ∷ xs) = and_then (f x) (λ p. and_then (of_each f xs) (λ ps. Some (p, ps)))

pub one_more : (P : ℕ → Type 0) (n : ℕ) → ((k : ℕ) → k < n → P k) → P n → (k : ℕ) → k < suc n → P k
one_more P n before here k h = elim (cases_lt k n) [ inl l ↦ before k l | inr l ↦ let e : n ≡ k = omega arith in subst P e here ]

-- of each number below n
abbrev pub of_each_below : {P : ℕ → Type 0} → ((k : ℕ) → Option (P k)) → (n : ℕ) → Option ((k : ℕ) → k < n → P k)
of_each_below f zero = Some (λ k h. absurd (omega arith))
of_each_below {P} f (suc n) = and_then (of_each_below f n) (λ before. and_then (f n) (λ here. Some (one_more P n before here)))

-- of the last number below n for which it is found
abbrev pub of_some_below : {P : ℕ → Type 0} → ((k : ℕ) → Option (P k)) → (n : ℕ) → Option ((k : ℕ) × P k)
of_some_below f zero = None
of_some_below f (suc n) = elim (f n) [ Some p ↦ Some (n, p) | None ↦ of_some_below f n ]
