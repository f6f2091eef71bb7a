-- Checks have one answer, and where each is decided they have some.
use Rattle.std.proofs.Common.{◌≡◌, ℕ, ◌<◌, ◌≤◌, ◌⊎◌, List, [], ◌∷◌, inl, inr, sym, refl, ◌∙◌, arith}
use Rattle.std.proofs.lemmas.Bool.{cases_lt}
use Rattle.lots.specs.Checks.{Check, Passed, Refused}
use Rattle.lots.specs.declared.Refusal.{Refusal}

pub refused_one : (ks : List Check) (e f : Refusal) → Refused ks e → Refused ks f → e ≡ f
refused_one [] e f r s = absurd r
refused_one (k ∷ ks) e f (inl r) (inl s) = r.1 ∙ sym s.1
refused_one (k ∷ ks) e f (inl r) (inr s) = absurd (s.0 r.0)
refused_one (k ∷ ks) e f (inr r) (inl s) = absurd (r.0 s.0)
refused_one (k ∷ ks) e f (inr r) (inr s) = refused_one ks e f r.1 s.1

pub passed_unrefused : (ks : List Check) (e : Refusal) → Passed ks → Refused ks e → ⊥
passed_unrefused [] e p r = r
passed_unrefused (k ∷ ks) e p (inl r) = p.0 r.0
passed_unrefused (k ∷ ks) e p (inr r) = passed_unrefused ks e p.1 r.1

-- a fact is so, or it is not
abbrev pub Either : Type 0 → Type 0
Either P = P ⊎ (P → ⊥)

pub less : (a b : ℕ) → Either (a < b)
less a b = elim (cases_lt a b) [ inl h ↦ inl h | inr h ↦ inr (λ l. omega arith) ]

pub at_most : (a b : ℕ) → Either (a ≤ b)
at_most a b = elim (cases_lt b a) [ inl h ↦ inr (λ l. omega arith) | inr h ↦ inl h ]

pub none : (a : ℕ) → Either (a ≡ 0)
none a = elim (cases_lt 0 a) [ inl h ↦ inr (λ e. omega arith) | inr h ↦ inl (omega arith) ]

pub equal : (a b : ℕ) → Either (a ≡ b)
equal a b = elim (cases_lt a b) [ inl h ↦ inr (λ e. omega arith) | inr h ↦ elim (cases_lt b a) [ inl k ↦ inr (λ e. omega arith) | inr k ↦ inl (omega arith) ] ]

pub either : {P Q : Type 0} → Either P → Either Q → Either (P ⊎ Q)
either (inl p) q = inl (inl p)
either (inr p) (inl q) = inl (inr q)
either (inr p) (inr q) = inr (λ s. elim s [ inl a ↦ p a | inr b ↦ q b ])

pub both : {P Q : Type 0} → Either P → Either Q → Either (P × Q)
both (inl p) (inl q) = inl (p, q)
both (inl p) (inr q) = inr (λ s. q s.1)
both (inr p) q = inr (λ s. p s.0)

-- each check applies, or it does not
abbrev pub Decided : List Check → Type 0
Decided [] = Unit {0}
Decided (k ∷ ks) = Either k.applies × Decided ks

pub passed_or_refused : (ks : List Check) → Decided ks → Passed ks ⊎ ((e : Refusal) × Refused ks e)
passed_or_refused [] d = inl tt
passed_or_refused (k ∷ ks) (inl a, d) = inr (k.refusal, inl (a, refl))
passed_or_refused (k ∷ ks) (inr n, d) = elim (passed_or_refused ks d) [ inl p ↦ inl (n, p) | inr r ↦ inr (r.0, inr (n, r.1)) ]
