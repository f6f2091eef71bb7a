-- The chain of a latest end, gone through from its lowest lot: which lots have come into a profile.
use Rattle.std.proofs.Common.{◌≡◌, ℕ, ◌<◌, ◌≤◌, Bool, true, false, ◌&&◌, ◌||◌, eqb, ltb, List, length, sym, ap, ◌∙◌, subst, inl, inr, zero-add, arith}
use Rattle.std.proofs.Math.Bool.{and-false, or-false, or_assoc}
use Rattle.std.proofs.lemmas.Bool.Decides.{nat_tests}
use Rattle.std.proofs.lemmas.Bool.{cases_Bool, cases_eq, cases_lt, both_ways, false_from_ne_true, lt-ltb}
use Rattle.lots.specs.Tables.{lot_at}
use Rattle.lots.specs.declared.Lot.{Lot}
use Rattle.elastic.specs.Added.{is_added}
use Rattle.elastic.specs.Profile.{has}
use Rattle.elastic.specs.declared.profile.Profile.{Profile}
use Rattle.rules.specs.Chosen.{chosen_lots}
use Rattle.rules.specs.Private.Ends.{Lowest, Next}
use Rattle.rules.specs.Overload.{ends_of}
use Rattle.rules.specs.Private.Growing.{Grown}
use Rattle.rules.specs.declared.ends.End.{End}
use Rattle.rules.proofs.ChosenLots.{chosen_from, chosen_has}

-- whether a lot of the number k and the latest end c, of which the test is q, came in at the end t before the number n
abbrev comes : Bool → ℕ → ℕ → ℕ → ℕ → Bool
comes q c t n k = ltb k n && (q && eqb c t)

-- what is so of a profile, and of the answer whether any lot came in, after the lots before n were asked
pub record Growing (T : List Lot) (p : ℕ → Lot → Bool) (t n : ℕ) (old new : Profile) (any : Bool) : Type 0 where
  pub added : (k : ℕ) → k < length T → is_added new k ≡ (is_added old k || comes (p k (lot_at T k)) (lot_at T k).lct t n k)
  pub found : any ≡ true → has t (ends_of (chosen_lots p 0 T)) ≡ true
  pub none : any ≡ false → (k : ℕ) → k < n → (lot_at T k).lct ≡ t → p k (lot_at T k) ≡ false

comes_not : (q : Bool) (c t n k : ℕ) → (k < n → c ≡ t → ⊥) → comes q c t n k ≡ false
comes_not q c t n k h = elim (cases_lt k n) [
  | inl low ↦ let other = h low in grind (arith, nat_tests)
  | inr high ↦ grind (arith, nat_tests)
]

comes_next : (q b : Bool) (c t n m k : ℕ) → n < m → (k ≡ n → q ≡ b) → (k ≡ n → c ≡ t) → (n < k → k < m → c ≡ t → ⊥) → (comes q c t n k || (eqb k n && b)) ≡ comes q c t m k
comes_next q b c t n m k l is at none = elim (cases_eq k n) [
  | inl e ↦ let same = is e in let end = at e in grind (arith, nat_tests)
  | inr ne ↦ elim (cases_lt k n) [
    | inl low ↦ grind (arith, nat_tests)
    | inr high ↦ elim (cases_lt k m) [
      | inl between ↦ let other = none (omega arith) between in grind (arith, nat_tests)
      | inr past ↦ grind (arith, nat_tests)
    ]
  ]
]

module _ (T : List Lot) (p : ℕ → Lot → Bool) where
  -- no lot before the lowest one has its end
  pub growing_from : (x : End) → Lowest T x → (profile : Profile) → Growing T p x.lct x.lot profile profile false
  growing_from x low profile = record {
    added = λ k h. sym (ap (λ b. is_added profile k || b) (comes_not _ _ _ _ _ (low.lowest k)) ∙ or-false (is_added profile k));
    found = λ e. cc;
    none = λ e k l same. absurd (low.lowest k l same);
  }

  module _ (t n m : ℕ) (h : n < length T) (at : (lot_at T n).lct ≡ t) (next : Next T n m) (old new : Profile) (any : Bool) (g : Growing T p t n old new any) where
    -- the lot n comes in where its test is true, and none does between it and the next
    comes_on : (b : Bool) → p n (lot_at T n) ≡ b → (new' : Profile) (k : ℕ) → k < length T → is_added new' k ≡ (is_added new k || (eqb k n && b)) → is_added new' k ≡ (is_added old k || comes (p k (lot_at T k)) (lot_at T k).lct t m k)
    comes_on b is new' k l made =
        made ∙ ap (λ a. a || (eqb k n && b)) (g.added k l) ∙ or_assoc (is_added old k) _ (eqb k n && b)
        ∙ ap (λ a. is_added old k || a) (comes_next (p k (lot_at T k)) b (lot_at T k).lct t n m k next.later (λ e. ap (λ j. p j (lot_at T j)) e ∙ is) (λ e. ap (λ j. (lot_at T j).lct) e ∙ at) (λ low high same. next.none_between k low high (same ∙ sym at)))

    pub growing_added : p n (lot_at T n) ≡ true → (new' : Profile) (l : ℕ) → n < l → ((k : ℕ) → is_added new' k ≡ (is_added new k || (eqb k n && ltb n l))) → Growing T p t m old new' true
    growing_added passed new' l here made = record {
      added = λ k is_lot. comes_on true passed new' k is_lot (made k ∙ ap (λ b. is_added new k || (eqb k n && b)) (lt-ltb n l here));
      found = λ e. ap (λ u. has u (ends_of (chosen_lots p 0 T))) (sym at) ∙ chosen_has (λ (x : Lot). x.lct) p 0 n T h (subst (λ j. p j (lot_at T n) ≡ true) (sym (zero-add n)) passed);
      none = λ e. cc;
    }

    pub growing_skipped : p n (lot_at T n) ≡ false → Growing T p t m old new any
    growing_skipped failed = record {
      added = λ k l. comes_on false failed new k l (sym (ap (λ b. is_added new k || b) (and-false (eqb k n)) ∙ or-false (is_added new k)));
      found = g.found;
      none = λ e k low same. elim (cases_eq k n) [
        | inl here ↦ ap (λ j. p j (lot_at T j)) here ∙ failed
        | inr ne ↦ elim (cases_lt k n) [
          | inl before ↦ g.none e k before same
          | inr after ↦ absurd (next.none_between k (omega arith) low (same ∙ sym at))
        ]
      ];
    }

  -- after the last lot
  pub grown_from : (t n : ℕ) → length T ≤ n → (old new : Profile) (any : Bool) → Growing T p t n old new any → Grown T p t old new any
  grown_from t n done old new any g = record {
    added = λ k l. g.added k l ∙ ap (λ b. is_added old k || (b && (p k (lot_at T k) && eqb (lot_at T k).lct t))) (lt-ltb k n (omega arith));
    some = elim (cases_Bool any) [
      | inl e ↦ e ∙ sym (g.found e)
      | inr e ↦ e ∙ sym (false_from_ne_true _ (λ h.
          let r = chosen_from (λ (x : Lot). x.lct) p 0 t T h in
          both_ways _ (g.none e r.0 (omega (arith, r.1)) r.3) (subst (λ j. p j (lot_at T r.0) ≡ true) (zero-add r.0) r.2)))
    ];
  }
