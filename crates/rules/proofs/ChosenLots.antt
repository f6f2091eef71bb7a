-- The lots that a test chooses: gathered one by one, and which latest ends they have.
use Rattle.std.specs.Prelude.{◌≡◌, ℕ, zero, suc, ◌+◌, ◌<◌, Bool, true, false, if◌then◌else◌, List, [], ◌∷◌, ◌++◌, map, length, take, refl}
use Rattle.std.proofs.Common.{◌⊎◌, eqb, sym, ap, ◌∙◌, subst, inl, inr, zero-add, add-zero, arith}
use Rattle.std.proofs.lemmas.List.{append-nil, take_more, length-take-le}
use Rattle.std.proofs.lemmas.Bool.{cond_both, false≢true, or_cases, or_left, or_right, eqb-true, eq-eqb}
use Rattle.std.proofs.lemmas.Bool.Decides.{same_from_decides}
use Rattle.std.specs.List.{AllByRecursion}
use Rattle.lots.specs.Tables.{lot_at}
use Rattle.lots.specs.declared.Lot.{Lot}
use Rattle.elastic.specs.Profile.{has}
use Rattle.elastic.proofs.Marked.{cond_append}
use Rattle.rules.specs.Chosen.{chosen_lots}

module _ (test : ℕ → Lot → Bool) where
  pub chosen_each : (P : Lot → Type 0) (k : ℕ) (T : List Lot) → AllByRecursion P T → AllByRecursion P (chosen_lots test k T)
  chosen_each P k [] h = tt
  chosen_each P k (x ∷ xs) h = cond_both (test k x) (x ∷ chosen_lots test (suc k) xs) (chosen_lots test (suc k) xs) (AllByRecursion P) (λ e. (h.0, chosen_each P (suc k) xs h.1)) (λ e. chosen_each P (suc k) xs h.1)

  -- the loop that gathers, one lot more
  chosen_push : (k : ℕ) (T : List Lot) (x : Lot) → chosen_lots test k (T ++ (x ∷ [])) ≡ chosen_lots test k T ++ (if test (k + length T) x then x ∷ [] else [])
  chosen_push k [] x = ap (λ n. if test n x then x ∷ [] else []) (sym (add-zero k))
  chosen_push k (y ∷ ys) x =
      let rest = chosen_push (suc k) ys x ∙ ap (λ n. chosen_lots test (suc k) ys ++ (if test n x then x ∷ [] else [])) (omega arith) in
      ap (λ zs. if test k y then y ∷ zs else zs) rest ∙ cond_append (test k y) y (chosen_lots test (suc k) ys) (if test (k + suc (length ys)) x then x ∷ [] else [])

  chosen_more : (T : List Lot) (i : ℕ) → i < length T → chosen_lots test 0 (take (i + 1) T) ≡ chosen_lots test 0 (take i T) ++ (if test i (lot_at T i) then lot_at T i ∷ [] else [])
  chosen_more T i h =
      ap (chosen_lots test 0) (take_more T i _ h)
      ∙ chosen_push 0 (take i T) (lot_at T i)
      ∙ ap (λ n. chosen_lots test 0 (take i T) ++ (if test n (lot_at T i) then lot_at T i ∷ [] else [])) (zero-add (length (take i T)) ∙ length-take-le i T (omega arith))

  module _ (T : List Lot) (i : ℕ) (h : i < length T) (xs : List Lot) (is : xs ≡ chosen_lots test 0 (take i T)) where
    pub chosen_takes : test i (lot_at T i) ≡ true → (ys : List Lot) → ys ≡ xs ++ (lot_at T i ∷ []) → ys ≡ chosen_lots test 0 (take (i + 1) T)
    chosen_takes passed ys made =
        made ∙ ap (λ zs. zs ++ (lot_at T i ∷ [])) is
        ∙ sym (chosen_more T i h ∙ ap (λ b. chosen_lots test 0 (take i T) ++ (if b then lot_at T i ∷ [] else [])) passed)

    pub chosen_skips : test i (lot_at T i) ≡ false → xs ≡ chosen_lots test 0 (take (i + 1) T)
    chosen_skips failed =
        is ∙ sym (chosen_more T i h ∙ ap (λ b. chosen_lots test 0 (take i T) ++ (if b then lot_at T i ∷ [] else [])) failed ∙ append-nil (chosen_lots test 0 (take i T)))

-- which numbers f the chosen lots have
module _ (f : Lot → ℕ) (test : ℕ → Lot → Bool) where
  has_cond : (b : Bool) (t : ℕ) (x : Lot) (xs : List Lot) → has t (map f (if b then x ∷ xs else xs)) ≡ true → ((b ≡ true) × (f x ≡ t)) ⊎ (has t (map f xs) ≡ true)
  has_cond true t x xs h = elim (or_cases (eqb t (f x)) (has t (map f xs)) h) [ inl e ↦ inl (refl, sym (eqb-true t (f x) e)) | inr g ↦ inr g ]
  has_cond false t x xs h = inr h

  pub chosen_from : (k t : ℕ) (T : List Lot) → has t (map f (chosen_lots test k T)) ≡ true → (j : ℕ) × (j < length T) × (test (k + j) (lot_at T j) ≡ true) × (f (lot_at T j) ≡ t)
  chosen_from k t [] h = absurd (false≢true h)
  chosen_from k t (x ∷ xs) h = elim (has_cond (test k x) t x (chosen_lots test (suc k) xs) h) [
    | inl here ↦ (0, omega arith, subst (λ n. test n x ≡ true) (sym (add-zero k)) here.0, here.1)
    | inr there ↦
        let r = chosen_from (suc k) t xs there in
        (suc r.0, omega (arith, r.1), subst (λ n. test n (lot_at xs r.0) ≡ true) (omega arith) r.2, r.3)
  ]

  cond_has : (b : Bool) (t : ℕ) (x : Lot) (xs : List Lot) → has t (map f xs) ≡ true → has t (map f (if b then x ∷ xs else xs)) ≡ true
  cond_has true t x xs h = or_right (eqb t (f x)) (has t (map f xs)) h
  cond_has false t x xs h = h

  pub chosen_has : (k j : ℕ) (T : List Lot) → j < length T → test (k + j) (lot_at T j) ≡ true → has (f (lot_at T j)) (map f (chosen_lots test k T)) ≡ true
  chosen_has k j [] h e = absurd (omega arith)
  chosen_has k zero (x ∷ xs) h e =
      let in' = subst (λ n. test n x ≡ true) (add-zero k) e in
      ap (λ b. has (f x) (map f (if b then x ∷ chosen_lots test (suc k) xs else chosen_lots test (suc k) xs))) in'
      ∙ or_left (eqb (f x) (f x)) (has (f x) (map f (chosen_lots test (suc k) xs))) (eq-eqb (f x) (f x) refl)
  chosen_has k (suc j) (x ∷ xs) h e =
      cond_has (test k x) (f (lot_at xs j)) x (chosen_lots test (suc k) xs) (chosen_has (suc k) j xs (omega arith) (subst (λ n. test n (lot_at xs j) ≡ true) (omega arith) e))

-- of the lots with one f, only how they are tested matters
module _ (f : Lot → ℕ) (t : ℕ) (T : List Lot) where
  has_into : (p q : ℕ → Lot → Bool) → ((k : ℕ) (x : Lot) → f x ≡ t → p k x ≡ q k x) → has t (map f (chosen_lots p 0 T)) ≡ true → has t (map f (chosen_lots q 0 T)) ≡ true
  has_into p q same h =
      let r = chosen_from f p 0 t T h in
      subst (λ u. has u (map f (chosen_lots q 0 T)) ≡ true) r.3 (chosen_has f q 0 r.0 T r.1 (sym (same (0 + r.0) (lot_at T r.0) r.3) ∙ r.2))

  pub has_same : (p q : ℕ → Lot → Bool) → ((k : ℕ) (x : Lot) → f x ≡ t → p k x ≡ q k x) → has t (map f (chosen_lots p 0 T)) ≡ has t (map f (chosen_lots q 0 T))
  has_same p q same =
      same_from_decides (has t (map f (chosen_lots p 0 T))) (has t (map f (chosen_lots q 0 T))) (λ e. e, λ e. e)
      (has_into q p (λ k x e. sym (same k x e)), has_into p q same)
