-- Rows whose keys are numbers: which keys they have.
use Rattle.std.proofs.Common.{◌≡◌, ℕ, zero, suc, ◌<◌, true, false, ◌||◌, eqb, List, [], ◌∷◌, map, length, get_or, take, drop, Equal, sym, refl, ap, ◌∙◌, inl, inr, arith}
use Rattle.std.specs.List.{insert}
use Rattle.std.specs.Cmp.{nat_cmp_total}
use Rattle.std.proofs.lemmas.List.{map-append, take-append-drop}
use Rattle.std.proofs.lemmas.Bool.{false≢true, cases_Bool, or_cases, or_left, or_right, eqb-true, eq-eqb}
use Rattle.std.proofs.lemmas.Bool.Decides.{nat_tests}
use Rattle.std.specs.Ordering.{nat_cmp}
use Rattle.elastic.specs.Profile.{has}
use Rattle.row.specs.Rows.{Stands, Put, Seated}
use Rattle.row.specs.declared.row.Place.{Place}
use Rattle.row.specs.declared.row.Place.TheVariants.{Placed, Present, Full}
use Rattle.elastic.proofs.Counts.{has_between, has_known}

equal_rank : (x y : ℕ) → x ≡ y → nat_cmp x y ≡ Equal
equal_rank x y e = grind (arith, nat_tests)

rank_equal : (x y : ℕ) → nat_cmp x y ≡ Equal → x ≡ y
rank_equal x y e = grind (arith, nat_tests)

module _ {E : Type 0} (key : E → ℕ) where
  -- where a key stands
  pub key_place : (row : List E) (k : ℕ) → has k (map key row) ≡ true → (i : ℕ) × (i < length row) × ((d : E) → key (get_or row i d) ≡ k)
  key_place [] k h = absurd (false≢true h)
  key_place (x ∷ xs) k h = elim (or_cases (eqb k (key x)) (has k (map key xs)) h) [
    | inl e ↦ (0, omega arith, λ d. sym (eqb-true k (key x) e))
    | inr g ↦ let r = key_place xs k g in (suc r.0, omega (arith, r.1), r.2)
  ]

  pub key_has : (row : List E) (i k : ℕ) (d : E) → i < length row → key (get_or row i d) ≡ k → has k (map key row) ≡ true
  key_has [] i k d h e = absurd (omega arith)
  key_has (x ∷ xs) zero k d h e = or_left (eqb k (key x)) (has k (map key xs)) (eq-eqb k (key x) (sym e))
  key_has (x ∷ xs) (suc i) k d h e = or_right (eqb k (key x)) (has k (map key xs)) (key_has xs i k d (omega arith) e)

  pub keys_inserted : (row : List E) (e : E) (i t : ℕ) → has t (map key (insert row i e)) ≡ (eqb t (key e) || has t (map key row))
  keys_inserted row e i t =
      let joined = sym (map-append key (take i row) (drop i row)) ∙ ap (map key) (take-append-drop i row) in
      ap (has t) (map-append key (take i row) (e ∷ drop i row))
      ∙ has_between t (key e) (map key (take i row)) (map key (drop i row))
      ∙ ap (λ ts. eqb t (key e) || has t ts) joined

  module _ (row : List E) (k : ℕ) where
    pub key_stands : (i : ℕ) → Stands nat_cmp_total key k row i → (d : E) → key (get_or row i d) ≡ k
    key_stands i at d = rank_equal (key (get_or row i d)) k (at.1 d)

    pub stands_known : (i : ℕ) (d : E) → Stands nat_cmp_total key k row i → has k (map key row) ≡ true
    stands_known i d at = key_has row i k d at.0 (key_stands i at d)

    pub lacks_key : ((i : ℕ) → Stands nat_cmp_total key k row i → ⊥) → has k (map key row) ≡ false
    lacks_key lacks = elim (cases_Bool (has k (map key row))) [
      | inl h ↦ let r = key_place row k h in absurd (lacks r.0 (r.1, λ d. equal_rank _ _ (r.2 d)))
      | inr h ↦ h
    ]

  -- a put that finds a place adds the key, and no other
  pub keys_put : (most : ℕ) (e : E) (row row' : List E) (r : Place) → (r ≡ Full → ⊥) → Put most e row row' r → Seated nat_cmp_total key e row r → (t : ℕ) → has t (map key row') ≡ (eqb t (key e) || has t (map key row))
  keys_put most e row row' (Placed i) free put seated t = ap (λ xs. has t (map key xs)) put.2 ∙ keys_inserted row e i t
  keys_put most e row row' (Present i) free put seated t =
      ap (λ xs. has t (map key xs)) put.1 ∙ has_known t (key e) (map key row) (stands_known row (key e) i e seated)
  keys_put most e row row' Full free put seated t = absurd (free refl)
