-- Rows in the strict order of their keys.
use Rattle.std.proofs.Common.{◌≡◌, ℕ, ◌+◌, ◌-◌, ◌<◌, ◌≤◌, min, List, [], ◌∷◌, ◌++◌, length, get_or, take, drop, Result, Ok, Err, Ordering, Less, Greater, sym, refl, ap, ◌∙◌, subst, inl, inr, arith}
use Rattle.std.specs.Cmp.{IsTotalOrder}
use Rattle.std.specs.Ordering.{ordering_reverse, is_lt}
use Rattle.std.specs.List.{insert}
use Rattle.std.specs.List.Sorted.{IsSearchInRange, IsBinarySearchResult, IsSortedBy}
use Rattle.std.proofs.lemmas.List.Sorted.{searchable_from_sorted}
use Rattle.std.proofs.lemmas.List.Edits.{length-insert, get_or-insert_below, get_or-insert_at, get_or-insert_above}
use Rattle.std.proofs.lemmas.List.{length-take, take_all, take_at}
use Rattle.std.proofs.lemmas.Bool.{cases_lt, cases_order}
use Rattle.row.specs.Rows.{Ascending, Below, Above, Stands, Seated, Stored}
use Rattle.row.specs.Private.Search.{Sought}
use Rattle.row.specs.declared.row.Place.TheVariants.{Placed, Present, Full}

-- some element of a list that has one
some : {X : Type 0} (xs : List X) → 0 < length xs → X
some [] h = absurd (omega arith)
some (x ∷ xs) h = x

pub take_min : {X : Type 0} (xs : List X) (n m : ℕ) → m ≡ min n (length xs) → take m xs ≡ take n xs
take_min xs n m e = elim (cases_lt n (length xs)) [
  | inl l ↦ ap (λ k. take k xs) (omega arith)
  | inr g ↦ take_all m xs (omega arith) ∙ sym (take_all n xs g)
]

module _ {E K : Type 0} {R : K → K → Ordering} (o : IsTotalOrder R) (key : E → K) where
  flipped : (x y : K) (r : Ordering) → R x y ≡ r → R y x ≡ ordering_reverse r
  flipped x y r e = o.antisymm y x ∙ ap ordering_reverse e

  sorted : (row : List E) → Ascending o key row → IsSortedBy (λ a b. is_lt (R (key a) (key b))) row
  sorted row up i d low high = ap is_lt (flipped _ _ Less (up i (i + 1) d (omega arith) high))

  -- what a search by the key finds
  pub sought : (row : List E) (k : K) (r : Result ℕ ℕ) → IsSearchInRange r (length row) → IsBinarySearchResult (λ x. R (key x) k) row r → Ascending o key row → Sought o key k row r
  sought row k (Ok i) inside equal up = (inside, equal)
  sought row k (Err i) inside parted up =
      let point = parted (searchable_from_sorted o key row k (sorted row up)) in
      (inside, point.0, point.1)

  module _ (row : List E) (k : K) where
    -- a key with lower ones before a place and higher ones from it on stands nowhere
    pub nowhere : (i : ℕ) → Below o key k row i → Above o key k row i → (j : ℕ) → Stands o key k row j → ⊥
    nowhere i below above j at =
        let d = some row (omega (arith, at.0)) in
        let same = at.1 d in
        elim (cases_lt j i) [
          | inl l ↦ let other = below j d (omega arith) l in let z : ◌≡◌ {A = ℕ} 0 1 = cc in omega arith
          | inr g ↦ let other = above j d g at.0 in let z : ◌≡◌ {A = ℕ} 0 1 = cc in omega arith
        ]

  module _ (row : List E) (e : E) (i : ℕ) (up : Ascending o key row) (low : i ≤ length row) (below : Below o key (key e) row i) (above : Above o key (key e) row i) where
    -- before an element that was moved by one
    moved_ascends : (a b : ℕ) (d : E) → i ≤ b → a < b + 1 → b < length row → R (key (get_or (insert row i e) a d)) (key (get_or (insert row i e) (b + 1) d)) ≡ Less
    moved_ascends a b d g h l =
        let second = get_or-insert_above row i e d b g low in
        elim (cases_order a i) [
          | inl same ↦
              let first = ap (λ n. get_or (insert row i e) n d) same ∙ get_or-insert_at row i e d low in
              let less = flipped (key (get_or row b d)) (key e) Greater (above b d g l) in
              cc
          | inr (inl a_low) ↦
              let first = get_or-insert_below row i e d a a_low low in
              let less = up a b d (omega arith) l in
              cc
          | inr (inr a_high) ↦
              let before : a ≡ a - 1 + 1 = omega arith in
              let first = ap (λ n. get_or (insert row i e) n d) before ∙ get_or-insert_above row i e d (a - 1) (omega arith) low in
              let less = up (a - 1) b d (omega arith) l in
              cc
        ]

    pub ascending_inserted : Ascending o key (insert row i e)
    ascending_inserted a b d h l =
        let size = length-insert row i e low in
        elim (cases_order b i) [
          | inl same ↦
              let first = get_or-insert_below row i e d a (omega arith) low in
              let second = ap (λ n. get_or (insert row i e) n d) same ∙ get_or-insert_at row i e d low in
              let less = below a d (omega arith) (omega arith) in
              cc
          | inr (inl b_low) ↦
              let first = get_or-insert_below row i e d a (omega arith) low in
              let second = get_or-insert_below row i e d b b_low low in
              let less = up a b d h (omega arith) in
              cc
          | inr (inr b_high) ↦
              let before : b ≡ b - 1 + 1 = omega arith in
              let second = ap (λ n. get_or (insert row i e) n d) before in
              let less = moved_ascends a (b - 1) d (omega arith) (omega arith) (omega arith) in
              cc
        ]

  -- the place that was found for the key of e
  module _ (row : List E) (k : K) (e : E) (named : k ≡ key e) (i : ℕ) where
    pub seated_present : Sought o key k row (Ok i) → Seated o key e row (Present i)
    seated_present found = subst (λ q. Stands o key q row i) named found

    module _ (found : Sought o key k row (Err i)) where
      pub seated_placed : Seated o key e row (Placed i)
      seated_placed = subst (λ q. Below o key q row i × Above o key q row i) named (found.1, found.2)

      pub seated_full : Seated o key e row Full
      seated_full = nowhere row (key e) i seated_placed.0 seated_placed.1

  pub stored_ascends : (e : E) (row cells row' cells' : List E) (i : ℕ) → Stored e row cells row' cells' (Placed i) → Seated o key e row (Placed i) → Ascending o key row → Ascending o key row'
  stored_ascends e row cells row' cells' i s t up = subst (Ascending o key) (sym s.2) (ascending_inserted row e i up s.0 t.0 t.1)

-- what `put` leaves: the row is the first n of the cells, of which there are len
module _ {E : Type 0} (cells : List E) (n len : ℕ) (size : len ≡ min n (length cells)) (e : E) where
  row_length : length (take n cells) ≡ len
  row_length = length-take n cells ∙ sym size

  pub stored_full : len ≡ length cells → Stored e (take n cells) cells (take n cells) cells Full
  stored_full full = (row_length ∙ full, refl, refl)

  module _ (i : ℕ) (low : i ≤ length (take n cells)) (cells' : List E) (free : len ≡ length cells → ⊥) (made : cells' ≡ insert (take len cells) i e ++ drop (len + 1) cells) where
    cells_after : cells' ≡ insert (take n cells) i e ++ drop (length (take n cells) + 1) cells
    cells_after = let same = take_min cells n len size in let long = row_length in cc

    row_after : take (len + 1) cells' ≡ insert (take n cells) i e
    row_after =
        ap (take (len + 1)) cells_after
        ∙ take_at (insert (take n cells) i e) (drop (length (take n cells) + 1) cells) (len + 1) (omega (arith, length-insert (take n cells) i e low, row_length))

    pub stored_placed : Stored e (take n cells) cells (take (len + 1) cells') cells' (Placed i)
    stored_placed = (low, omega (arith, row_length, size), row_after, cells_after)

-- a row over lent cells is the first of them
pub same_before : {E : Type 0} (cells lent : List E) (len n : ℕ) → n ≡ len → lent ≡ cells → take n lent ≡ take len cells
same_before cells lent len n as_long as_lent = cc
