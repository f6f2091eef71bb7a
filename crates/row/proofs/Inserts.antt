-- An element written after the first n of a list and turned to its place among them.
use Rattle.std.proofs.Common.{◌≡◌, ℕ, ◌+◌, ◌-◌, ◌<◌, ◌≤◌, List, [], ◌∷◌, ◌++◌, length, take, drop, set, sym, ap, ◌∙◌, subst, ap₂, arith}
use borrow.Rule.Slice.PartMut.{put_mid}
use Rattle.std.specs.List.{insert, between}
use Rattle.std.proofs.lemmas.List.{append_assoc, length-set, length-take-le, length-drop, length-append, get_or-set_same, take-set, take-set-le, take-take, take_at, drop_at, drop-drop, drop-set-lt}
use Rattle.std.proofs.lemmas.Slice.{between_is}
use Rattle.std.proofs.lemmas.List.Edits.{between_more}

module _ {X : Type 0} (xs : List X) (n i : ℕ) (e : X) (low : i ≤ n) (high : n < length xs) where
  -- the part that is turned: what stands from i on, and the new element after it
  part_is : between i (n + 1) (set xs n e) ≡ drop i (take n xs) ++ (e ∷ [])
  part_is =
      let more = between_more (set xs n e) i n e low (subst (λ m. n < m) (sym (length-set xs n e)) high) in
      let here = get_or-set_same xs n e e high in
      let front = between_is (set xs n e) i n ∙ ap (drop i) (take-set xs n e) in
      more ∙ ap₂ (λ ys y. ys ++ (y ∷ [])) front here

  front_length : length (drop i (take n xs)) ≡ n - i
  front_length = length-drop i (take n xs) ∙ ap (λ m. m - i) (length-take-le n xs (omega arith))

  turned : (ys part : List X) → part ≡ between i (n + 1) (set xs n e) → ys ≡ drop (length part - 1) part ++ take (length part - 1) part → ys ≡ e ∷ drop i (take n xs)
  turned ys part p t =
      let is = p ∙ part_is in
      let size : length (drop i (take n xs)) ≡ length part - 1 = omega (arith, ap length is, length-append (drop i (take n xs)) (e ∷ []), front_length) in
      let back = ap (drop (length part - 1)) is ∙ drop_at (drop i (take n xs)) (e ∷ []) (length part - 1) size in
      let front = ap (take (length part - 1)) is ∙ take_at (drop i (take n xs)) (e ∷ []) (length part - 1) size in
      t ∙ ap₂ ◌++◌ back front

  pub inserted_by_turn : (ys part : List X) → part ≡ between i (n + 1) (set xs n e) → ys ≡ drop (length part - 1) part ++ take (length part - 1) part
      → put_mid i (n + 1 - i) (set xs n e) ys ≡ insert (take n xs) i e ++ drop (n + 1) xs
  inserted_by_turn ys part p t =
      let front = take-set-le i xs n e low ∙ sym (take-take i n xs low) in
      let past : i + (n + 1 - i) ≡ n + 1 = omega arith in
      let back = drop-drop (n + 1 - i) i (set xs n e) ∙ ap (λ m. drop m (set xs n e)) past ∙ drop-set-lt (n + 1) xs n e (omega arith) in
      ap₂ ◌++◌ front (ap₂ ◌++◌ (turned ys part p t) back) ∙ sym (append_assoc (take i (take n xs)) (e ∷ drop i (take n xs)) (drop (n + 1) xs))
