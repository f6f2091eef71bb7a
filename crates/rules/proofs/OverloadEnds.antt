-- Overload, asked once for each distinct latest end.
use Rattle.std.proofs.Common.{◌≡◌, ℕ, ◌+◌, ◌<◌, true, false, ◌||◌, eqb, List, [], ◌∷◌, length, take, sym, refl, ap, ap₂, ◌∙◌, subst, inl, inr}
use Rattle.std.proofs.lemmas.Bool.{or_cases, or_left, or_right, eqb-true, eq-eqb, false≢true}
use Rattle.lots.specs.declared.Lot.{Lot}
use Rattle.lots.specs.declared.table.Table.{Table}
use Rattle.elastic.specs.Added.{table_of, added_lots}
use Rattle.elastic.specs.Profile.{has, overflow}
use Rattle.elastic.specs.declared.profile.Profile.{Profile}
use Rattle.elastic.proofs.Keys.{key_place, key_has}
use Rattle.rules.specs.Chosen.{is_overfull}
use Rattle.rules.specs.Private.Ends.{end_at, end_minutes, DistinctEnds}
use Rattle.rules.specs.Overload.{ends_of, due_lots, some_overfull}
use Rattle.rules.specs.declared.ends.End.{End}
use Rattle.rules.proofs.Growing.{Holds, due_held}

module _ (C : ℕ) (T : List Lot) where
  some_from : (ts : List ℕ) (t : ℕ) → has t ts ≡ true → is_overfull C (due_lots t T) ≡ true → some_overfull C T ts ≡ true
  some_from [] t h full = absurd (false≢true h)
  some_from (u ∷ us) t h full = elim (or_cases (eqb t u) (has t us) h) [
    | inl e ↦ or_left (is_overfull C (due_lots u T)) (some_overfull C T us) (subst (λ v. is_overfull C (due_lots v T) ≡ true) (eqb-true t u e) full)
    | inr g ↦ or_right (is_overfull C (due_lots u T)) (some_overfull C T us) (some_from us t g full)
  ]

  none_from : (ts : List ℕ) → ((t : ℕ) → has t ts ≡ true → is_overfull C (due_lots t T) ≡ false) → some_overfull C T ts ≡ false
  none_from [] h = refl
  none_from (t ∷ ts) h =
      ap (λ b. b || some_overfull C T ts) (h t (or_left (eqb t t) (has t ts) (eq-eqb t t refl)))
      ∙ none_from ts (λ u g. h u (or_right (eqb u t) (has u ts) g))

module _ (table : Table) (es : List End) (is : DistinctEnds table.lots.now es) where
  abbrev C : ℕ
  C = table.capacity

  abbrev T : List Lot
  T = table.lots.now

  abbrev due : ℕ → List Lot
  due n = due_lots (end_at es n).lct T

  -- it matters which minutes there are, and not how often or in which order
  pub some_at : (n : ℕ) → n < length es → is_overfull C (due n) ≡ true → some_overfull C T (ends_of T) ≡ true
  some_at n h full = some_from C T (ends_of T) (end_at es n).lct (sym (is.ends _) ∙ key_has (λ (x : End). x.lct) es n _ _ h refl) full

  pub none_at : ((n : ℕ) → n < length es → is_overfull C (due n) ≡ false) → some_overfull C T (ends_of T) ≡ false
  none_at h = none_from C T (ends_of T) (λ t g.
      let r = key_place (λ (x : End). x.lct) es t (is.ends t ∙ g) in
      subst (λ u. is_overfull C (due_lots u T) ≡ false) (r.2 _) (h r.0 r.1))

  -- what is left over in the profile of the ends up to n
  pub left_due : (n : ℕ) → n < length es → (profile : Profile) → table_of profile ≡ table → Holds T (λ k x. true) (end_minutes (take (n + 1) es)) profile → (left : ℕ) → left ≡ overflow (table_of profile).capacity (added_lots profile) → left ≡ overflow C (due n)
  left_due n h profile at holds left told =
      let held = due_held T es is n h profile (ap (λ (t : Table). t.lots.now) at) holds in
      told ∙ ap₂ (λ (t : Table) xs. overflow t.capacity xs) at held
