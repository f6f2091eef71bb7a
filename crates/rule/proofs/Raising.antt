-- Raising lot by lot is raising all.
use Rattle.std.proofs.Common.{◌≡◌, ◌≢◌, ℕ, suc, ◌+◌, ◌<◌, ◌≤◌, true, if◌then◌else◌, ◌&&◌, leb, List, [], ◌∷◌, length, drop, set, sym, refl, ap, ap₂, ◌∙◌, subst, add-zero, zero-add, add-one, get_or-set_same, get_or-set_other, below_more, arith}
use Rattle.std.proofs.lemmas.List.{at_drop_more}
use Rattle.lots.specs.Tables.{ect, lot_at}
use Rattle.lots.specs.declared.Lot.{Lot}
use Rattle.rule.specs.Meanings.{dead, to, IsVerdictOn}
use Rattle.rule.specs.Raised.{later_lot, later_lots, all_fit, raise}
use Rattle.rule.specs.declared.Verdict.{Verdict}
use Rattle.rule.specs.declared.Verdict.TheVariants.{Still, Moved, Dead}
use Rattle.lots.proofs.Tables.{lot_path}

-- whether a table is another one so far
abbrev pub Changed : Verdict → List Lot → List Lot → Type 0
Changed Still T U = U ≡ T
Changed Moved T U = U ≡ T → ⊥
Changed Dead T U = ⊥

-- the loop that tests, one lot more
pub fit_more : (bound : ℕ → ℕ) (T : List Lot) (i : ℕ) → i < length T → all_fit (later_lots bound i (drop i T)) ≡ (leb (ect (later_lot (bound i) (lot_at T i))) (lot_at T i).lct && all_fit (later_lots bound (i + 1) (drop (i + 1) T)))
fit_more bound T i h =
    at_drop_more (λ xs. all_fit (later_lots bound i xs)) T i _ h
    ∙ ap (λ n. leb (ect (later_lot (bound i) (lot_at T i))) (lot_at T i).lct && all_fit (later_lots bound n (drop (i + 1) T))) (sym (add-one i))

-- the first i lots start at their bound or later, and the others are as they were
pub record RaisedUpTo (bound : ℕ → ℕ) (T U : List Lot) (i : ℕ) : Type 0 where
  pub raised : (j : ℕ) → j < i → lot_at U j ≡ later_lot (bound j) (lot_at T j)
  pub rest : (j : ℕ) → i ≤ j → lot_at U j ≡ lot_at T j

-- the loop that writes, one lot more: q is the bound, and V the table after the turn
module _ {bound : ℕ → ℕ} {T U V : List Lot} {i q : ℕ} (r : RaisedUpTo bound T U i) (h : i < length U) (is : q ≡ bound i) where
  raised_more : (z : Lot) → V ≡ set U i z → z ≡ later_lot (bound i) (lot_at U i) → RaisedUpTo bound T V (i + 1)
  raised_more z made new = record {
    raised = below_more _ _ (λ j k. let ne : j ≢ i = omega arith in rw (made, get_or-set_other) (r.raised j k))
        (rw (made, get_or-set_same, new, r.rest i (omega arith)) refl);
    rest = λ j k. let ne : j ≢ i = omega arith in rw (made, get_or-set_other) (r.rest j (omega arith));
  }

  pub kept_later : q ≤ (lot_at U i).est → V ≡ set U i (lot_at U i) → RaisedUpTo bound T V (i + 1)
  kept_later low made = raised_more _ made (lot_path _ _ (omega arith) refl refl refl)

  module _ (high : (lot_at U i).est < q) (made : V ≡ set U i (record { est = q; lct = (lot_at U i).lct; p = (lot_at U i).p; c = (lot_at U i).c })) where
    pub moved_later : RaisedUpTo bound T V (i + 1)
    moved_later = raised_more _ made (lot_path _ _ (omega arith) refl refl refl)

    pub moved_other : V ≡ T → ⊥
    moved_other same =
        let there = get_or-set_same U i (record { est = q; lct = (lot_at U i).lct; p = (lot_at U i).p; c = (lot_at U i).c }) _ h in
        let start = ap (λ (x : Lot). x.est) (sym there ∙ ap (λ xs. lot_at xs i) (sym made ∙ same) ∙ sym (r.rest i (omega arith))) in
        omega arith

-- lots that each start at their bound or later
each_later : (bound : ℕ → ℕ) (k : ℕ) (T U : List Lot) → length U ≡ length T → ((j : ℕ) → j < length T → lot_at U j ≡ later_lot (bound (k + j)) (lot_at T j)) → U ≡ later_lots bound k T
each_later bound k [] [] same each = refl
each_later bound k [] (y ∷ ys) same each = absurd (omega arith)
each_later bound k (x ∷ xs) [] same each = absurd (omega arith)
each_later bound k (x ∷ xs) (y ∷ ys) same each =
    ap₂ ◌∷◌ (rw add-zero at (each 0 (omega arith)))
    (each_later bound (suc k) xs ys (omega arith) (λ j h. subst (λ n. lot_at ys j ≡ later_lot (bound n) (lot_at xs j)) (omega arith) (each (suc j) (omega arith))))

-- the whole table was gone through
pub verdict_from_changed : {bound : ℕ → ℕ} {T U : List Lot} {i : ℕ} (v : Verdict) → RaisedUpTo bound T U i → length T ≤ i → length U ≡ length T → all_fit (later_lots bound 0 T) ≡ true → Changed v T U → IsVerdictOn (raise bound T) T U v
verdict_from_changed {bound} {T} {U} v r done same fit changed = answered v changed
  where
    whole : U ≡ later_lots bound 0 T
    whole = each_later bound 0 T U same (λ j h. rw zero-add (r.raised j (omega arith)))

    gives : raise bound T ≡ to U
    gives = ap (λ b. if b then to (later_lots bound 0 T) else dead) fit ∙ ap to (sym whole)

    answered : (v : Verdict) → Changed v T U → IsVerdictOn (raise bound T) T U v
    answered Still same = (gives ∙ ap to same, same)
    answered Moved other = (gives, other)
    answered Dead none = absurd none
