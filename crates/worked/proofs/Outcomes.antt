-- What a rule makes of a table, found by computing it.
use Rattle.std.proofs.Common.{◌≡◌, ◌≢◌, ℕ, zero, suc, ◌&&◌, Bool, List, length, Some, None, Option, Decides, refl, ap, subst, ◌∙◌, ◌⊎◌, inl, inr}
use Rattle.std.specs.Prelude.{Ok, ◌==◌}
use Rattle.std.specs.Cmp.Lexicographic.{pointwise}
use Rattle.std.proofs.lemmas.Bool.Decides.{Decides-and, Decides-eqb}
use Rattle.std.proofs.lemmas.Slice.Eq.{slice_eq-Decides}
use Rattle.lots.specs.Limits.{horizon, max_capacity, max_lots}
use Rattle.lots.specs.Tables.{ect, LawfulLot, Lawful}
use Rattle.lots.specs.declared.Lot.{Lot}
use Rattle.rule.specs.Meanings.{Meaning, Outcome, dead, to, Applied}
use Rattle.lots.proofs.Tables.{lot_path}
use Rattle.rule.specs.Settled.{Moves, none, more, Settled}
use Rattle.rule.specs.declared.Verdict.{Verdict}
use Rattle.rule.specs.declared.Verdict.TheVariants.{Still, Moved, Dead}
use Rattle.worked.proofs.Found.{and_then, either_by, at_most, less, equal, of_each}

abbrev pub same_lot : Lot → Lot → Bool
same_lot x y = x.est == y.est && (x.lct == y.lct && (x.p == y.p && x.c == y.c))

pub same_lot_decides : (x y : Lot) → Decides (same_lot x y) (x ≡ y)
same_lot_decides x y =
    let trays = Decides-and (x.p == y.p) (x.c == y.c) (Decides-eqb x.p y.p) (Decides-eqb x.c y.c) in
    let window = Decides-and (x.lct == y.lct) (x.p == y.p && x.c == y.c) (Decides-eqb x.lct y.lct) trays in
    let all = Decides-and (x.est == y.est) (x.lct == y.lct && (x.p == y.p && x.c == y.c)) (Decides-eqb x.est y.est) window in
    (λ e. let f = all.0 e in lot_path x y f.0 f.1.0 f.1.1.0 f.1.1.1, λ e. all.1 (ap (λ z. z.est) e, (ap (λ z. z.lct) e, (ap (λ z. z.p) e, ap (λ z. z.c) e))))

-- whether two tables are the same
abbrev pub same? : (T U : List Lot) → (T ≡ U) ⊎ (T ≢ U)
same? T U = either_by (pointwise same_lot T U) (slice_eq-Decides same_lot_decides T U _ refl)

abbrev pub same : (T U : List Lot) → Option (T ≡ U)
same T U = elim (same? T U) [ inl e ↦ Some e | inr ne ↦ None ]

abbrev pub other : (T U : List Lot) → Option (T ≢ U)
other T U = elim (same? T U) [ inl e ↦ None | inr ne ↦ Some ne ]

abbrev pub lawful_lot : (C : ℕ) (x : Lot) → Option (LawfulLot C x)
lawful_lot C x =
    and_then (at_most 1 x.p) (λ runs. and_then (at_most 1 x.c) (λ takes. and_then (at_most x.c C) (λ has.
    and_then (at_most (ect x) x.lct) (λ fits. and_then (at_most x.lct horizon) (λ ends.
    Some (record { runs = runs; takes_trays = takes; has_trays = has; has_time = fits; in_week = ends }))))))

abbrev pub lawful : (C : ℕ) (T : List Lot) → Option (Lawful C T)
lawful C T =
    and_then (at_most 1 C) (λ some. and_then (at_most C max_capacity) (λ few. and_then (at_most (length T) max_lots) (λ lots.
    and_then (of_each (lawful_lot C) T) (λ each.
    Some (record { some_trays = some; few_trays = few; few_lots = lots; each = each })))))

module _ (m : Meaning) (C : ℕ) where
  abbrev pub answers : (T U : List Lot) (v : Verdict) → Lawful C T → (o : Outcome) → m C T ≡ o → Option (Applied m C T U (Ok v))
  answers T U Still ok (to V) e = and_then (same V T) (λ still. and_then (same U T) (λ left. Some (ok, (e ∙ ap to still, left))))
  answers T U Moved ok (to V) e = and_then (same V U) (λ comes. and_then (other U T) (λ moved. Some (ok, (e ∙ ap to comes, moved))))
  answers T U Dead ok dead e = and_then (same U T) (λ left. Some (ok, (e, left)))
  answers T U Still ok dead e = None
  answers T U Moved ok dead e = None
  answers T U Dead ok (to V) e = None

  -- one application
  abbrev pub application : (T U : List Lot) (v : Verdict) → Option (Applied m C T U (Ok v))
  application T U v = and_then (lawful C T) (λ ok. answers T U v ok (m C T) refl)

  abbrev pub moves_on : (T U : List Lot) (n : ℕ) → Moves m C T n U → (o : Outcome) → m C U ≡ o → Option ((V : List Lot) × Moves m C T (suc n) V)
  moves_on T U n h dead e = None
  moves_on T U n h (to V) e = and_then (other V U) (λ moved. Some (V, more h e moved))

  -- the table to which n moves lead
  abbrev pub moves : (T : List Lot) (n : ℕ) → Option ((U : List Lot) × Moves m C T n U)
  moves T zero = Some (T, none)
  moves T (suc n) = and_then (moves T n) (λ r. moves_on T r.0 n r.1 (m C r.0) refl)

  abbrev pub stays : (T : List Lot) (o : Outcome) → m C T ≡ o → Option (m C T ≡ to T)
  stays T dead e = None
  stays T (to V) e = and_then (same V T) (λ still. Some (e ∙ ap to still))

  abbrev pub dies : (T : List Lot) (o : Outcome) → m C T ≡ o → Option (m C T ≡ dead)
  dies T dead e = Some e
  dies T (to V) e = None

  -- applications until the rule is still or dead
  abbrev pub settles : (T U : List Lot) (v : Verdict) (k : ℕ) → Option (Settled m C T U v k)
  settles T U Still k = and_then (equal k 1) (λ once. and_then (stays T (m C T) refl) (λ still. and_then (same U T) (λ left. Some (once, still, left))))
  settles T U Moved zero = None
  settles T U Moved (suc n) =
      and_then (less 0 n) (λ some. and_then (moves T n) (λ r. and_then (same r.0 U) (λ comes. and_then (stays U (m C U) refl) (λ still.
      Some (n, some, refl, subst (Moves m C T n) comes r.1, still)))))
  settles T U Dead zero = None
  settles T U Dead (suc n) =
      and_then (moves T n) (λ r. and_then (dies r.0 (m C r.0) refl) (λ end. and_then (same U T) (λ left. Some (n, r.0, refl, r.1, end, left))))
