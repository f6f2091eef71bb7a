-- Each worked case, found to hold by computing it.
use Rattle.std.proofs.Common.{◌≡◌, ℕ, ◌+◌, ◌*◌, ◌<◌, ◌≤◌, List, [], ◌∷◌, ◌++◌, length, drop, Some, None as Nothing, Option, refl, sym, ap, ap₂, ◌∙◌, subst, arith}
use Rattle.std.specs.Cmp.Lexicographic.{pointwise}
use Rattle.std.specs.Prelude.{nat_eq}
use Rattle.std.proofs.Math.Seq.{take-append_seam, drop-append_seam}
use Rattle.std.proofs.lemmas.Bool.Decides.{Decides-eqb}
use Rattle.std.proofs.lemmas.Slice.Eq.{slice_eq-Decides}
use Rattle.lots.specs.declared.Lot.{Lot}
use Rattle.elastic.specs.Profile.{overflow, points}
use Rattle.rule.specs.Meanings.{Meaning}
use Rattle.rule.specs.Settled.{slack}
use Rattle.rules.specs.TimeTable.{some_below, after_last}
use Rattle.tree.specs.Answer.{Told}
use Rattle.tree.specs.Tree.{ways, BestKnown, unknown, known, last_known, Visit}
use Rattle.tree.specs.declared.Search.{Search}
use Rattle.tree.specs.declared.Search.TheVariants.{Best, None, Spent}
use Rattle.worked.specs.Cases.{Case, overflow_is, applied, tightened, ways_are, solved, Holds, worked_cases, AllHold}
use Rattle.worked.proofs.Found.{found, and_then, by_yes, at_most, less, equal, of_each}
use Rattle.worked.proofs.Outcomes.{lawful, application, settles}
use Rattle.worked.proofs.Visits.{visit}

abbrev same_numbers : (xs ys : List ℕ) → Option (xs ≡ ys)
same_numbers xs ys = by_yes (pointwise nat_eq xs ys) (slice_eq-Decides Decides-eqb xs ys _ refl).0

abbrev is_known : (b : BestKnown) (us : List ℕ) (e : ℕ) → Option (b ≡ known us e)
is_known unknown us e = Nothing
is_known (known vs d) us e = and_then (same_numbers vs us) (λ s. and_then (equal d e) (λ t. Some (ap₂ known s t)))

abbrev is_unknown : (b : BestKnown) → Option (b ≡ unknown)
is_unknown unknown = Some refl
is_unknown (known vs d) = Nothing

-- what the place for starts holds after us was written: the rest is as it was
abbrev Writes : ℕ → ℕ → List BestKnown → List ℕ → Search → Type 0
Writes n B bs us a = (ss : List ℕ) → Told n B bs ss (us ++ drop (length us) ss) a

best_written : (B : ℕ) (bs : List BestKnown) (us : List ℕ) (e k : ℕ) → k ≡ length bs → k ≤ B → last_known unknown bs ≡ known us e → Writes (length us) B bs us (Best e k)
best_written B bs us e k all few best ss =
    (all, few, best ∙ ap (λ vs. known vs e) (sym (take-append_seam us (drop (length us) ss))), drop-append_seam us (drop (length us) ss))

abbrev writes : (n B : ℕ) (bs : List BestKnown) (us : List ℕ) (a : Search) → Option (Writes n B bs us a)
writes n B bs us (Best e k) =
    and_then (equal k (length bs)) (λ all. and_then (at_most k B) (λ few. and_then (is_known (last_known unknown bs) us e) (λ best. and_then (equal (length us) n) (λ count.
    Some (subst (λ i. Writes i B bs us (Best e k)) count (best_written B bs us e k all few best))))))
writes n B bs [] (None k) =
    and_then (equal k (length bs)) (λ all. and_then (at_most k B) (λ few. and_then (is_unknown (last_known unknown bs)) (λ hopeless.
    Some (λ ss. (all, few, hopeless, refl)))))
writes n B bs (u ∷ us) (None k) = Nothing
writes n B bs [] (Spent k) = and_then (equal k B) (λ all. and_then (less B (length bs)) (λ more. Some (λ ss. (all, more, refl))))
writes n B bs (u ∷ us) (Spent k) = Nothing

solved_by : (m : Meaning) (C : ℕ) (T : List Lot) (B : ℕ) (a : Search) (us : List ℕ) → 0 < B → (bs : List BestKnown) → Visit m C unknown T bs → Writes (length T) B bs us a → Holds (solved m C T B a us)
solved_by m C T B a us some bs v w cs ss trail places =
    (((λ e. omega arith), ((λ h. omega arith), ((λ h. omega arith), tt))), (refl, (bs, v, w ss)))

abbrev tried : (x : Case) → Option (Holds x)
tried (overflow_is C T left count) =
    and_then (lawful C T) (λ ok. and_then (equal left (overflow C T)) (λ l. and_then (equal count (points T)) (λ c. Some (ok, l, c))))
tried (applied m C T v U) = application m C T U v
tried (tightened m C T v k U) =
    and_then (settles m C T U v k) (λ s. and_then (at_most k (1 + slack T)) (λ few. Some (record { same_capacity = refl; settled = s; few = few })))
tried (ways_are T n) = equal (ways T) n
tried (solved m C T B a us) =
    and_then (less 0 B) (λ some. and_then (visit m C (2 * ways T) unknown T) (λ v. and_then (writes (length T) B v.0 us a) (λ w.
    Some (solved_by m C T B a us some v.0 v.1 w))))

pub all_hold : AllHold
unfolding some_below after_last
all_hold = found (of_each tried worked_cases) refl
