-- Counting the points that the added lots have.
use Rattle.std.proofs.Common.{◌≡◌, ℕ, ◌+◌, ◌<◌, Bool, true, false, if◌then◌else◌, ◌||◌, eqb, List, [], ◌∷◌, ◌++◌, length, get_or, set, replicate, sym, refl, ap, ◌∙◌, subst, inl, inr, arith}
use Rattle.std.proofs.lemmas.Bool.{cases_eq, or_left, eq-eqb, ne_eqb}
use Rattle.std.proofs.lemmas.List.{get_or-set_same, get_or-set_other}
use Rattle.lots.specs.declared.Lot.{Lot}
use Rattle.elastic.specs.Profile.{distinct, has, minutes}
use Rattle.elastic.specs.Private.Counted.{IsDistinct, Counted}
use Rattle.elastic.specs.Private.Points.{HasPlaces}
use Rattle.elastic.specs.declared.points.Places.{Places}
use Rattle.elastic.proofs.Profiles.{minutes_append}
use Rattle.elastic.proofs.Counts.{has_between, has_known, distinct_between}
use Rattle.elastic.proofs.Marked.{none_marked}

pub counted_none : (n : ℕ) (us : List ℕ) → Counted us [] (replicate n false) 0
counted_none n us = record { count = refl; at = λ i h. none_marked n i }

-- the minute of the place i, one more
module _ (us ts ts' : List ℕ) (marks : List Bool) (n i : ℕ) (different : IsDistinct us) (h : i < length us) (before : Counted us (ts ++ ts') marks n) where
  abbrev u : ℕ
  u = get_or us i 0

  one_more : n + (if has u (ts ++ ts') then 0 else 1) ≡ distinct (ts ++ (u ∷ ts'))
  one_more = ap (λ k. k + (if has u (ts ++ ts') then 0 else 1)) before.count ∙ sym (distinct_between ts ts' u)

  -- it was counted before
  pub counted_again : get_or marks i false ≡ true → Counted us (ts ++ (u ∷ ts')) marks n
  counted_again was =
      let known = sym (before.at i h) ∙ was in
      record {
        count = omega (arith, one_more, ap {B = ℕ} (λ b. if b then 0 else 1) known);
        at = λ j k. before.at j k ∙ has_known (get_or us j 0) u (ts ++ ts') known ∙ sym (has_between (get_or us j 0) u ts ts');
      }

  pub counted_first : get_or marks i false ≡ false → i < length marks → Counted us (ts ++ (u ∷ ts')) (set marks i true) (n + 1)
  counted_first was room =
      let unknown = sym (before.at i h) ∙ was in
      record {
        count = omega (arith, one_more, ap {B = ℕ} (λ b. if b then 0 else 1) unknown);
        at = λ j k. elim (cases_eq j i) [
          | inl same ↦
              ap (λ l. get_or (set marks i true) l false) same ∙ get_or-set_same marks i true false room
              ∙ sym (has_between (get_or us j 0) u ts ts' ∙ or_left (eqb (get_or us j 0) u) (has (get_or us j 0) (ts ++ ts')) (eq-eqb (get_or us j 0) u (ap (λ l. get_or us l 0) same)))
          | inr ne ↦
              get_or-set_other marks i j true false ne ∙ before.at j k
              ∙ sym (has_between (get_or us j 0) u ts ts' ∙ ap (λ b. b || has (get_or us j 0) (ts ++ ts')) (ne_eqb (get_or us j 0) u (λ e. ne (different j i k h e))))
        ];
      }

-- the minutes of a lot at their places
pub counted_lot : (us : List ℕ) (Ω Ψ : List Lot) (x : Lot) (q : Places) (marks : List Bool) (n : ℕ) → HasPlaces us x q → Counted us (minutes Ω ++ (get_or us q.est 0 ∷ (get_or us q.ect 0 ∷ (get_or us q.lct 0 ∷ minutes Ψ)))) marks n → Counted us (minutes (Ω ++ (x ∷ Ψ))) marks n
counted_lot us Ω Ψ x q marks n at =
    let there : minutes Ω ++ (get_or us q.est 0 ∷ (get_or us q.ect 0 ∷ (get_or us q.lct 0 ∷ minutes Ψ))) ≡ minutes (Ω ++ (x ∷ Ψ)) = rw (at.est.1, at.ect.1, at.lct.1) (sym (minutes_append Ω (x ∷ Ψ))) in
    subst (λ ts. Counted us ts marks n) there
