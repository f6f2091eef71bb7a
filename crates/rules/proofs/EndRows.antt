-- Latest ends gathered from the front of a table.
use Rattle.std.proofs.Common.{◌≡◌, ℕ, ◌+◌, ◌<◌, ◌≤◌, false, ◌||◌, eqb, List, [], length, take, sym, refl, ap, ◌∙◌, subst, arith}
use Rattle.std.specs.Cmp.{nat_cmp_total}
use Rattle.std.specs.List.{AllByRecursion}
use Rattle.std.proofs.lemmas.List.Edits.{length-insert}
use Rattle.std.proofs.ByRecursion.{All-append, All-take, All-drop}
use Rattle.std.proofs.lemmas.List.{take_all, map_more, get_or-take, length-take-le}
use Rattle.std.proofs.lemmas.Bool.{both_ways}
use Rattle.lots.specs.Limits.{max_lots}
use Rattle.lots.specs.Tables.{lot_at}
use Rattle.lots.specs.declared.Lot.{Lot}
use Rattle.elastic.specs.Profile.{has}
use Rattle.row.specs.Rows.{Ascending, Put, Seated}
use Rattle.row.specs.declared.row.Place.{Place}
use Rattle.row.specs.declared.row.Place.TheVariants.{Placed, Present, Full}
use Rattle.elastic.proofs.Counts.{has_push}
use Rattle.elastic.proofs.Keys.{key_has, keys_put, lacks_key}
use Rattle.row.proofs.Rows.{nowhere}
use Rattle.rules.specs.Private.Ends.{end_minutes, Lowest, DistinctEnds}
use Rattle.rules.specs.Overload.{ends_of}
use Rattle.rules.specs.declared.ends.End.{End}

abbrev end_of : End → ℕ
end_of x = x.lct

-- es are the distinct latest ends of the first i lots of T
pub record SoFar (T : List Lot) (i : ℕ) (es : List End) : Type 0 where
  pub rising : Ascending nat_cmp_total end_of es
  pub ends : (t : ℕ) → has t (end_minutes es) ≡ has t (ends_of (take i T))
  pub each : AllByRecursion (Lowest T) es
  pub few : length es ≤ i

module _ (T : List Lot) (i : ℕ) (h : i < length T) (es : List End) (g : SoFar T i es) where
  abbrev next : End
  next = record { lct = (lot_at T i).lct; lot = i }

  ends_more : (t : ℕ) → has t (ends_of (take (i + 1) T)) ≡ (eqb t (lot_at T i).lct || has t (ends_of (take i T)))
  ends_more t = ap (has t) (map_more (λ (x : Lot). x.lct) T i _ h) ∙ has_push t (lot_at T i).lct (ends_of (take i T))

  -- an end that no lot before has is lowest here
  lowest_here : has (lot_at T i).lct (end_minutes es) ≡ false → Lowest T next
  lowest_here new = record {
    is_lot = h;
    has_end = refl;
    lowest = λ k l same.
        let there = ap (λ (x : Lot). x.lct) (get_or-take i T k _ l) ∙ same in
        let known = key_has (λ (x : Lot). x.lct) (take i T) k (lot_at T i).lct _ (omega (arith, length-take-le i T (omega arith))) there in
        both_ways _ new (g.ends (lot_at T i).lct ∙ known);
  }

  module _ (es' : List End) (up : Ascending nat_cmp_total end_of es') where
    each_more : (r : Place) → Put max_lots next es es' r → Seated nat_cmp_total end_of next es r → AllByRecursion (Lowest T) es'
    each_more (Placed n) put seated =
        let lacks = nowhere nat_cmp_total end_of es (lot_at T i).lct n seated.0 seated.1 in
        subst (AllByRecursion (Lowest T)) (sym put.2)
        (All-append (Lowest T) (take n es) _ (All-take (Lowest T) n es g.each) (lowest_here (lacks_key end_of es (lot_at T i).lct lacks), All-drop (Lowest T) n es g.each))
    each_more (Present n) put seated = subst (AllByRecursion (Lowest T)) (sym put.1) g.each
    each_more Full put seated = subst (AllByRecursion (Lowest T)) (sym put.1) g.each

    few_more : (r : Place) → Put max_lots next es es' r → length es' ≤ i + 1
    few_more (Placed n) put = omega (arith, ap length put.2, length-insert es n next put.0, g.few)
    few_more (Present n) put = omega (arith, ap length put.1, g.few)
    few_more Full put = omega (arith, ap length put.1, g.few)

    -- fewer ends than lots came, so there is room
    not_full : length T ≤ max_lots → (r : Place) → Put max_lots next es es' r → r ≡ Full → ⊥
    not_full few r put e = let full = subst (Put max_lots next es es') e put in omega (arith, full.0, g.few, few, h)

    pub so_far_more : length T ≤ max_lots → (r : Place) → Put max_lots next es es' r → Seated nat_cmp_total end_of next es r → SoFar T (i + 1) es'
    so_far_more few r put seated = record {
      rising = up;
      ends = λ t. keys_put end_of max_lots next es es' r (not_full few r put) put seated t ∙ ap (λ b. eqb t (lot_at T i).lct || b) (g.ends t) ∙ sym (ends_more t);
      each = each_more r put seated;
      few = few_more r put;
    }

pub so_far_none : (T : List Lot) → SoFar T 0 []
so_far_none T = record { rising = λ a b d l k. absurd (omega arith); ends = λ t. refl; each = tt; few = omega arith }

pub ends_from_so_far : (T : List Lot) (i : ℕ) (es : List End) → length T ≤ i → SoFar T i es → DistinctEnds T es
ends_from_so_far T i es done g = record {
  rising = g.rising;
  ends = λ t. g.ends t ∙ ap (λ xs. has t (ends_of xs)) (take_all i T done);
  each = g.each;
}
