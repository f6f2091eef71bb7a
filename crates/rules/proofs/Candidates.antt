-- A candidate of not-first: its cuts as the profile grows, and the bounds that they put.
use Rattle.std.proofs.Common.{◌≡◌, ℕ, ◌+◌, ◌<◌, max, Bool, true, false, if◌then◌else◌, not, ◌&&◌, eqb, ltb, leb, List, length, take, sym, ap, ◌∙◌, arith}
use Rattle.std.proofs.Math.Bool.{and_assoc, and-true}
use Rattle.std.proofs.lemmas.Bool.{le-leb}
use Rattle.lots.specs.Tables.{ect, lot_at}
use Rattle.lots.specs.declared.Lot.{Lot}
use Rattle.lots.specs.declared.table.Table.{Table}
use Rattle.elastic.specs.Added.{table_of, added_lots}
use Rattle.elastic.specs.Profile.{has}
use Rattle.elastic.specs.declared.profile.Profile.{Profile}
use Rattle.rules.specs.Chosen.{chosen_lots, is_overfull}
use Rattle.rules.specs.NotFirst.{is_in_cut, least_ect, cut_with_stand_in}
use Rattle.rules.specs.Overload.{ends_of}
use Rattle.rules.specs.Private.Candidates.{own_table, lots_of, is_in_cuts, cut_of, bound_of_cut}
use Rattle.rules.specs.Private.Ends.{end_at, end_minutes, DistinctEnds}
use Rattle.rules.specs.declared.ends.End.{End}
use Rattle.rules.specs.declared.not_first.Candidate.{Candidate}
use Rattle.rules.proofs.ChosenLots.{has_same}
use Rattle.rules.proofs.Growing.{Holds, held_lots}
use Rattle.rules.proofs.Bounds.{end_bound, greatest_end_bound, greatest_more}

module _ (x : Candidate) where
  abbrev C : ℕ
  C = (own_table x).capacity

  abbrev T : List Lot
  T = lots_of x

  -- the test of its cut up to t
  abbrev test : ℕ → ℕ → Lot → Bool
  test t = is_in_cut x.number (lot_at T x.number).est t

  -- that is the test without the end, and that a lot must be out by it
  in_cuts : (t k : ℕ) (y : Lot) → test t k y ≡ (is_in_cuts x k y && leb y.lct t)
  in_cuts t k y = ap (λ (z : Lot). is_in_cut x.number z.est t k y) (sym x.own) ∙ sym (and_assoc (not (eqb k x.number)) (ltb x.lot.est (ect y)) (leb y.lct t))

  -- whether a lot of this cut has the end t
  has_end : (t : ℕ) → has t (ends_of (cut_of x t)) ≡ has t (ends_of (chosen_lots (is_in_cuts x) 0 T))
  has_end t = has_same (λ (y : Lot). y.lct) t T (test t) (is_in_cuts x) (λ k y e.
      in_cuts t k y ∙ ap (λ b. is_in_cuts x k y && b) (le-leb y.lct t (omega (arith, e))) ∙ and-true (is_in_cuts x k y))

  bound_where : (t : ℕ) (any : Bool) → has t (ends_of (cut_of x t)) ≡ any → end_bound C T x.number t ≡ (if any then bound_of_cut x t else 0)
  bound_where t true e = ap (λ b. if b && is_overfull C (cut_with_stand_in T x.number t) then least_ect (cut_of x t) else 0) e
  bound_where t false e = ap (λ b. if b && is_overfull C (cut_with_stand_in T x.number t) then least_ect (cut_of x t) else 0) e

  module _ (es : List End) (n : ℕ) (h : n < length es) where
    -- the lots of the ends up to n are its cut up to that end
    pub cut_held : DistinctEnds T es → (profile : Profile) → table_of profile ≡ own_table x → Holds T (is_in_cuts x) (end_minutes (take (n + 1) es)) profile → added_lots profile ≡ cut_of x (end_at es n).lct
    cut_held is profile at = held_lots T es is (is_in_cuts x) (test (end_at es n).lct) n (in_cuts (end_at es n).lct) h profile (ap (λ (t : Table). t.lots.now) at)

    -- the greatest bound, one end more, by whether a lot of the cut has it
    pub bound_more : (any : Bool) → any ≡ has (end_at es n).lct (ends_of (chosen_lots (is_in_cuts x) 0 T)) → greatest_end_bound C T x.number (end_minutes (take (n + 1) es)) ≡ max (greatest_end_bound C T x.number (end_minutes (take n es))) (if any then bound_of_cut x (end_at es n).lct else 0)
    bound_more any is =
        greatest_more C T x.number es n h
        ∙ ap (max (greatest_end_bound C T x.number (end_minutes (take n es)))) (bound_where (end_at es n).lct any (has_end (end_at es n).lct ∙ sym is))
