-- A profile that grows from latest end to latest end: which lots it has.
use Rattle.std.proofs.Common.{◌≡◌, ℕ, suc, ◌+◌, ◌<◌, ◌≤◌, Bool, true, false, if◌then◌else◌, ◌&&◌, ◌||◌, eqb, leb, List, [], ◌∷◌, length, get_or, take, sym, refl, ap, ap₂, ◌∙◌, inl, inr, add-zero, arith}
use Rattle.std.proofs.lemmas.List.{map_more, get_or-take, length-take-le}
use Rattle.std.proofs.Math.Bool.{or-false}
use Rattle.std.proofs.lemmas.Bool.Decides.{nat_tests}
use Rattle.std.proofs.lemmas.Bool.{cases_eq, cases_lt, false_from_ne_true, le-leb}
use Rattle.lots.specs.Tables.{lot_at}
use Rattle.lots.specs.declared.Lot.{Lot}
use Rattle.elastic.specs.Added.{table_of, marks_of, is_added, added_lots}
use Rattle.elastic.specs.Marked.{marked_lots}
use Rattle.elastic.specs.Profile.{has}
use Rattle.elastic.specs.declared.profile.Profile.{Profile}
use Rattle.elastic.proofs.Counts.{has_push}
use Rattle.elastic.proofs.Keys.{key_place, key_has}
use Rattle.elastic.proofs.Walks.{rank_less}
use Rattle.rules.specs.Chosen.{chosen_lots}
use Rattle.rules.specs.Overload.{due_lots}
use Rattle.rules.specs.Private.Ends.{end_minutes, end_at, DistinctEnds}
use Rattle.rules.specs.Private.Growing.{Grown}
use Rattle.rules.specs.declared.ends.End.{End}

-- the lots that are marked, where the marks are the answers of a test
marked_lots-chosen : (test : ℕ → Lot → Bool) (k : ℕ) (bs : List Bool) (T : List Lot) → ((j : ℕ) → j < length T → get_or bs j false ≡ test (k + j) (lot_at T j)) → marked_lots bs T ≡ chosen_lots test k T
marked_lots-chosen test k [] [] h = refl
marked_lots-chosen test k [] (x ∷ xs) h =
    let out : test k x ≡ false = sym (h 0 (omega arith) ∙ ap (λ n. test n x) (add-zero k)) in
    let rest = marked_lots-chosen test (suc k) [] xs (λ j l. h (suc j) (omega arith) ∙ ap (λ n. test n (lot_at xs j)) (omega arith)) in
    rest ∙ ap (λ b. if b then x ∷ chosen_lots test (suc k) xs else chosen_lots test (suc k) xs) (sym out)
marked_lots-chosen test k (b ∷ bs) [] h = refl
marked_lots-chosen test k (b ∷ bs) (x ∷ xs) h =
    let here : b ≡ test k x = h 0 (omega arith) ∙ ap (λ n. test n x) (add-zero k) in
    let rest = marked_lots-chosen test (suc k) bs xs (λ j l. h (suc j) (omega arith) ∙ ap (λ n. test n (lot_at xs j)) (omega arith)) in
    ap₂ (λ c ys. if c then x ∷ ys else ys) here rest

-- of the lots of T, a profile holds just those of which p holds and whose latest ends are among ts
abbrev pub Holds : List Lot → (ℕ → Lot → Bool) → List ℕ → Profile → Type 0
Holds T p ts profile = (k : ℕ) → k < length T → is_added profile k ≡ (p k (lot_at T k) && has (lot_at T k).lct ts)

or_and : (q a b : Bool) → ((q && a) || (q && b)) ≡ (q && (b || a))
or_and false a b = refl
or_and true false b = sym (or-false b)
or_and true true false = refl
or_and true true true = refl

module _ (T : List Lot) (p : ℕ → Lot → Bool) where
  -- one end more
  pub holds_more : (es : List End) (n : ℕ) → n < length es → (old new : Profile) (any : Bool) → Holds T p (end_minutes (take n es)) old → Grown T p (end_at es n).lct old new any → Holds T p (end_minutes (take (n + 1) es)) new
  holds_more es n l old new any holds grown k h =
      grown.added k h ∙ ap (λ b. b || (p k (lot_at T k) && eqb (lot_at T k).lct (end_at es n).lct)) (holds k h)
      ∙ or_and (p k (lot_at T k)) _ _
      ∙ ap (λ b. p k (lot_at T k) && b) (sym (ap (has (lot_at T k).lct) (map_more (λ (x : End). x.lct) es n _ l) ∙ has_push (lot_at T k).lct (end_at es n).lct (end_minutes (take n es))))

module _ (T : List Lot) (es : List End) (is : DistinctEnds T es) where
  pub end_rises : (n j : ℕ) → n < j → j < length es → (end_at es n).lct < (end_at es j).lct
  end_rises n j h l = rank_less (end_at es n).lct (end_at es j).lct (is.rising n j _ h l)

  no_earlier : (n j : ℕ) → n ≤ j → j < length es → (end_at es n).lct ≤ (end_at es j).lct
  no_earlier n j h l = elim (cases_eq n j) [
    | inl e ↦ omega (arith, ap (λ m. (end_at es m).lct) e)
    | inr ne ↦ omega (arith, end_rises n j (omega arith) l)
  ]

  -- a lot has one of the ends up to n where it must be out by the last of them
  ends_by : (n k : ℕ) → n < length es → k < length T → has (lot_at T k).lct (end_minutes (take (n + 1) es)) ≡ leb (lot_at T k).lct (end_at es n).lct
  ends_by n k l h =
      let c = (lot_at T k).lct in
      let place = key_place (λ (x : End). x.lct) es c (is.ends c ∙ key_has (λ (x : Lot). x.lct) T k c _ h refl) in
      let at : (end_at es place.0).lct ≡ c = place.2 _ in
      elim (cases_lt n place.0) [
        | inl late ↦
            let after : (end_at es n).lct < c = omega (arith, end_rises n place.0 late place.1, at) in
            let lacks : has c (end_minutes (take (n + 1) es)) ≡ false = false_from_ne_true _ (λ known.
            let r = key_place (λ (x : End). x.lct) (take (n + 1) es) c known in
            let low : r.0 < n + 1 = omega (arith, r.1, length-take-le (n + 1) es (omega arith)) in
            let there : (end_at es r.0).lct ≡ c = ap (λ (x : End). x.lct) (sym (get_or-take (n + 1) es r.0 _ low)) ∙ r.2 _ in
            omega (arith, end_rises r.0 place.0 (omega (arith, low, late)) place.1, there, at)) in
            grind (arith, nat_tests)
        | inr soon ↦
            let known = key_has (λ (x : End). x.lct) (take (n + 1) es) place.0 c _ (omega (arith, soon, length-take-le (n + 1) es (omega arith))) (ap (λ (x : End). x.lct) (get_or-take (n + 1) es place.0 _ (omega (arith, soon))) ∙ at) in
            known ∙ sym (le-leb c (end_at es n).lct (omega (arith, at, no_earlier place.0 n soon l)))
      ]

  -- so the profile has the lots of which q holds: p, and that they must be out by then
  module _ (p q : ℕ → Lot → Bool) (n : ℕ) (same : (k : ℕ) (x : Lot) → q k x ≡ (p k x && leb x.lct (end_at es n).lct)) where
    pub held_lots : n < length es → (profile : Profile) → (table_of profile).lots.now ≡ T → Holds T p (end_minutes (take (n + 1) es)) profile → added_lots profile ≡ chosen_lots q 0 T
    held_lots l profile table holds = ap (marked_lots (marks_of profile)) table ∙ marked_lots-chosen q 0 (marks_of profile) T (λ k h.
        holds k h ∙ ap (λ b. p k (lot_at T k) && b) (ends_by n k l h) ∙ sym (same k (lot_at T k)) ∙ ap (λ j. q j (lot_at T k)) (omega arith))

  -- all lots of these ends: those due by the last of them
  pub due_held : (n : ℕ) → n < length es → (profile : Profile) → (table_of profile).lots.now ≡ T → Holds T (λ k x. true) (end_minutes (take (n + 1) es)) profile → added_lots profile ≡ due_lots (end_at es n).lct T
  due_held n = held_lots (λ k x. true) (λ k x. leb x.lct (end_at es n).lct) n (λ k x. refl)
