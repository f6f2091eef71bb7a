-- A search has one answer, and its numbers are small.
use Rattle.std.proofs.Common.{◌≡◌, ℕ, ◌≤◌, List, [], ◌∷◌, ◌++◌, length, take, drop, Ok, sym, refl, ap, subst, ◌∙◌, inl, inr, replicate, arith}
use Rattle.std.proofs.Math.Seq.{take-append_seam, drop-append_seam}
use Rattle.std.proofs.lemmas.Bool.{cases_lt}
use Rattle.std.specs.List.{AllByRecursion}
use Rattle.lots.specs.Checks.{Passed}
use Rattle.lots.specs.Limits.{horizon}
use Rattle.lots.specs.Schedules.{Placed, end}
use Rattle.lots.specs.Tables.{blank, LawfulLot, Lawful}
use Rattle.lots.specs.declared.Lot.{Lot}
use Rattle.rule.specs.Meanings.{Meaning, Sound}
use Rattle.tree.specs.Tree.{BestKnown, unknown, known, Visit, last_known}
use Rattle.tree.specs.Answer.{solve_checks, Told, Solved}
use Rattle.tree.specs.declared.Search.{Search}
use Rattle.tree.specs.declared.Search.TheVariants.{Best, None, Spent}
use Rattle.tree.proofs.Law.{tree_law}
use Rattle.tree.proofs.Tells.{found_best, found_length}

-- the starts of n lots that the answer tells of are the same
abbrev pub SameStarts : ℕ → List ℕ → List ℕ → Search → Type 0
SameStarts n us vs (Best e k) = take n us ≡ take n vs
SameStarts n us vs (None k) = Unit {0}
SameStarts n us vs (Spent k) = Unit {0}

told_one : (n B : ℕ) (bs : List BestKnown) (ss us ts vs : List ℕ) (a b : Search) → Told n B bs ss us a → Told n B bs ts vs b → (a ≡ b) × SameStarts n us vs a
told_one n B bs ss us ts vs (Best e k) (Best f j) p q =
    let ends : known (take n us) e ≡ known (take n vs) f = sym p.2 ∙ q.2 in
    let same : e ≡ f = cc in
    let count : k ≡ j = p.0 ∙ sym q.0 in
    (cc, cc)
told_one n B bs ss us ts vs (Best e k) (None j) p q = absurd (let other : known (take n us) e ≡ unknown = sym p.2 ∙ q.2 in cc)
told_one n B bs ss us ts vs (Best e k) (Spent j) p q = absurd (omega (arith, p.0, p.1, q.1))
told_one n B bs ss us ts vs (None k) (Best f j) p q = absurd (let other : known (take n vs) f ≡ unknown = sym q.2 ∙ p.2 in cc)
told_one n B bs ss us ts vs (None k) (None j) p q = (ap None (p.0 ∙ sym q.0), tt)
told_one n B bs ss us ts vs (None k) (Spent j) p q = absurd (omega (arith, p.0, p.1, q.1))
told_one n B bs ss us ts vs (Spent k) (Best f j) p q = absurd (omega (arith, q.0, q.1, p.1))
told_one n B bs ss us ts vs (Spent k) (None j) p q = absurd (omega (arith, q.0, q.1, p.1))
told_one n B bs ss us ts vs (Spent k) (Spent j) p q = (ap Spent (p.0 ∙ sym q.0), tt)

-- each start of a schedule of a lawful table is in the week, and so is its end
placed_in_week : (C : ℕ) (T : List Lot) (ss : List ℕ) → AllByRecursion (LawfulLot C) T → Placed T ss → AllByRecursion (λ s. s ≤ horizon) ss × (end T ss ≤ horizon)
placed_in_week C [] [] ok p = (tt, omega arith)
placed_in_week C [] (s ∷ ss) ok p = absurd p
placed_in_week C (x ∷ xs) [] ok p = absurd p
placed_in_week C (x ∷ xs) (s ∷ ss) ok p =
    let rest = placed_in_week C xs ss ok.1 p.1 in
    let week : x.lct ≤ horizon = ok.0.in_week in
    ((omega (arith, p.0.0, p.0.1), rest.0), omega (arith, p.0.1, rest.1))

-- what a search tells of is in the week, and within its budget
abbrev pub InWeek : ℕ → ℕ → List ℕ → Search → Type 0
InWeek n B us (Best e k) = (e ≤ horizon) × (k ≤ B) × AllByRecursion (λ s. s ≤ horizon) (take n us)
InWeek n B us (None k) = k ≤ B
InWeek n B us (Spent k) = k ≤ B

module _ (m : Meaning) (sound : Sound m) (C : ℕ) (T : List Lot) (ok : Lawful C T) (B : ℕ) where
  pub solved_one : (cs ds es fs : List Lot) (ss us ts vs : List ℕ) (a b : Search) → Solved m C T B cs ds ss us (Ok a) → Solved m C T B es fs ts vs (Ok b) → (a ≡ b) × SameStarts (length T) us vs a
  solved_one cs ds es fs ss us ts vs a b (p, (d, (bs, v, t))) (q, (f, (ks, w, u))) =
      let same : ks ≡ bs = (tree_law m sound C unknown T ok).one ks bs w v in
      told_one (length T) B bs ss us ts vs a b t (subst (λ js. Told (length T) B js ts vs b) same u)

  pub solved_in_week : (cs ds : List Lot) (ss us : List ℕ) (a : Search) → Solved m C T B cs ds ss us (Ok a) → InWeek (length T) B us a
  solved_in_week cs ds ss us (Best e k) (p, (d, (bs, v, t))) =
      let best = found_best m sound C T ok bs v (take (length T) us) e t.2 in
      let week = placed_in_week C T (take (length T) us) ok.each best.schedule.placed in
      (omega (arith, best.ends, week.1), t.1, week.0)
  solved_in_week cs ds ss us (None k) (p, (d, (bs, v, t))) = t.1
  solved_in_week cs ds ss us (Spent k) (p, (d, (bs, v, t))) = omega (arith, t.0)

  -- what a visit tells of, where n starts are written over ss
  abbrev Tells : ℕ → List BestKnown → List ℕ → Type 0
  Tells n bs ss = (us : List ℕ) × (a : Search) × Told n B bs ss us a

  tells : (bs : List BestKnown) → Visit m C unknown T bs → (ss : List ℕ) → length T ≤ length ss → length bs ≤ B → (b : BestKnown) → last_known unknown bs ≡ b → Tells (length T) bs ss
  tells bs v ss room within unknown is = (ss, None (length bs), (refl, within, is, refl))
  tells bs v ss room within (known ts e) is =
      let count : length ts ≡ length T = found_length m sound C T ok bs v ts e is in
      let us = ts ++ drop (length T) ss in
      let front : ts ≡ take (length T) us = sym (subst (λ n. take n us ≡ ts) count (take-append_seam ts (drop (length T) ss))) in
      let rest : drop (length T) us ≡ drop (length T) ss = subst (λ n. drop n us ≡ drop (length T) ss) count (drop-append_seam ts (drop (length T) ss)) in
      (us, Best e (length bs), (refl, within, is ∙ ap (λ xs. known xs e) front, rest))

  -- a search that is not refused has an answer
  pub solved_some : (cs : List Lot) (ss : List ℕ) → Passed (solve_checks (length T) B (length cs) (length ss)) → (us : List ℕ) × (a : Search) × Solved m C T B cs (replicate (length cs) blank) ss us (Ok a)
  solved_some cs ss passed =
      let visit = (tree_law m sound C unknown T ok).some in
      elim (cases_lt B (length visit.0)) [
        | inl spent ↦ (ss, Spent B, (passed, (refl, (visit.0, visit.1, (refl, spent, refl)))))
        | inr within ↦
            let told = tells visit.0 visit.1 ss (omega (arith, passed.1.1.0)) within (last_known unknown visit.0) refl in
            (told.0, told.1, (passed, (refl, (visit.0, visit.1, told.2))))
      ]
