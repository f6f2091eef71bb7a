-- Lots that have a schedule leave no overflow.
use Rattle.std.proofs.Common.{◌≡◌, ℕ, zero, suc, ◌+◌, ◌-◌, ◌*◌, ◌≤◌, min, Bool, true, false, if◌then◌else◌, List, [], ◌∷◌, refl, ap, ◌∙◌, ap₂, mul-le-mul_left, mul-zero, mul-one, mul-add, arith}
use Rattle.std.proofs.lemmas.Bool.Decides.{nat_tests}
use Rattle.lots.specs.Schedules.{spans, load, Placed, Schedule}
use Rattle.lots.specs.declared.Lot.{Lot}
use Rattle.lots.proofs.Schedules.{placed_fits}
use Rattle.elastic.specs.Profile.{latest, available, creq, overflow}
use Rattle.elastic.specs.Private.Walks.{rest}
use Rattle.elastic.proofs.Minutes.{overflow_rest}

-- how many of the p minutes from a are before t
abbrev done : ℕ → ℕ → ℕ → ℕ
done a p t = min p (t - a)

done_suc : (a p t : ℕ) → done a p (suc t) ≡ done a p t + (if spans a (a + p) t then 1 else 0)
done_suc a p t = grind (arith, nat_tests)

times_cond : (c n : ℕ) (b : Bool) → c * (n + (if b then 1 else 0)) ≡ c * n + (if b then c else 0)
times_cond c n true = omega (arith, mul-add c n 1, mul-one c)
times_cond c n false = omega (arith, mul-add c n 0, mul-zero c)

spans_inside : (a b d e t c : ℕ) → d ≤ a → b ≤ e → (if spans a b t then c else 0) ≤ (if spans d e t then c else 0)
spans_inside a b d e t c h k = grind (arith, nat_tests)

-- the work that is done before t
abbrev work : ℕ → List Lot → List ℕ → ℕ
work t [] ss = 0
work t (x ∷ xs) [] = 0
work t (x ∷ xs) (s ∷ ss) = x.c * done s x.p t + work t xs ss

work_suc : (t : ℕ) (Ω : List Lot) (ss : List ℕ) → work (suc t) Ω ss ≡ work t Ω ss + load t Ω ss
work_suc t [] ss = refl
work_suc t (x ∷ xs) [] = refl
work_suc t (x ∷ xs) (s ∷ ss) =
    let e = ap (λ n. x.c * n) (done_suc s x.p t) ∙ times_cond x.c (done s x.p t) (spans s (s + x.p) t) in
    omega (arith, e, work_suc t xs ss)

-- the earliest starts, of which creq is the load
abbrev ests : List Lot → List ℕ
ests [] = []
ests (x ∷ xs) = x.est ∷ ests xs

load_ests : (t : ℕ) (Ω : List Lot) → load t Ω (ests Ω) ≡ creq Ω t
load_ests t [] = refl
load_ests t (x ∷ xs) = omega (arith, load_ests t xs)

module _ (t : ℕ) where
  work_le : (Ω : List Lot) (ss : List ℕ) → Placed Ω ss → work t Ω ss ≤ work t Ω (ests Ω)
  work_le [] [] h = omega arith
  work_le [] (s ∷ ss) h = absurd h
  work_le (x ∷ xs) [] h = absurd h
  work_le (x ∷ xs) (s ∷ ss) h =
      let k : done s x.p t ≤ done x.est x.p t = omega arith in
      omega (arith, mul-le-mul_left x.c k, work_le xs ss h.1)

  -- from the latest lct on, all work is done
  work_all : (Ω : List Lot) (ss : List ℕ) → Placed Ω ss → latest Ω ≤ t → work t Ω ss ≡ work t Ω (ests Ω)
  work_all [] [] h l = refl
  work_all [] (s ∷ ss) h l = absurd h
  work_all (x ∷ xs) [] h l = absurd h
  work_all (x ∷ xs) (s ∷ ss) h l =
      let e : done s x.p t ≡ done x.est x.p t = omega arith in
      ap₂ (λ n m. x.c * n + m) e (work_all xs ss h.1 (omega arith))

  load_open : (Ω : List Lot) (ss : List ℕ) → Placed Ω ss → load t Ω ss ≤ available Ω t
  load_open [] [] h = omega arith
  load_open [] (s ∷ ss) h = absurd h
  load_open (x ∷ xs) [] h = absurd h
  load_open (x ∷ xs) (s ∷ ss) h =
      omega (arith, spans_inside s (s + x.p) x.est x.lct t x.c h.0.0 h.0.1, load_open xs ss h.1)

-- what is left over is at most the work that the schedule puts off
rest_work : (C : ℕ) (Ω : List Lot) (ss : List ℕ) → Schedule C Ω ss → (t : ℕ) → rest (λ u. C) Ω t + work t Ω ss ≤ work t Ω (ests Ω)
rest_work C Ω ss h zero = omega (arith, work_le 0 Ω ss h.placed)
rest_work C Ω ss h (suc t) =
    omega (
      arith,
      rest_work C Ω ss h t,
      work_le (suc t) Ω ss h.placed,
      work_suc t Ω ss,
      work_suc t Ω (ests Ω),
      load_ests t Ω,
      load_open t Ω ss h.placed,
      h.within t,
    )

pub overflow_of_schedulable : (C : ℕ) (Ω : List Lot) (ss : List ℕ) → Schedule C Ω ss → overflow C Ω ≡ 0
overflow_of_schedulable C Ω ss h =
    omega (
      arith,
      overflow_rest C Ω (placed_fits Ω ss h.placed),
      rest_work C Ω ss h (latest Ω),
      work_all (latest Ω) Ω ss h.placed (omega arith),
    )
