-- The trays that lots require if each starts at its est.
use Rattle.std.proofs.Common.{◌≡◌, ℕ, zero, suc, ◌+◌, ◌*◌, ◌<◌, ◌≤◌, max, if◌then◌else◌, List, [], ◌∷◌, ◌++◌, length, pos, ◌+ℤ◌, sym, refl, ap, ◌∙◌, inl, inr, arith}
use Rattle.std.proofs.lemmas.Int.{ints}
use Rattle.std.proofs.lemmas.Bool.{cases_eq, cases_lt}
use Rattle.std.proofs.ByRecursion.{All-weaker}
use Rattle.std.proofs.lemmas.Bool.Decides.{nat_tests}
use Rattle.lots.specs.Limits.{max_capacity, max_lots}
use Rattle.lots.specs.Schedules.{spans}
use Rattle.lots.specs.Tables.{ect, Fits, LawfulLot, Lawful}
use Rattle.lots.specs.declared.Lot.{Lot}
use Rattle.elastic.specs.Marked.{stand_in}
use Rattle.elastic.specs.Profile as profile
use Rattle.elastic.specs.Profile.{creq, latest, overflow, IsGreatest}
use Rattle.elastic.specs.Private.Points.{minutes_of, point_at, Profiles}
use Rattle.elastic.specs.Private.Walks.{usable, rest, reached, count_reached}
use Rattle.elastic.specs.declared.points.Point.{Point}
use Rattle.elastic.proofs.Minutes.{creq_late, overflow-stand_in}
use Rattle.elastic.proofs.Walks.{Between, counted, total_more, upto_between, count_few, creq_most}

-- how many points have come by t
come_later : (p : Point) (ps : List Point) (t : ℕ) → p.minute ≤ t → (j : ℕ) → j ≤ length ps → Between ps j t → (j : ℕ) × (j ≤ length (p ∷ ps)) × Between (p ∷ ps) j t
come_later p ps t late zero h b = (1, omega arith, record { from = omega (arith, late); below = λ l. b.below (omega arith) })
come_later p ps t late (suc j) h b = (suc (suc j), omega arith, record { from = b.from; below = λ l. b.below (omega arith) })

come_by : (ps : List Point) (t : ℕ) → (j : ℕ) × (j ≤ length ps) × Between ps j t
come_by [] t = (0, omega arith, record { from = omega arith; below = λ h. absurd (omega arith) })
come_by (p ∷ ps) t = elim (cases_lt t p.minute) [
  | inl early ↦ (0, omega arith, record { from = omega arith; below = λ h. early })
  | inr late ↦ let later = come_by ps t in come_later p ps t late later.0 later.1 later.2
]

module _ (T Ω : List Lot) (ps : List Point) (ok : Lawful max_capacity Ω) (p : Profiles ps T Ω) where
  -- at each minute as many are required as after some of the points
  required_by : (t : ℕ) → (j : ℕ) × (j ≤ length ps) × (creq Ω t ≡ count_reached (creq Ω) (minutes_of ps) j)
  required_by t =
      let found = come_by ps t in
      let there = upto_between (λ q. q.required) ps found.0 t found.1 p.gathers.rising found.2 in
      let here = counted (λ q. q.required) (creq Ω) ps p.changes.required p.gathers.rising found.0 found.1 in
      (found.0, found.1, omega (arith, ints, p.changes.required t, there, here))

  pub next_required : (j : ℕ) → j < length ps → pos (count_reached (creq Ω) (minutes_of ps) (suc j)) ≡ pos (count_reached (creq Ω) (minutes_of ps) j) +ℤ (point_at ps j).required
  next_required j h =
      counted (λ q. q.required) (creq Ω) ps p.changes.required p.gathers.rising (suc j) h ∙ total_more (λ q. q.required) ps j h
      ∙ ap (λ n. n +ℤ (point_at ps j).required) (sym (counted (λ q. q.required) (creq Ω) ps p.changes.required p.gathers.rising j (omega (arith, h))))

  pub required_few : (j : ℕ) → count_reached (creq Ω) (minutes_of ps) j ≤ max_capacity * max_lots
  required_few j = omega (arith, count_few (creq Ω) (max_capacity * length Ω) (λ t. creq_most t Ω ok.each) (minutes_of ps) j, ok.few_lots)

-- after j points r trays are required, and m is the most that were until then
pub record MostSoFar (Ω : List Lot) (us : List ℕ) (j r m : ℕ) : Type 0 where
  pub now : r ≡ count_reached (creq Ω) us j
  pub bound : (i : ℕ) → i ≤ j → count_reached (creq Ω) us i ≤ m
  pub some : (i : ℕ) × (count_reached (creq Ω) us i ≡ m)

none_before : (Ω : List Lot) (us : List ℕ) (i : ℕ) → i ≤ 0 → count_reached (creq Ω) us i ≤ 0
none_before Ω us zero h = omega arith
none_before Ω us (suc i) h = absurd (omega arith)

pub most_start : (Ω : List Lot) (us : List ℕ) → MostSoFar Ω us 0 0 0
most_start Ω us = record { now = refl; bound = none_before Ω us; some = (0, refl) }

pub most_more : (Ω : List Lot) (us : List ℕ) (j r m r' m' : ℕ) → MostSoFar Ω us j r m → r' ≡ count_reached (creq Ω) us (j + 1) → m' ≡ max r' m → MostSoFar Ω us (j + 1) r' m'
most_more Ω us j r m r' m' so_far is greater = record {
  now = is;
  bound = λ i h. elim (cases_eq i (j + 1)) [
    | inl e ↦ omega (arith, ap (count_reached (creq Ω) us) e, is, greater)
    | inr ne ↦ omega (arith, so_far.bound i (omega (arith, h, ne)), greater)
  ];
  some = elim (cases_lt r' m) [
    | inl h ↦ (so_far.some.0, omega (arith, so_far.some.1, greater))
    | inr h ↦ (j + 1, omega (arith, is, greater))
  ];
}

required_at : (Ω : List Lot) → Fits Ω → (us : List ℕ) (j : ℕ) → (t : ℕ) × (creq Ω t ≡ count_reached (creq Ω) us j)
required_at Ω ends us zero = (latest Ω, creq_late Ω (latest Ω) ends (omega arith))
required_at Ω ends us (suc j) = (reached us (suc j), refl)

pub most_all : (T Ω : List Lot) (ps : List Point) → Lawful max_capacity Ω → Profiles ps T Ω → (j r m : ℕ) → length ps ≤ j → MostSoFar Ω (minutes_of ps) j r m → IsGreatest (creq Ω) m
most_all T Ω ps ok p j r m all so_far =
    let ends = All-weaker _ _ (λ (x : Lot) (f : LawfulLot max_capacity x). f.has_time) Ω ok.each in
    let there = required_at Ω ends (minutes_of ps) so_far.some.0 in
    record {
      bound = λ t. let by = required_by T Ω ps ok p t in omega (arith, by.1, by.2, so_far.bound by.0 (omega (arith, by.1, all)));
      reached = (there.0, there.1 ∙ so_far.some.1);
    }

spans_longer : (a b d c t : ℕ) → b ≤ d → (if spans a b t then c else 0) ≤ (if spans a d t then c else 0)
spans_longer a b d c t h = grind (arith, nat_tests)

-- fewer available trays than required ones there are never
required_available : (Ω : List Lot) (t : ℕ) → Fits Ω → creq Ω t ≤ profile.available Ω t
required_available [] t h = omega arith
required_available (x ∷ xs) t h = omega (arith, required_available xs t h.1, spans_longer x.est (ect x) x.lct x.c t h.0)

-- where the required trays are within what can be used, nothing is ever left over
nothing_rests : (U : ℕ → ℕ) (Ω : List Lot) → Fits Ω → ((t : ℕ) → creq Ω t ≤ U t) → (t : ℕ) → rest U Ω t ≡ 0
nothing_rests U Ω ends within zero = refl
nothing_rests U Ω ends within (suc t) = omega (arith, nothing_rests U Ω ends within t, within t, required_available Ω t ends)

usable_enough : (C c m n t : ℕ) → n + c ≤ C → n ≤ usable C c m t
usable_enough C c m n t h = grind (arith, nat_tests)

pub nothing_left : (C c m : ℕ) (Ω : List Lot) → c ≤ C → Fits Ω → ((t : ℕ) → creq Ω t + c ≤ C) → overflow C (Ω ++ stand_in c m Ω) ≡ 0
nothing_left C c m Ω fits ends within =
    overflow-stand_in C c m fits Ω ends
    ∙ nothing_rests (usable C c m) Ω ends (λ t. usable_enough C c m (creq Ω t) t (within t)) (latest Ω)
