-- What is kept of a walk as lots come in, and as it goes over to another lot beside.
use Rattle.std.proofs.Common.{◌≡◌, ℕ, zero, suc, ◌+◌, ◌-◌, ◌<◌, ◌≤◌, min, max, true, eqb, List, [], ◌∷◌, ◌++◌, length, get_or, sym, refl, ap, ◌∙◌, subst, inl, inr, arith}
use Rattle.std.proofs.lemmas.List.{length-map, get_or-map}
use Rattle.std.proofs.lemmas.Bool.{cases_eq, cases_lt, or_left, or_right, eq-eqb}
use Rattle.std.proofs.lemmas.Bool.Decides.{nat_tests}
use Rattle.std.proofs.ByRecursion.{All-weaker}
use Rattle.lots.specs.Limits.{max_capacity}
use Rattle.lots.specs.Tables.{ect, Fits, LawfulLot}
use Rattle.lots.specs.declared.Lot.{Lot}
use Rattle.lots.specs.declared.table.Table.{Table}
use Rattle.lots.proofs.Tables.{lawful_under_most}
use Rattle.elastic.specs.Marked.{stand_in}
use Rattle.elastic.specs.Profile as profile
use Rattle.elastic.specs.Profile.{creq, has, latest, minutes, overflow}
use Rattle.elastic.specs.Private.Counted.{IsDistinct}
use Rattle.elastic.specs.Private.Points.{minutes_of, no_point, point_at, Rising, Gathers, Profiles, HasMinute}
use Rattle.elastic.specs.Private.Walks.{usable, rest, reached, Course, Stands, state_at, Known}
use Rattle.elastic.specs.declared.points.Point.{Point}
use Rattle.elastic.specs.declared.walk.State.{State}
use Rattle.elastic.proofs.Entering.{minute}
use Rattle.elastic.proofs.Keys.{key_place}
use Rattle.elastic.proofs.Marked.{append-no_stand_in}
use Rattle.elastic.proofs.Minutes.{overflow-stand_in, rest_late, spans_out}
use Rattle.elastic.proofs.Profiles.{available_between, creq_between}
use Rattle.elastic.proofs.Walks.{rank_less}

-- the minutes of points in order
module _ (ps : List Point) (up : Rising ps) where
  pub minutes_rise : (i j : ℕ) → i < j → j < length (minutes_of ps) → get_or (minutes_of ps) i 0 < get_or (minutes_of ps) j 0
  minutes_rise i j h l =
      let inside : j < length ps = omega (arith, l, length-map ps minute) in
      let next = rank_less (point_at ps i).minute (point_at ps j).minute (up i j no_point h inside) in
      omega (arith, next, get_or-map minute ps i no_point 0 (omega arith), get_or-map minute ps j no_point 0 inside)

  pub minutes_differ : IsDistinct (minutes_of ps)
  minutes_differ i j h l same = elim (cases_eq i j) [
    | inl e ↦ e
    | inr ne ↦ elim (cases_lt i j) [
      | inl k ↦ absurd (omega (arith, same, minutes_rise i j k l))
      | inr k ↦ absurd (omega (arith, same, minutes_rise j i (omega arith) h))
    ]
  ]

  pub reached_rises : (i j : ℕ) → i ≤ j → j ≤ length (minutes_of ps) → reached (minutes_of ps) i ≤ reached (minutes_of ps) j
  reached_rises zero j h l = omega arith
  reached_rises (suc i) zero h l = absurd (omega arith)
  reached_rises (suc i) (suc j) h l = elim (cases_eq i j) [
    | inl e ↦ omega (arith, ap (λ k. get_or (minutes_of ps) k 0) e)
    | inr ne ↦ omega (arith, minutes_rise i j (omega arith) l)
  ]

-- up to a minute only what comes before it matters
rest_same : (U V : ℕ → ℕ) (Ω Ψ : List Lot) (t : ℕ) → ((u : ℕ) → u < t → (U u ≡ V u) × (creq Ω u ≡ creq Ψ u) × (profile.available Ω u ≡ profile.available Ψ u)) → rest U Ω t ≡ rest V Ψ t
rest_same U V Ω Ψ zero same = refl
rest_same U V Ω Ψ (suc t) same =
    let here = same t (omega arith) in
    omega (arith, rest_same U V Ω Ψ t (λ u h. same u (omega arith)), here.0, here.1, here.2)

-- before the first point all is the same
pub stands_first : (U V : ℕ → ℕ) (Ω Ψ : List Lot) (us : List ℕ) (s : State) → Stands U Ω us 0 s → Stands V Ψ us 0 s
stands_first U V Ω Ψ us s at = record { minute = at.minute; available = at.available; required = at.required; left = at.left }

-- a lot that comes in changes nothing before its est
module _ (U : ℕ → ℕ) (Ω Ψ : List Lot) (x : Lot) where
  same_available : (t : ℕ) → t < x.est → profile.available (Ω ++ (x ∷ Ψ)) t ≡ profile.available (Ω ++ Ψ) t
  same_available t h = omega (arith, available_between t Ω Ψ x, spans_out x.est x.lct x.c t h)

  same_required : (t : ℕ) → t < x.est → creq (Ω ++ (x ∷ Ψ)) t ≡ creq (Ω ++ Ψ) t
  same_required t h = omega (arith, creq_between t Ω Ψ x, spans_out x.est (ect x) x.c t h)

  stands_added : (us : List ℕ) (j : ℕ) (s : State) → get_or us j 0 < x.est → Stands U (Ω ++ Ψ) us (suc j) s → Stands U (Ω ++ (x ∷ Ψ)) us (suc j) s
  stands_added us j s h at = record {
    minute = at.minute;
    available = at.available ∙ sym (same_available (get_or us j 0) h);
    required = at.required ∙ sym (same_required (get_or us j 0) h);
    left = at.left ∙ rest_same U U (Ω ++ Ψ) (Ω ++ (x ∷ Ψ)) (get_or us j 0) (λ u k. (refl, sym (same_required u (omega (arith, k, h))), sym (same_available u (omega (arith, k, h)))));
  }

  pub known_added : (ps : List Point) → Rising ps → (states : List State) (n i : ℕ) → HasMinute (minutes_of ps) i x.est → Known U (Ω ++ Ψ) (minutes_of ps) states n → Known U (Ω ++ (x ∷ Ψ)) (minutes_of ps) states (min n i)
  known_added ps up states n i place known zero h = stands_first U U (Ω ++ Ψ) (Ω ++ (x ∷ Ψ)) (minutes_of ps) (state_at states 0) (known 0 (omega arith))
  known_added ps up states n i place known (suc j) h =
      stands_added (minutes_of ps) j (state_at states (suc j)) (omega (arith, minutes_rise ps up j i (omega arith) place.0, place.1)) (known (suc j) (omega arith))

latest_between : (Ω Ψ : List Lot) (x : Lot) → latest (Ω ++ (x ∷ Ψ)) ≡ max (latest (Ω ++ Ψ)) x.lct
latest_between [] Ψ x = omega arith
latest_between (y ∷ ys) Ψ x = omega (arith, latest_between ys Ψ x)

-- the latest lct is still passed
pub passed_added : (ps : List Point) → Rising ps → (Ω Ψ : List Lot) (x : Lot) (n i : ℕ) → n ≤ length ps → HasMinute (minutes_of ps) i x.lct → latest (Ω ++ Ψ) ≤ reached (minutes_of ps) n → latest (Ω ++ (x ∷ Ψ)) ≤ reached (minutes_of ps) (max n (i + 1))
passed_added ps up Ω Ψ x n i h place passed =
    let long = length-map ps minute in
    let here : max n (i + 1) ≤ length (minutes_of ps) = omega (arith, h, long, place.0) in
    let old = reached_rises ps up n (max n (i + 1)) (omega arith) here in
    let new = reached_rises ps up (suc i) (max n (i + 1)) (omega arith) here in
    omega (arith, latest_between Ω Ψ x, passed, old, new, place.1)

-- beside another lot that keeps as many trays, a walk is the same until the first of the two is out
module _ (C c m m' : ℕ) (Ω : List Lot) (us : List ℕ) where
  pub stands_beside : (j : ℕ) (s : State) → reached us j ≤ m → reached us j ≤ m' → Stands (usable C c m) Ω us j s → Stands (usable C c m') Ω us j s
  stands_beside j s h k at = record {
    minute = at.minute;
    available = at.available;
    required = at.required;
    left = at.left ∙ rest_same (usable C c m) (usable C c m') Ω Ω (reached us j) (λ u l. (
      (let low : u < m = omega arith in let low' : u < m' = omega arith in grind (arith, nat_tests)),
      refl,
      refl,
    ));
  }

-- past the latest lct the walk is done
pub overflow_reached : (C c m : ℕ) (Ω : List Lot) (us : List ℕ) (j : ℕ) (s : State) → c ≤ C → Fits Ω → latest Ω ≤ reached us j → Stands (usable C c m) Ω us j s → s.left ≡ overflow C (Ω ++ stand_in c m Ω)
overflow_reached C c m Ω us j s fits ends passed at =
    let past : reached us j ≡ latest Ω + (reached us j - latest Ω) = omega (arith, passed) in
    at.left ∙ ap (rest (usable C c m) Ω) past ∙ rest_late (usable C c m) Ω ends (reached us j - latest Ω) ∙ sym (overflow-stand_in C c m fits Ω ends)

pub stands_zero : (U : ℕ → ℕ) (Ω : List Lot) (us : List ℕ) (s : State) → (s.minute ≡ 0) × (s.available ≡ 0) × (s.required ≡ 0) × (s.left ≡ 0) → Stands U Ω us 0 s
stands_zero U Ω us s none = record { minute = none.0; available = none.1; required = none.2; left = none.3 }

-- a walk from the start, of which the first state is known
pub stands_start : (U V : ℕ → ℕ) (Ω Ψ : List Lot) (us vs : List ℕ) (states : List State) → Stands V Ψ vs 0 (state_at states 0) → (j : ℕ) → j ≤ 0 → Stands U Ω us j (state_at states j)
stands_start U V Ω Ψ us vs states at zero h = record { minute = at.minute; available = at.available; required = at.required; left = at.left }
stands_start U V Ω Ψ us vs states at (suc j) h = absurd (omega arith)

latest_has : (Ω : List Lot) → 0 < latest Ω → has (latest Ω) (minutes Ω) ≡ true
latest_has [] h = absurd (omega arith)
latest_has (x ∷ xs) h = elim (cases_lt x.lct (latest xs)) [
  | inl k ↦
      let same : latest xs ≡ latest (x ∷ xs) = omega arith in
      let there = subst (λ t. has t (minutes xs) ≡ true) same (latest_has xs (omega arith)) in
      or_right (eqb (latest (x ∷ xs)) x.est) _ (or_right (eqb (latest (x ∷ xs)) (ect x)) _ (or_right (eqb (latest (x ∷ xs)) x.lct) _ there))
  | inr k ↦
      let same : latest (x ∷ xs) ≡ x.lct = omega arith in
      or_right (eqb (latest (x ∷ xs)) x.est) _ (or_right (eqb (latest (x ∷ xs)) (ect x)) _ (or_left (eqb (latest (x ∷ xs)) x.lct) _ (eq-eqb (latest (x ∷ xs)) x.lct same)))
]

-- the last point of a table is its latest lct
all_passed : (ps : List Point) (T : List Lot) → Gathers ps (minutes T) → latest T ≤ reached (minutes_of ps) (length ps)
all_passed ps T g = elim (cases_lt 0 (latest T)) [
  | inl h ↦
      let place = key_place minute ps (latest T) (g.at (latest T) ∙ latest_has T h) in
      let there : get_or (minutes_of ps) place.0 0 ≡ latest T = get_or-map minute ps place.0 no_point 0 place.1 ∙ place.2 no_point in
      omega (arith, there, reached_rises ps g.rising (suc place.0) (length ps) place.1 (omega (arith, length-map ps minute)))
  | inr h ↦ omega (arith, h)
]

-- past all points of a table the walk is done
pub overflow_passed : (C : ℕ) (T : List Lot) (ps : List Point) (n : ℕ) (s : State) → Course C 0 T T ps → length ps ≤ n → n ≤ length ps → Stands (usable C 0 0) T (minutes_of ps) n s → s.left ≡ overflow C T
overflow_passed C T ps n s w low high at =
    let all : n ≡ length ps = omega arith in
    let ends = All-weaker _ _ (λ (x : Lot) (ok : LawfulLot max_capacity x). ok.has_time) T w.table.each in
    overflow_reached C 0 0 T (minutes_of ps) n s (omega arith) ends (subst (λ k. latest T ≤ reached (minutes_of ps) k) (sym all) (all_passed ps T w.profiles.gathers)) at
    ∙ ap (overflow C) (append-no_stand_in T)

-- the course along all points of a table
pub whole_course : (s : Table) (ps : List Point) → Profiles ps s.lots.now s.lots.now → Course s.capacity 0 s.lots.now s.lots.now ps
whole_course s ps p =
    let ok = lawful_under_most _ _ s.lawful in
    record { table = ok; lots = ok; profiles = p; fits = omega arith }
