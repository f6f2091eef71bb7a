-- The walk along the points of a profile.
use Rattle.std.proofs.Common.{◌≡◌, ℕ, zero, suc, ◌+◌, ◌-◌, ◌*◌, ◌<◌, ◌≤◌, min, Bool, true, false, if◌then◌else◌, eqb, List, [], ◌∷◌, length, get_or, take, ℤ, pos, ◌+ℤ◌, Less, sym, refl, ap, ap₂, ◌∙◌, subst, inl, inr, add-zero, add-one, add-suc, suc-mul, mul-le-mul_left, zero-mul, arith}
use Rattle.std.specs.List.{AllByRecursion}
use Rattle.std.proofs.lemmas.List.{get_or-map}
use Rattle.std.proofs.lemmas.Int.{ints}
use Rattle.std.proofs.ByRecursion.{All-weaker, All-from_get_or}
use Rattle.std.proofs.lemmas.Bool.{cases_lt, lt-leb, le-leb, or_cases, eqb-true, false≢true}
use Rattle.std.proofs.lemmas.Bool.Decides.{nat_tests}
use Rattle.std.specs.Ordering.{nat_cmp}
use Rattle.lots.specs.Limits.{horizon, max_capacity, max_lots}
use Rattle.lots.specs.Schedules.{spans}
use Rattle.lots.specs.Tables.{ect, LawfulLot, Lawful}
use Rattle.lots.specs.declared.Lot.{Lot}
use Rattle.elastic.specs.Private.Points.{minutes_of, no_point, point_at, Rising, upto}
use Rattle.elastic.specs.Private.Walks.{usable, rest, reached, count_reached, Stands, Walks}
use Rattle.elastic.specs.Profile as profile
use Rattle.elastic.specs.Profile.{latest, creq, minutes, has, overflow}
use Rattle.elastic.specs.declared.points.Point.{Point}
use Rattle.elastic.specs.declared.walk.State.{State}
use Rattle.elastic.proofs.Entering.{minute}
use Rattle.elastic.proofs.Keys.{key_has}

-- over n minutes in which r trays are required and m can be used
pub rest_level : (U : ℕ → ℕ) (Ω : List Lot) (t n r m : ℕ) → ((u : ℕ) → t ≤ u → u < t + n → (creq Ω u ≡ r) × (min (profile.available Ω u) (U u) ≡ m)) → rest U Ω (t + n) ≡ (rest U Ω t + n * r) - n * m
rest_level U Ω t zero r m level = ap (rest U Ω) (add-zero t) ∙ omega (arith, zero-mul r, zero-mul m)
rest_level U Ω t (suc n) r m level =
    let ih = rest_level U Ω t n r m (λ u h l. level u h (omega arith)) in
    let last = level (t + n) (omega arith) (omega arith) in
    ap (rest U Ω) (add-suc t n) ∙ elim (cases_lt r m) [
      | inl h ↦ omega (arith, ih, last.0, last.1, suc-mul n r, suc-mul n m)
      | inr h ↦ omega (arith, ih, last.0, last.1, suc-mul n r, suc-mul n m, mul-le-mul_left n h)
    ]

cond_most : (b : Bool) (n : ℕ) → (if b then n else 0) ≤ n
cond_most true n = omega arith
cond_most false n = omega arith

latest_in_week : (C : ℕ) (Ω : List Lot) → AllByRecursion (LawfulLot C) Ω → latest Ω ≤ horizon
latest_in_week C [] ok = omega arith
latest_in_week C (x ∷ xs) ok = omega (arith, ok.0.in_week, latest_in_week C xs ok.1)

module _ (t : ℕ) where
  available_most : (Ω : List Lot) → AllByRecursion (LawfulLot max_capacity) Ω → profile.available Ω t ≤ max_capacity * length Ω
  available_most [] ok = omega arith
  available_most (x ∷ xs) ok = omega (arith, ok.0.has_trays, cond_most (spans x.est x.lct t) x.c, available_most xs ok.1)

  pub creq_most : (Ω : List Lot) → AllByRecursion (LawfulLot max_capacity) Ω → creq Ω t ≤ max_capacity * length Ω
  creq_most [] ok = omega arith
  creq_most (x ∷ xs) ok = omega (arith, ok.0.has_trays, cond_most (spans x.est (ect x) t) x.c, creq_most xs ok.1)

pub rank_less : (x y : ℕ) → nat_cmp x y ≡ Less → x < y
rank_less x y e = grind (arith, nat_tests)

rising_tail : (p : Point) (ps : List Point) → Rising (p ∷ ps) → Rising ps
rising_tail p ps up i j d h l = up (suc i) (suc j) d (omega arith) (omega arith)

rising_ahead : (p : Point) (ps : List Point) → Rising (p ∷ ps) → AllByRecursion (λ q. p.minute < q.minute) ps
rising_ahead p ps up = All-from_get_or (λ q. p.minute < q.minute) ps p (λ i l. rank_less _ _ (up 0 (suc i) p (omega arith) (omega arith)))

-- the sum of one of the two changes over the points ps
abbrev pub total : (Point → ℤ) → List Point → ℤ
total f [] = pos 0
total f (p ∷ ps) = f p +ℤ total f ps

pub total_more : (f : Point → ℤ) (ps : List Point) (j : ℕ) → j < length ps → total f (take (suc j) ps) ≡ total f (take j ps) +ℤ f (point_at ps j)
total_more f [] j h = absurd (omega arith)
total_more f (p ∷ ps) zero h = omega (arith, ints)
total_more f (p ∷ ps) (suc j) h = omega (arith, ints, total_more f ps j (omega arith))

-- points that are all ahead change nothing yet
upto_ahead : (f : Point → ℤ) (t : ℕ) (ps : List Point) → AllByRecursion (λ p. t < p.minute) ps → upto f ps t ≡ pos 0
upto_ahead f t [] h = refl
upto_ahead f t (p ∷ ps) h =
    let here = ap (λ b. if b then f p else pos 0) (lt-leb p.minute t h.0) in
    omega (arith, ints, here, upto_ahead f t ps h.1)

-- the first j of the points have come by t, and no other
pub record Between (ps : List Point) (j t : ℕ) : Type 0 where
  pub from : reached (minutes_of ps) j ≤ t
  pub below : j < length ps → t < (point_at ps j).minute

reached_tail : (p : Point) (ps : List Point) (j : ℕ) → reached (minutes_of ps) j ≤ reached (minutes_of (p ∷ ps)) (suc j)
reached_tail p ps zero = omega arith
reached_tail p ps (suc j) = omega arith

first_reached : (p : Point) (ps : List Point) (j : ℕ) → j ≤ length ps → Rising (p ∷ ps) → p.minute ≤ reached (minutes_of (p ∷ ps)) (suc j)
first_reached p ps zero h up = omega arith
first_reached p ps (suc j) h up =
    let next = rank_less p.minute (get_or ps j p).minute (up 0 (suc j) p (omega arith) (omega arith)) in
    omega (arith, next, get_or-map minute ps j p 0 (omega arith))

pub upto_between : (f : Point → ℤ) (ps : List Point) (j t : ℕ) → j ≤ length ps → Rising ps → Between ps j t → upto f ps t ≡ total f (take j ps)
upto_between f [] zero t h up b = refl
upto_between f [] (suc j) t h up b = absurd (omega arith)
upto_between f (p ∷ ps) zero t h up b =
    upto_ahead f t (p ∷ ps) (b.below (omega arith), All-weaker _ _ (λ q g. omega (arith, g, b.below (omega arith))) ps (rising_ahead p ps up))
upto_between f (p ∷ ps) (suc j) t h up b =
    let rest = upto_between f ps j t (omega arith) (rising_tail p ps up) (record { from = omega (arith, reached_tail p ps j, b.from); below = λ l. b.below (omega arith) }) in
    let here = ap (λ c. if c then f p else pos 0) (le-leb p.minute t (omega (arith, first_reached p ps j (omega arith) up, b.from))) in
    omega (arith, ints, rest, here)

-- the minutes of two points that follow each other
next_minute : (ps : List Point) (j : ℕ) → Rising ps → suc j < length ps → reached (minutes_of ps) (suc j) < (point_at ps (suc j)).minute
next_minute ps j up h =
    let next = rank_less (point_at ps j).minute (point_at ps (suc j)).minute (up j (suc j) no_point (omega arith) h) in
    omega (arith, next, get_or-map minute ps j no_point 0 (omega arith))

next_later : (ps : List Point) (j : ℕ) → Rising ps → j < length ps → reached (minutes_of ps) j ≤ (point_at ps j).minute
next_later ps zero up h = omega arith
next_later ps (suc j) up h = omega (arith, next_minute ps j up h)

-- what a walk counts after j points is what these change
pub counted : (f : Point → ℤ) (F : ℕ → ℕ) (ps : List Point) → ((t : ℕ) → upto f ps t ≡ pos (F t)) → Rising ps → (j : ℕ) → j ≤ length ps → pos (count_reached F (minutes_of ps) j) ≡ total f (take j ps)
counted f F ps is up zero h = refl
counted f F ps is up (suc j) h =
    sym (is (reached (minutes_of ps) (suc j)))
    ∙ upto_between f ps (suc j) (reached (minutes_of ps) (suc j)) h up (record { from = omega arith; below = λ l. next_minute ps j up l })

pub count_few : (F : ℕ → ℕ) (b : ℕ) → ((t : ℕ) → F t ≤ b) → (us : List ℕ) (j : ℕ) → count_reached F us j ≤ b
count_few F b few us zero = omega arith
count_few F b few us (suc j) = few (reached us (suc j))

minutes_inside : (C t : ℕ) (Ω : List Lot) → AllByRecursion (LawfulLot C) Ω → has t (minutes Ω) ≡ true → t ≤ latest Ω
minutes_inside C t [] ok h = absurd (false≢true h)
minutes_inside C t (x ∷ xs) ok h = elim (or_cases (eqb t x.est) _ h) [
  | inl e ↦ omega (arith, eqb-true t x.est e, ok.0.has_time)
  | inr g ↦ elim (or_cases (eqb t (ect x)) _ g) [
    | inl e ↦ omega (arith, eqb-true t (ect x) e, ok.0.has_time)
    | inr f ↦ elim (or_cases (eqb t x.lct) _ f) [
      | inl e ↦ omega (arith, eqb-true t x.lct e)
      | inr d ↦ omega (arith, minutes_inside C t xs ok.1 d)
    ]
  ]
]

rest_most : (U : ℕ → ℕ) (Ω : List Lot) → Lawful max_capacity Ω → (t : ℕ) → rest U Ω t ≤ max_capacity * max_lots * t
rest_most U Ω ok zero = omega arith
rest_most U Ω ok (suc t) = omega (arith, rest_most U Ω ok t, creq_most t Ω ok.each, ok.few_lots)

-- one step of a walk
module _ (C c m : ℕ) (T Ω : List Lot) (ps : List Point) (j : ℕ) (s : State) (w : Walks C c m T Ω ps j s) where
  abbrev p : Point
  p = point_at ps j

  abbrev up : Rising ps
  up = w.course.profiles.gathers.rising

  pub later : s.minute ≤ p.minute
  later = omega (arith, w.stands.minute, next_later ps j up w.ahead)

  pub next_in_week : p.minute ≤ horizon
  next_in_week =
      let known = sym (w.course.profiles.gathers.at p.minute) ∙ key_has minute ps j p.minute no_point w.ahead refl in
      omega (arith, minutes_inside max_capacity p.minute T w.course.table.each known, latest_in_week max_capacity T w.course.table.each)

  pub available_few : s.available ≤ max_capacity * max_lots
  available_few = omega (arith, w.stands.available, count_few (profile.available Ω) (max_capacity * length Ω) (λ t. available_most t Ω w.course.lots.each) (minutes_of ps) j, w.course.lots.few_lots)

  pub required_few : s.required ≤ max_capacity * max_lots
  required_few = omega (arith, w.stands.required, count_few (creq Ω) (max_capacity * length Ω) (λ t. creq_most t Ω w.course.lots.each) (minutes_of ps) j, w.course.lots.few_lots)

  pub rest_few : (n : ℕ) → n ≤ p.minute → rest (usable C c m) Ω n ≤ max_capacity * max_lots * horizon
  rest_few n h = omega (arith, rest_most (usable C c m) Ω w.course.lots n, next_in_week, h)

  -- up to the next point nothing changes
  between : (t : ℕ) → s.minute ≤ t → t < p.minute → Between ps j t
  between t h l = record { from = omega (arith, w.stands.minute, h); below = λ k. l }

  same_available : (t : ℕ) → s.minute ≤ t → t < p.minute → profile.available Ω t ≡ s.available
  same_available t h l =
      let there = upto_between (λ q. q.available) ps j t (omega (arith, w.ahead)) up (between t h l) in
      let here = counted (λ q. q.available) (profile.available Ω) ps w.course.profiles.changes.available up j (omega (arith, w.ahead)) in
      omega (arith, ints, w.stands.available, w.course.profiles.changes.available t, there, here)

  same_required : (t : ℕ) → s.minute ≤ t → t < p.minute → creq Ω t ≡ s.required
  same_required t h l =
      let there = upto_between (λ q. q.required) ps j t (omega (arith, w.ahead)) up (between t h l) in
      let here = counted (λ q. q.required) (creq Ω) ps w.course.profiles.changes.required up j (omega (arith, w.ahead)) in
      omega (arith, ints, w.stands.required, w.course.profiles.changes.required t, there, here)

  -- on from the minute n to n', up to which D trays can be in use
  pub rest_on : (n n' D l l' : ℕ) → s.minute ≤ n → n ≤ n' → n' ≤ p.minute → ((t : ℕ) → n ≤ t → t < n' → usable C c m t ≡ D) → l ≡ rest (usable C c m) Ω n → l' ≡ (l + (n' - n) * s.required) - (n' - n) * min s.available D → l' ≡ rest (usable C c m) Ω n'
  rest_on n n' D l l' low mid high same is made =
      let span : n + (n' - n) ≡ n' = omega arith in
      let level = rest_level (usable C c m) Ω n (n' - n) s.required (min s.available D) (λ t h k. (
        same_required t (omega arith) (omega arith),
        ap₂ min (same_available t (omega arith) (omega arith)) (same t h (omega arith)),
      )) in
      made ∙ ap (λ k. (k + (n' - n) * s.required) - (n' - n) * min s.available D) is ∙ sym level ∙ ap (rest (usable C c m) Ω) span

  -- at the next point
  next_count : (f : Point → ℤ) (F : ℕ → ℕ) → ((t : ℕ) → upto f ps t ≡ pos (F t)) → pos (count_reached F (minutes_of ps) (suc j)) ≡ pos (count_reached F (minutes_of ps) j) +ℤ f p
  next_count f F is =
      counted f F ps is up (suc j) (omega (arith, w.ahead)) ∙ total_more f ps j w.ahead
      ∙ ap (λ n. n +ℤ f p) (sym (counted f F ps is up j (omega (arith, w.ahead))))

  pub next_available : pos (count_reached (profile.available Ω) (minutes_of ps) (suc j)) ≡ pos s.available +ℤ p.available
  next_available = next_count (λ q. q.available) (profile.available Ω) w.course.profiles.changes.available ∙ ap (λ n. pos n +ℤ p.available) (sym w.stands.available)

  pub next_required : pos (count_reached (creq Ω) (minutes_of ps) (suc j)) ≡ pos s.required +ℤ p.required
  next_required = next_count (λ q. q.required) (creq Ω) w.course.profiles.changes.required ∙ ap (λ n. pos n +ℤ p.required) (sym w.stands.required)

  pub next_available_few : count_reached (profile.available Ω) (minutes_of ps) (suc j) ≤ max_capacity * max_lots
  next_available_few = omega (arith, count_few (profile.available Ω) (max_capacity * length Ω) (λ t. available_most t Ω w.course.lots.each) (minutes_of ps) (suc j), w.course.lots.few_lots)

  pub next_required_few : count_reached (creq Ω) (minutes_of ps) (suc j) ≤ max_capacity * max_lots
  next_required_few = omega (arith, count_few (creq Ω) (max_capacity * length Ω) (λ t. creq_most t Ω w.course.lots.each) (minutes_of ps) (suc j), w.course.lots.few_lots)

  pub next_stands : (s' : State) → s'.minute ≡ p.minute → pos s'.available ≡ pos s.available +ℤ p.available → pos s'.required ≡ pos s.required +ℤ p.required → s'.left ≡ rest (usable C c m) Ω p.minute → Stands (usable C c m) Ω (minutes_of ps) (suc j) s'
  next_stands s' same a r l =
      let here : p.minute ≡ reached (minutes_of ps) (suc j) = sym (get_or-map minute ps j no_point 0 w.ahead) in
      record {
        minute = same ∙ here;
        available = omega (arith, ints, a, next_available);
        required = omega (arith, ints, r, next_required);
        left = l ∙ ap (rest (usable C c m) Ω) here;
      }

-- what bounds a step from the state s to the next point, at the minute t
pub record Bounds (s : State) (t : ℕ) : Type 0 where
  pub later : s.minute ≤ t
  pub in_week : t ≤ horizon
  pub available_few : s.available ≤ max_capacity * max_lots
  pub required_few : s.required ≤ max_capacity * max_lots
  pub left_few : s.left ≤ max_capacity * max_lots * horizon

pub bounds : (C c m : ℕ) (T Ω : List Lot) (ps : List Point) (j : ℕ) (s : State) (t : ℕ) → Walks C c m T Ω ps j s → (point_at ps j).minute ≡ t → Bounds s t
bounds C c m T Ω ps j s t w e = record {
  later = omega (arith, e, later C c m T Ω ps j s w);
  in_week = omega (arith, e, next_in_week C c m T Ω ps j s w);
  available_few = available_few C c m T Ω ps j s w;
  required_few = required_few C c m T Ω ps j s w;
  left_few = omega (arith, w.stands.left, w.stands.minute, rest_few C c m T Ω ps j s w (reached (minutes_of ps) j) (omega (arith, w.stands.minute, later C c m T Ω ps j s w)));
}

-- the trays after the next point p
pub record Counts (s : State) (p : Point) (a r : ℕ) : Type 0 where
  pub available : pos a ≡ pos s.available +ℤ p.available
  pub required : pos r ≡ pos s.required +ℤ p.required
  pub available_few : a ≤ max_capacity * max_lots
  pub required_few : r ≤ max_capacity * max_lots

pub counts : (C c m : ℕ) (T Ω : List Lot) (ps : List Point) (j : ℕ) (s : State) (p : Point) → Walks C c m T Ω ps j s → point_at ps j ≡ p → Counts s p (count_reached (profile.available Ω) (minutes_of ps) (suc j)) (count_reached (creq Ω) (minutes_of ps) (suc j))
counts C c m T Ω ps j s p w e = record {
  available = next_available C c m T Ω ps j s w ∙ ap (λ (q : Point). pos s.available +ℤ q.available) e;
  required = next_required C c m T Ω ps j s w ∙ ap (λ (q : Point). pos s.required +ℤ q.required) e;
  available_few = next_available_few C c m T Ω ps j s w;
  required_few = next_required_few C c m T Ω ps j s w;
}

pub stands_past : (C c m : ℕ) (T Ω : List Lot) (ps : List Point) (j : ℕ) (s : State) (p : Point) → Walks C c m T Ω ps j s → point_at ps j ≡ p → (s' : State) → s'.minute ≡ p.minute → pos s'.available ≡ pos s.available +ℤ p.available → pos s'.required ≡ pos s.required +ℤ p.required → s'.left ≡ rest (usable C c m) Ω p.minute → Stands (usable C c m) Ω (minutes_of ps) (j + 1) s'
stands_past C c m T Ω ps j s p w e s' t a r l =
    let next = subst (λ (q : Point). s'.minute ≡ q.minute → pos s'.available ≡ pos s.available +ℤ q.available → pos s'.required ≡ pos s.required +ℤ q.required → s'.left ≡ rest (usable C c m) Ω q.minute → Stands (usable C c m) Ω (minutes_of ps) (suc j) s') e (next_stands C c m T Ω ps j s w s') in
    subst (λ k. Stands (usable C c m) Ω (minutes_of ps) k s') (sym (add-one j)) (next t a r l)
