-- A lot added to a profile.
use Rattle.std.proofs.Common.{◌≡◌, ℕ, zero, suc, ◌+◌, ◌*◌, ◌<◌, ◌≤◌, Bool, true, false, if◌then◌else◌, ◌||◌, eqb, leb, List, [], ◌∷◌, ◌++◌, length, map, take, ℤ, pos, ◌+ℤ◌, neg_ℤ, sym, refl, ap, ◌∙◌, subst, ap₂, arith}
use Rattle.std.specs.List.{AllByRecursion}
use Rattle.std.proofs.lemmas.List.{append_assoc, append-nil, length-map, length-take-le, take-append-le, take_all}
use Rattle.std.proofs.lemmas.Int.{ints}
use Rattle.std.proofs.lemmas.Bool.{or_left, or_right, eq-eqb}
use Rattle.std.proofs.lemmas.Bool.Decides.{nat_tests}
use Rattle.std.proofs.ByRecursion.{All-weaker}
use Rattle.lots.specs.Limits.{max_capacity, max_lots}
use Rattle.lots.specs.Schedules.{spans}
use Rattle.lots.specs.Tables.{ect, lot_at, LawfulLot}
use Rattle.lots.specs.declared.Lot.{Lot}
use Rattle.elastic.specs.Private.Points.{max_points, minutes_of, at_est, at_ect, at_lct, Small, upto, unchanging_point, Changed, Entered, Gathers, Changes, Profiles, KnowsLot}
use Rattle.elastic.specs.Profile.{available, creq, minutes, has, distinct, points_of_a_lot}
use Rattle.elastic.specs.declared.points.Point.{Point}
use Rattle.elastic.proofs.Counts.{has_push, distinct_between, at_most_one, points_few}
use Rattle.elastic.proofs.Entering.{weaker_small, gathers_same}

-- one minute more
gathers_push : (ps qs : List Point) (ts : List ℕ) (e : Point) → Gathers ps ts → Entered ps e qs → Gathers qs (ts ++ (e.minute ∷ []))
gathers_push ps qs ts e g n = record {
  rising = n.rising;
  count = n.count ∙ ap₂ (λ m b. m + (if b then 0 else 1)) g.count (g.at e.minute) ∙ sym (distinct_between ts [] e.minute ∙ ap (λ us. distinct us + (if has e.minute us then 0 else 1)) (append-nil ts));
  at = λ t. n.at t ∙ ap (λ b. eqb t e.minute || b) (g.at t) ∙ sym (has_push t e.minute ts);
}

pub minutes_append : (Ω Ψ : List Lot) → minutes (Ω ++ Ψ) ≡ minutes Ω ++ minutes Ψ
minutes_append [] Ψ = refl
minutes_append (y ∷ ys) Ψ = ap (λ ts. y.est ∷ (ect y ∷ (y.lct ∷ ts))) (minutes_append ys Ψ)

length_between : (Ω Ψ : List Lot) (x : Lot) → length (Ω ++ (x ∷ Ψ)) ≡ length (Ω ++ Ψ) + 1
length_between [] Ψ x = omega arith
length_between (y ∷ ys) Ψ x = omega (arith, length_between ys Ψ x)

module _ (t : ℕ) where
  pub available_between : (Ω Ψ : List Lot) (x : Lot) → available (Ω ++ (x ∷ Ψ)) t ≡ available (Ω ++ Ψ) t + (if spans x.est x.lct t then x.c else 0)
  available_between [] Ψ x = omega arith
  available_between (y ∷ ys) Ψ x = omega (arith, available_between ys Ψ x)

  pub creq_between : (Ω Ψ : List Lot) (x : Lot) → creq (Ω ++ (x ∷ Ψ)) t ≡ creq (Ω ++ Ψ) t + (if spans x.est (ect x) t then x.c else 0)
  creq_between [] Ψ x = omega arith
  creq_between (y ∷ ys) Ψ x = omega (arith, creq_between ys Ψ x)

  -- c from a on and −c from b on is c in the span from a to b
  step_up_down : (a b c : ℕ) → a ≤ b → (if leb a t then pos c else pos 0) +ℤ (if leb b t then neg_ℤ (pos c) else pos 0) ≡ pos (if spans a b t then c else 0)
  step_up_down a b c h = grind (arith, ints, nat_tests)

no_change : (b : Bool) → (if b then pos 0 else pos 0) ≡ pos 0
no_change true = refl
no_change false = refl

module _ (x : Lot) where
  module _ (ok : LawfulLot max_capacity x) where
    pub small_at_est : Small max_capacity (at_est x)
    small_at_est = record {
      available_low = omega (arith, ints, ok.has_trays);
      available_high = omega (arith, ints, ok.has_trays);
      required_low = omega (arith, ints, ok.has_trays);
      required_high = omega (arith, ints, ok.has_trays);
    }

    pub small_at_ect : Small max_capacity (at_ect x)
    small_at_ect = record {
      available_low = omega (arith, ints);
      available_high = omega (arith, ints);
      required_low = omega (arith, ints, ok.has_trays);
      required_high = omega (arith, ints);
    }

    pub small_at_lct : Small max_capacity (at_lct x)
    small_at_lct = record {
      available_low = omega (arith, ints, ok.has_trays);
      available_high = omega (arith, ints);
      required_low = omega (arith, ints);
      required_high = omega (arith, ints);
    }

-- the three changes of a lot
module _ (ps qs rs ps' : List Point) (x : Lot) (ok : LawfulLot max_capacity x)
    (n : Changed ps (at_est x) qs)
    (m : Changed qs (at_ect x) rs)
    (k : Changed rs (at_lct x) ps') where
  -- it may come in anywhere in the list
  pub changes_between : (Ω Ψ : List Lot) → Changes ps (Ω ++ Ψ) → Changes ps' (Ω ++ (x ∷ Ψ))
  changes_between Ω Ψ p =
      let total : points_of_a_lot * max_capacity * length (Ω ++ Ψ) + max_capacity + max_capacity + max_capacity ≡ points_of_a_lot * max_capacity * length (Ω ++ (x ∷ Ψ)) = omega (arith, length_between Ω Ψ x) in
      record {
        available = λ t. omega (arith, ints, p.available t, n.available t, m.available t, k.available t, step_up_down t x.est x.lct x.c (omega arith), available_between t Ω Ψ x, no_change (leb (ect x) t));
        required = λ t. omega (arith, ints, p.required t, n.required t, m.required t, k.required t, step_up_down t x.est (ect x) x.c (omega arith), creq_between t Ω Ψ x, no_change (leb x.lct t));
        small = subst (λ b. AllByRecursion (Small b) ps') total (k.small _ max_capacity (m.small _ max_capacity (n.small _ max_capacity p.small (small_at_est x ok)) (small_at_ect x ok)) (small_at_lct x ok));
      }

-- a lot that is entered as the next
module _ (ps qs rs ps' : List Point) (T : List Lot) (x : Lot) (p : Profiles ps T T) (ok : LawfulLot max_capacity x)
    (n : Entered ps (at_est x) qs)
    (m : Entered qs (at_ect x) rs)
    (k : Entered rs (at_lct x) ps') where
  pub profiles_push : Profiles ps' (T ++ (x ∷ [])) (T ++ (x ∷ []))
  profiles_push =
      let first = gathers_push ps qs (minutes T) _ p.gathers n in
      let second = gathers_push qs rs (minutes T ++ (x.est ∷ [])) _ first m in
      let third = gathers_push rs ps' ((minutes T ++ (x.est ∷ [])) ++ (ect x ∷ [])) _ second k in
      let joined : ((minutes T ++ (x.est ∷ [])) ++ (ect x ∷ [])) ++ (x.lct ∷ []) ≡ minutes (T ++ (x ∷ [])) = simp append_assoc (sym (minutes_append T (x ∷ []))) in
      record {
        gathers = subst (Gathers ps') joined third;
        changes = changes_between ps qs rs ps' x ok n.changed m.changed k.changed T [] (subst (Changes ps) (sym (append-nil T)) p.changes);
      }

pub gathers_none : Gathers [] []
gathers_none = record { rising = λ i j d h l. absurd (omega arith); count = refl; at = λ t. refl }

pub profiles_none : Profiles [] [] []
profiles_none = record {
  gathers = gathers_none;
  changes = record { available = λ t. refl; required = λ t. refl; small = tt };
}

-- the points without their changes
pub minutes_cleared : (ps : List Point) → minutes_of (map unchanging_point ps) ≡ minutes_of ps
minutes_cleared [] = refl
minutes_cleared (p ∷ ps) = ap (λ us. p.minute ∷ us) (minutes_cleared ps)

upto_cleared : (f : Point → ℤ) → ((p : Point) → f (unchanging_point p) ≡ pos 0) → (ps : List Point) (t : ℕ) → upto f (map unchanging_point ps) t ≡ pos 0
upto_cleared f none [] t = refl
upto_cleared f none (p ∷ ps) t =
    let here = ap (λ n. if leb p.minute t then n else pos 0) (none p) ∙ no_change (leb p.minute t) in
    omega (arith, ints, here, upto_cleared f none ps t)

small_cleared : (ps : List Point) → AllByRecursion (Small 0) (map unchanging_point ps)
small_cleared [] = tt
small_cleared (p ∷ ps) = (record { available_low = omega (arith, ints); available_high = omega (arith, ints); required_low = omega (arith, ints); required_high = omega (arith, ints) }, small_cleared ps)

pub profiles_cleared : (ps : List Point) (T Ω : List Lot) → Profiles ps T Ω → Profiles (map unchanging_point ps) T []
profiles_cleared ps T Ω p = record {
  gathers = gathers_same ps (map unchanging_point ps) (minutes_cleared ps) (minutes T) p.gathers;
  changes = record {
    available = upto_cleared (λ q. q.available) (λ q. refl) ps;
    required = upto_cleared (λ q. q.required) (λ q. refl) ps;
    small = small_cleared ps;
  };
}

pub entered_as : (ps qs : List Point) (e e' : Point) → e ≡ e' → Entered ps e qs → Entered ps e' qs
entered_as ps qs e e' is = subst (λ x. Entered ps x qs) is

-- ps came of at most n changes, none greater than the greatest capacity
abbrev pub Few : ℕ → List Point → Type 0
Few n ps = (length ps ≤ n) × AllByRecursion (Small (max_capacity * n)) ps

pub few_from_profile : (ps : List Point) (T : List Lot) → Profiles ps T T → Few (points_of_a_lot * length T) ps
few_from_profile ps T p = (omega (arith, p.gathers.count, points_few T), subst (λ b. AllByRecursion (Small b) ps) (omega arith) p.changes.small)

pub few_more : (n : ℕ) (ps qs : List Point) (e : Point) → Few n ps → Small max_capacity e → Entered ps e qs → Few (n + 1) qs
few_more n ps qs e f s m = (
  omega (arith, f.0, m.count, at_most_one (has e.minute (minutes_of ps))),
  subst (λ b. AllByRecursion (Small b) qs) (omega arith) (m.changed.small _ max_capacity f.1 s),
)

pub few_small : (n : ℕ) (ps : List Point) → Few n ps → n < max_points → AllByRecursion (Small (max_capacity * max_points)) ps
few_small n ps f h = All-weaker _ _ (weaker_small (max_capacity * n) (max_capacity * max_points) (omega arith)) ps f.1

-- the minutes of a table have those of each lot
pub knows_lot : (T : List Lot) (k : ℕ) → k < length T → KnowsLot (minutes T) (lot_at T k)
knows_lot [] k h = absurd (omega arith)
knows_lot (x ∷ xs) zero h = record {
  est = or_left (eqb x.est x.est) _ (eq-eqb x.est x.est refl);
  ect = or_right (eqb (ect x) x.est) _ (or_left (eqb (ect x) (ect x)) _ (eq-eqb (ect x) (ect x) refl));
  lct = or_right (eqb x.lct x.est) _ (or_right (eqb x.lct (ect x)) _ (or_left (eqb x.lct x.lct) _ (eq-eqb x.lct x.lct refl)));
}
knows_lot (x ∷ xs) (suc k) h =
    let later = knows_lot xs k (omega arith) in
    let known : (t : ℕ) → has t (minutes xs) ≡ true → has t (minutes (x ∷ xs)) ≡ true = λ t e. or_right (eqb t x.est) _ (or_right (eqb t (ect x)) _ (or_right (eqb t x.lct) _ e)) in
    record { est = known _ later.est; ect = known _ later.ect; lct = known _ later.lct }

pub knows_gathered : (ps : List Point) (T : List Lot) → Gathers ps (minutes T) → (k : ℕ) → k < length T → KnowsLot (minutes_of ps) (lot_at T k)
knows_gathered ps T g k h =
    let there = knows_lot T k h in
    record { est = g.at _ ∙ there.est; ect = g.at _ ∙ there.ect; lct = g.at _ ∙ there.lct }

pub points_within : (ps : List Point) (T Ω : List Lot) → Profiles ps T Ω → length T ≤ max_lots → length ps ≤ max_points
points_within ps T Ω p few = omega (arith, p.gathers.count, points_few T, few)

-- the first n cells without their changes, whatever comes after
pub taken_cleared : (cells now rest : List Point) (n m : ℕ) → n ≤ length cells → m ≡ length (take n cells) → now ≡ map unchanging_point (take m cells) → take n (now ++ rest) ≡ map unchanging_point (take n cells)
taken_cleared cells now rest n m few is made =
    let all : m ≡ n = omega (arith, is, length-take-le n cells few) in
    let cleared : now ≡ map unchanging_point (take n cells) = made ∙ ap (λ k. map unchanging_point (take k cells)) all in
    let long : length now ≡ n = ap length cleared ∙ length-map (take n cells) unchanging_point ∙ length-take-le n cells few in
    take-append-le n now rest (omega (arith, long)) ∙ take_all n now (omega (arith, long)) ∙ cleared
