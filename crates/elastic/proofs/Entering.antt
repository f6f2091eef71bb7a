-- A change entered among the points of a profile.
use Rattle.std.proofs.Common.{◌≡◌, ℕ, zero, suc, ◌+◌, ◌<◌, ◌≤◌, Bool, true, false, cond, leb, List, [], ◌∷◌, ◌++◌, length, get_or, take, drop, set, ℤ, pos, ◌+ℤ◌, sym, refl, ap, ◌∙◌, subst, ap₂, inl, inr, arith, if◌then◌else◌}
use Rattle.std.proofs.Math.Seq.{take-set-lt}
use Rattle.std.specs.List.{insert, AllByRecursion}
use Rattle.std.proofs.lemmas.Int.{ints}
use Rattle.std.specs.Cmp.{nat_cmp_total}
use Rattle.std.proofs.lemmas.List.Edits.{length-insert}
use Rattle.std.proofs.ByRecursion.{All-weaker, All-append, All-take, All-drop, All-set, All-get_or}
use Rattle.std.proofs.lemmas.List.{length-map, map-set, set-get_or, take-append-drop, get_or-set_same, get_or-set_other, get_or-map, get_or_default, get_or-take, length-set, length-take}
use Rattle.std.proofs.lemmas.Bool.{cases_eq, false≢true}
use Rattle.std.specs.Ordering.{nat_cmp}
use Rattle.elastic.specs.Private.Points.{upto, point_at, no_point, changed_point, Small, minutes_of, Rising, Changed, Entered, Gathers, HasMinute}
use Rattle.elastic.specs.Profile.{has}
use Rattle.row.specs.Rows.{Stands, Put, Seated}
use Rattle.elastic.specs.declared.points.Point.{Point}
use Rattle.row.specs.declared.row.Place.TheVariants.{Placed, Present}
use Rattle.elastic.proofs.Counts.{has_known}
use Rattle.elastic.proofs.Keys.{keys_inserted, key_stands, stands_known, lacks_key}
use Rattle.row.proofs.Rows.{nowhere}

abbrev pub minute : Point → ℕ
minute p = p.minute

cond_sum : (b : Bool) (x y z : ℤ) → x ≡ y +ℤ z → (if b then x else pos 0) ≡ (if b then y else pos 0) +ℤ (if b then z else pos 0)
cond_sum true x y z e = e
cond_sum false x y z e = refl

module _ (f : Point → ℤ) (t : ℕ) where
  abbrev part : Point → ℤ
  part p = if leb p.minute t then f p else pos 0

  upto_between : (ps qs : List Point) (e : Point) → upto f (ps ++ (e ∷ qs)) t ≡ upto f (ps ++ qs) t +ℤ part e
  upto_between [] qs e = omega (arith, ints)
  upto_between (p ∷ ps) qs e = let ih = upto_between ps qs e in omega (arith, ints)

  -- a point whose change grew by that of e
  upto_set : (ps : List Point) (i : ℕ) (q e : Point) → i < length ps → q.minute ≡ (point_at ps i).minute → e.minute ≡ (point_at ps i).minute → f q ≡ f (point_at ps i) +ℤ f e → upto f (set ps i q) t ≡ upto f ps t +ℤ part e
  upto_set [] i q e h m n g = absurd (omega arith)
  upto_set (p ∷ ps) zero q e h m n g =
      let there = ap (λ u. if leb u t then f q else pos 0) m in
      let added = ap (λ u. if leb u t then f e else pos 0) n in
      let split = cond_sum (leb p.minute t) (f q) (f p) (f e) g in
      omega (arith, ints, there, added, split)
  upto_set (p ∷ ps) (suc i) q e h m n g = let ih = upto_set ps i q e (omega arith) m n g in omega (arith, ints)

pub weaker_small : (a b : ℕ) → a ≤ b → (p : Point) → Small a p → Small b p
weaker_small a b l p s = record {
  available_low = omega (arith, ints);
  available_high = omega (arith, ints);
  required_low = omega (arith, ints);
  required_high = omega (arith, ints);
}

small_altered : (a b : ℕ) (p e : Point) → Small a p → Small b e → Small (a + b) (changed_point p e)
small_altered a b p e s t = record {
  available_low = omega (arith, ints);
  available_high = omega (arith, ints);
  required_low = omega (arith, ints);
  required_high = omega (arith, ints);
}

-- a point written over by one of its minute
module _ (ps : List Point) (i : ℕ) (q : Point) (same : q.minute ≡ (point_at ps i).minute) (h : i < length ps) where
  minute_kept : (j : ℕ) (d : Point) → (get_or (set ps i q) j d).minute ≡ (get_or ps j d).minute
  minute_kept j d = elim (cases_eq j i) [
    | inl k ↦
        ap (λ n. (get_or (set ps i q) n d).minute) k
        ∙ ap minute (get_or-set_same ps i q d h)
        ∙ same
        ∙ ap minute (get_or_default ps i _ d h)
        ∙ ap (λ n. (get_or ps n d).minute) (sym k)
    | inr ne ↦ ap minute (get_or-set_other ps i j q d ne)
  ]

  pub rising_set : Rising ps → Rising (set ps i q)
  rising_set up a b d l r = ap₂ nat_cmp (minute_kept a d) (minute_kept b d) ∙ up a b d l (subst (λ n. b < n) (length-set ps i q) r)

-- points of the same minutes are in the same order
module _ (ps qs : List Point) (same : minutes_of qs ≡ minutes_of ps) where
  same_length : length qs ≡ length ps
  same_length = sym (length-map qs minute) ∙ ap length same ∙ length-map ps minute

  pub rising_same : Rising ps → Rising qs
  rising_same up i j d h l =
      let at : (k : ℕ) → k < length qs → (get_or qs k d).minute ≡ (get_or ps k d).minute = λ k low. sym (get_or-map minute qs k d 0 low) ∙ ap (λ us. get_or us k 0) same ∙ get_or-map minute ps k d 0 (omega (arith, low, same_length)) in
      ap₂ nat_cmp (at i (omega arith)) (at j l) ∙ up i j d h (omega (arith, l, same_length))

  pub gathers_same : (ts : List ℕ) → Gathers ps ts → Gathers qs ts
  gathers_same ts g = record {
    rising = rising_same g.rising;
    count = same_length ∙ g.count;
    at = λ t. ap (has t) same ∙ g.at t;
  }

module _ (ps : List Point) (e : Point) (i : ℕ) where
  module _ (low : i ≤ length ps) (lacks : (j : ℕ) → Stands nat_cmp_total minute e.minute ps j → ⊥) (up : Rising (insert ps i e)) where
    sums : (f : Point → ℤ) (t : ℕ) → upto f (insert ps i e) t ≡ upto f ps t +ℤ part f t e
    sums f t = upto_between f t (take i ps) (drop i ps) e ∙ ap (λ qs. upto f qs t +ℤ part f t e) (take-append-drop i ps)

    pub entered_placed : Entered ps e (insert ps i e)
    entered_placed = record {
      rising = up;
      count = length-insert ps i e low ∙ ap (λ b. length ps + (if b then 0 else 1)) (sym (lacks_key minute ps e.minute lacks));
      at = keys_inserted minute ps e i;
      changed = record {
        available = sums (λ p. p.available);
        required = sums (λ p. p.required);
        small = λ a b s h.
            let wide = All-weaker (Small a) (Small (a + b)) (weaker_small a (a + b) (omega arith)) ps s in
            All-append (Small (a + b)) (take i ps) (e ∷ drop i ps) (All-take (Small (a + b)) i ps wide) (weaker_small b (a + b) (omega arith) e h, All-drop (Small (a + b)) i ps wide);
      };
    }

  -- altered at the place of its minute
  module _ (h : i < length ps) (same : e.minute ≡ (point_at ps i).minute) where
    abbrev new : Point
    new = changed_point (point_at ps i) e

    pub minutes_altered : minutes_of (set ps i new) ≡ minutes_of ps
    minutes_altered =
        map-set minute ps i new ∙ ap (set (minutes_of ps) i) (sym (get_or-map minute ps i _ 0 h)) ∙ set-get_or (minutes_of ps) i 0

    pub changed_altered : Changed ps e (set ps i new)
    changed_altered = record {
      available = λ t. upto_set (λ p. p.available) t ps i new e h refl same refl;
      required = λ t. upto_set (λ p. p.required) t ps i new e h refl same refl;
      small = λ a b s k.
          All-set (Small (a + b)) ps i new (small_altered a b _ e (All-get_or (Small a) ps i _ h s) k) (All-weaker (Small a) (Small (a + b)) (weaker_small a (a + b) (omega arith)) ps s);
    }

  module _ (at : Stands nat_cmp_total minute e.minute ps i) (up : Rising ps) where
    same_minute : e.minute ≡ (point_at ps i).minute
    same_minute = sym (key_stands minute ps e.minute i at _)

    known : has e.minute (minutes_of ps) ≡ true
    known = stands_known minute ps e.minute i e at

    pub entered_present : Entered ps e (set ps i (changed_point (point_at ps i) e))
    entered_present = record {
      rising = rising_set ps i _ refl at.0 up;
      count = length-set ps i _ ∙ omega (arith, ap (λ b. cond {A = ℕ} b 0 1) known);
      at = λ t. ap (has t) (minutes_altered at.0 same_minute) ∙ has_known t e.minute (minutes_of ps) known;
      changed = changed_altered at.0 same_minute;
    }

-- entering as the code does it: the row's `put` leaves the points ps'
module _ (most : ℕ) (ps ps' : List Point) (e : Point) (i : ℕ) where
  pub entered_by_put : Put most e ps ps' (Placed i) → Seated nat_cmp_total minute e ps (Placed i) → Rising ps' → Entered ps e ps'
  entered_by_put put seated up =
      let lacks = nowhere nat_cmp_total minute ps e.minute i seated.0 seated.1 in
      subst (Entered ps e) (sym put.2) (entered_placed ps e i put.0 lacks (subst Rising put.2 up))

  module _ (put : Put most e ps ps' (Present i)) where
    pub small_there : (b : ℕ) → AllByRecursion (Small b) ps → Small b (point_at ps' i)
    small_there b s = subst (λ qs. Small b (point_at qs i)) (sym put.1) (All-get_or (Small b) ps i _ put.0 s)

    pub entered_by_alter : Seated nat_cmp_total minute e ps (Present i) → Rising ps → (qs : List Point) → qs ≡ set ps' i (changed_point (point_at ps' i) e) → Entered ps e qs
    entered_by_alter seated up qs is =
        subst (Entered ps e) (sym (is ∙ ap (λ rs. set rs i (changed_point (point_at rs i) e)) put.1)) (entered_present ps e i seated up)

-- an alteration among the first len of the points
module _ (points : List Point) (len i : ℕ) (e : Point) (h : i < length (take len points)) where
  abbrev there : Point
  there = point_at (take len points) i

  pub taken_altered : take len (set points i (changed_point (point_at points i) e)) ≡ set (take len points) i (changed_point there e)
  taken_altered =
      let within : i < len = omega (arith, h, length-take len points) in
      take-set-lt len points i _ within ∙ ap (λ p. set (take len points) i (changed_point p e)) (sym (get_or-take len points i _ within))

  pub rising_altered : Rising (take len points) → Rising (take len (set points i (changed_point (point_at points i) e)))
  rising_altered up = subst Rising (sym taken_altered) (rising_set (take len points) i (changed_point there e) refl h up)

-- putting a minute that is there finds its place
module _ (ps : List Point) (e : Point) (t : ℕ) (same : e.minute ≡ t) where
  pub place_found : (i : ℕ) → Stands nat_cmp_total minute e.minute ps i → HasMinute (minutes_of ps) i t
  place_found i at = (
    omega (arith, at.0, length-map ps minute),
    get_or-map minute ps i no_point 0 at.0 ∙ key_stands minute ps e.minute i at no_point ∙ same,
  )

  pub never_lacking : has t (minutes_of ps) ≡ true → ((i : ℕ) → Stands nat_cmp_total minute e.minute ps i → ⊥) → ⊥
  never_lacking known lacks = false≢true (sym (lacks_key minute ps e.minute lacks) ∙ ap (λ u. has u (minutes_of ps)) same ∙ known)

-- what an alteration at the place of its minute leaves, where us are the minutes
pub record Altered (us : List ℕ) (ps : List Point) (e : Point) (qs : List Point) : Type 0 where
  pub changed : Changed ps e qs
  pub minutes : minutes_of qs ≡ us

module _ (us : List ℕ) (ps : List Point) (are : minutes_of ps ≡ us) (i t : ℕ) (place : HasMinute us i t) where
  place_inside : i < length ps
  place_inside = omega (arith, place.0, ap length are, length-map ps minute)

  pub altered_at : (qs : List Point) (e e' : Point) → e' ≡ e → e.minute ≡ t → qs ≡ set ps i (changed_point (point_at ps i) e') → Altered us ps e qs
  altered_at qs e e' same there is =
      let here : e.minute ≡ (point_at ps i).minute = there ∙ sym (sym (get_or-map minute ps i no_point 0 place_inside) ∙ ap (λ vs. get_or vs i 0) are ∙ place.1) in
      let made = is ∙ ap (λ d. set ps i (changed_point (point_at ps i) d)) same in
      record {
        changed = subst (Changed ps e) (sym made) (changed_altered ps e i place_inside here);
        minutes = ap minutes_of made ∙ minutes_altered ps e i place_inside here ∙ are;
      }

  pub small_at : (a b : ℕ) → a ≤ b → AllByRecursion (Small a) ps → Small b (point_at ps i)
  small_at a b few s = All-get_or (Small b) ps i _ place_inside (All-weaker (Small a) (Small b) (weaker_small a b few) ps s)
