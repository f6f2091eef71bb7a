-- Points: the minutes at which a profile can change, and by how much.
use Rattle.std.specs.Prelude.{◌≡◌, ℕ, ◌+◌, ◌*◌, ◌<◌, true, if◌then◌else◌, ◌||◌, List, [], ◌∷◌, map, length, ℤ, pos, ◌+ℤ◌, neg_ℤ, ◌≤ℤ◌, ◌==◌, nat_le, slice_index, slice_index_or}
use Rattle.std.specs.Cmp.{nat_cmp_total}
use Rattle.std.specs.List.{AllByRecursion}
use Rattle.lots.specs.Limits.{max_capacity, max_lots}
use Rattle.lots.specs.Tables.{ect, lot_at}
use Rattle.lots.specs.declared.Lot.{Lot}
use Rattle.elastic.specs.Profile as profile
use Rattle.elastic.specs.Profile.{creq, minutes, distinct, points_of_a_lot, has}
use Rattle.row.specs.Rows.{Ascending}
use Rattle.elastic.specs.declared.points.Places.{Places}
use Rattle.elastic.specs.declared.points.Point.{Point}

-- the most points of a table
abbrev pub max_points : ℕ
max_points = points_of_a_lot * max_lots

abbrev pub minutes_of : List Point → List ℕ
minutes_of ps = map (λ p. p.minute) ps

-- the minutes are in strict order
abbrev pub Rising : List Point → Type 0
Rising ps = Ascending nat_cmp_total (λ p. p.minute) ps

-- the sum of one of the two changes over the points up to the minute t
abbrev pub upto : (Point → ℤ) → List Point → ℕ → ℤ
upto change [] t = pos 0
upto change (p ∷ ps) t = (if nat_le p.minute t then change p else pos 0) +ℤ upto change ps t

abbrev pub available_upto : List Point → ℕ → ℤ
available_upto = upto (λ p. p.available)

abbrev pub required_upto : List Point → ℕ → ℤ
required_upto = upto (λ p. p.required)

-- each change of the point p lies between −b and b
pub record Small (b : ℕ) (p : Point) : Type 0 where
  pub available_low : neg_ℤ (pos b) ≤ℤ p.available
  pub available_high : p.available ≤ℤ pos b
  pub required_low : neg_ℤ (pos b) ≤ℤ p.required
  pub required_high : p.required ≤ℤ pos b

-- no point: three zeros
abbrev pub no_point : Point
no_point = record { minute = 0; available = pos 0; required = pos 0 }

-- the point of a place, from 0; past the last, no point
abbrev pub point_at : List Point → ℕ → Point
point_at ps i = slice_index_or ps i no_point

-- the point p with the changes of e added to its own
abbrev pub changed_point : Point → Point → Point
changed_point p e =
    record p { available = p.available +ℤ e.available; required = p.required +ℤ e.required }

-- the point p without its changes
abbrev pub unchanging_point : Point → Point
unchanging_point p = record p { available = pos 0; required = pos 0 }

-- the sums of the points qs are those of ps and the changes of e
pub record Changed (ps : List Point) (e : Point) (qs : List Point) : Type 0 where
  pub available : (t : ℕ)
      → available_upto qs t ≡ available_upto ps t +ℤ (if nat_le e.minute t then e.available else pos 0)
  pub required : (t : ℕ)
      → required_upto qs t ≡ required_upto ps t +ℤ (if nat_le e.minute t then e.required else pos 0)
  pub small : (a b : ℕ) → AllByRecursion (Small a) ps → Small b e → AllByRecursion (Small (a + b)) qs

-- qs are the points ps with the changes of e entered at its minute
pub record Entered (ps : List Point) (e : Point) (qs : List Point) : Type 0 where
  pub rising : Rising qs
  pub count : length qs ≡ length ps + (if has e.minute (minutes_of ps) then 0 else 1)
  pub at : (t : ℕ) → has t (minutes_of qs) ≡ (t == e.minute || has t (minutes_of ps))
  pub changed : Changed ps e qs

-- the changes that a lot brings at its est, ect and lct
abbrev pub at_est : Lot → Point
at_est x = record { minute = x.est; available = pos x.c; required = pos x.c }

abbrev pub at_ect : Lot → Point
at_ect x = record { minute = ect x; available = pos 0; required = neg_ℤ (pos x.c) }

abbrev pub at_lct : Lot → Point
at_lct x = record { minute = x.lct; available = neg_ℤ (pos x.c); required = pos 0 }

-- the points ps have the minutes ts, each once and in their order
pub record Gathers (ps : List Point) (ts : List ℕ) : Type 0 where
  pub rising : Rising ps
  pub count : length ps ≡ distinct ts
  pub at : (t : ℕ) → has t (minutes_of ps) ≡ has t ts

-- the changes of the points ps are those of the lots Ω
pub record Changes (ps : List Point) (Ω : List Lot) : Type 0 where
  pub available : (t : ℕ) → available_upto ps t ≡ pos (profile.available Ω t)
  pub required : (t : ℕ) → required_upto ps t ≡ pos (creq Ω t)
  pub small : AllByRecursion (Small (points_of_a_lot * max_capacity * length Ω)) ps

-- ps are the points of the table T, with the changes of the lots Ω
pub record Profiles (ps : List Point) (T Ω : List Lot) : Type 0 where
  pub gathers : Gathers ps (minutes T)
  pub changes : Changes ps Ω

-- the minute t stands at the place i of the minutes us
abbrev pub HasMinute : List ℕ → ℕ → ℕ → Type 0
HasMinute us i t = (i < length us) × (slice_index us i ≡ t)

-- the minutes us have those of the lot x
pub record KnowsLot (us : List ℕ) (x : Lot) : Type 0 where
  pub est : has x.est us ≡ true
  pub ect : has (ect x) us ≡ true
  pub lct : has x.lct us ≡ true

-- the minutes of the lot x stand at the places q
pub record HasPlaces (us : List ℕ) (x : Lot) (q : Places) : Type 0 where
  pub est : HasMinute us q.est x.est
  pub ect : HasMinute us q.ect (ect x)
  pub lct : HasMinute us q.lct x.lct

-- the places of the lot of a number
abbrev pub places_at : List Places → ℕ → Places
places_at qs k = slice_index_or qs k (record { est = 0; ect = 0; lct = 0 })

-- the minutes of each lot of T stand at the places of its number
abbrev pub HavePlaces : List ℕ → List Lot → List Places → Type 0
HavePlaces us T qs = (k : ℕ) → k < length T → HasPlaces us (lot_at T k) (places_at qs k)
