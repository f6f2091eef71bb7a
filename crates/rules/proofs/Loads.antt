-- The loads of the fixed parts, minute by minute, and what is read off them.
use Rattle.std.proofs.Common.{◌≡◌, ℕ, zero, suc, ◌+◌, ◌-◌, ◌*◌, ◌<◌, ◌≤◌, Bool, true, false, if◌then◌else◌, ◌&&◌, ltb, leb, List, [], ◌∷◌, length, get_or, take, Ok, refl, sym, ap, ◌∙◌, subst, arith}
use Rattle.std.specs.List.{AllByRecursion, sum_by}
use Rattle.std.proofs.ByRecursion.{All-get_or}
use Rattle.std.proofs.lemmas.Bool.Decides.{nat_tests}
use Rattle.std.proofs.lemmas.List.Recursion.{is_sum_by}
use Rattle.std.proofs.lemmas.List.Sums.{sum_by-cons, sum_by_more, sum_by-take-le}
use Rattle.lots.specs.Limits.{horizon, max_capacity, max_lots}
use Rattle.lots.specs.Tables.{ect, lot_at, LawfulLot, Lawful}
use Rattle.lots.specs.declared.Lot.{Lot}
use Rattle.lots.specs.declared.table.Table.{Table}
use Rattle.lots.proofs.Tables.{lawful_under_most}
use Rattle.rule.specs.Meanings.{Applied, dead, IsVerdictOn}
use Rattle.rule.specs.Raised.{raise}
use Rattle.rule.specs.declared.Verdict.{Verdict}
use Rattle.rule.specs.declared.Verdict.TheVariants.{Dead}
use Rattle.rules.specs.TimeTable.{fixed_trays, fixed_load, fixed_load_of_others, some_passes, after_last, bound_of, time_table}
use Rattle.rules.specs.Private.Changes.{trays_begun, trays_ended, begun_at, ended_at}
use Rattle.rules.specs.Private.Loads.{is_blocked_under}
use Rattle.rules.specs.declared.time_table.Loads.{Loads}
use Rattle.rules.proofs.Greatest.{some_by_greatest}
use Rattle.rules.proofs.Searches.{after_last_same}
use Rattle.rules.proofs.Raised.{raise_same, applied_from_verdict}

-- the load is a sum over the lots
fixed_sum : (T : List Lot) (t : ℕ) → fixed_load T t ≡ sum_by (λ x. fixed_trays x t) T
fixed_sum T t = is_sum_by (λ xs. fixed_load xs t) (λ x. fixed_trays x t) refl (λ x xs. refl) T

-- sums over one lot more
pub sum_more : (f : Lot → ℕ) (T : List Lot) (i : ℕ) → i < length T → sum_by f (take (i + 1) T) ≡ sum_by f (take i T) + f (lot_at T i)
sum_more f T i h = sum_by_more f T i (lot_at [] 0) h

pub fixed_more : (T : List Lot) (i t : ℕ) → i < length T → fixed_load (take (i + 1) T) t ≡ fixed_load (take i T) t + fixed_trays (lot_at T i) t
fixed_more T i t h = omega (arith, fixed_sum (take (i + 1) T) t, fixed_sum (take i T) t, sum_more (λ x. fixed_trays x t) T i h)

-- each lot counts for its trays at most
fixed_le : (x : Lot) (t : ℕ) → fixed_trays x t ≤ x.c
fixed_le x t = grind (arith, nat_tests)

begun_le : (x : Lot) (t : ℕ) → trays_begun t x ≤ x.c
begun_le x t = grind (arith, nat_tests)

ended_le : (x : Lot) (t : ℕ) → trays_ended t x ≤ x.c
ended_le x t = grind (arith, nat_tests)

sum_few : (f : Lot → ℕ) → ((x : Lot) → f x ≤ x.c) → (T : List Lot) → AllByRecursion (LawfulLot max_capacity) T → sum_by f T ≤ max_capacity * length T
sum_few f le [] ok = omega arith
sum_few f le (x ∷ xs) ok = omega (arith, sum_by-cons f x xs, le x, ok.0.has_trays, sum_few f le xs ok.1)

-- what a fixed part begins at a minute it holds there
begun_held : (x : Lot) (t : ℕ) → trays_begun t x ≤ fixed_trays x t
begun_held x t = grind (arith, nat_tests)

pub begun_loaded : (T : List Lot) (t : ℕ) → begun_at T t ≤ fixed_load T t
begun_loaded [] t = omega arith
begun_loaded (x ∷ xs) t = omega (arith, sum_by-cons (trays_begun t) x xs, begun_held x t, begun_loaded xs t)

-- the load of the minute before
abbrev pub load_before : List Lot → ℕ → ℕ
load_before T zero = 0
load_before T (suc t) = fixed_load T t

-- from one minute to the next it changes by what begins and what ends
first_change : (x : Lot) → fixed_trays x 0 + trays_ended 0 x ≡ trays_begun 0 x
first_change x = grind (arith, nat_tests)

next_change : (x : Lot) (t : ℕ) → fixed_trays x (suc t) + trays_ended (suc t) x ≡ fixed_trays x t + trays_begun (suc t) x
next_change x t = grind (arith, nat_tests)

pub load_changes : (T : List Lot) (t : ℕ) → fixed_load T t + ended_at T t ≡ load_before T t + begun_at T t
load_changes [] zero = refl
load_changes [] (suc t) = refl
load_changes (x ∷ xs) zero = omega (arith, sum_by-cons (trays_begun 0) x xs, sum_by-cons (trays_ended 0) x xs, first_change x, load_changes xs zero)
load_changes (x ∷ xs) (suc t) = omega (arith, sum_by-cons (trays_begun (suc t)) x xs, sum_by-cons (trays_ended (suc t)) x xs, next_change x t, load_changes xs (suc t))

pub load_next : (T : List Lot) (t u : ℕ) → u ≡ t + 1 → load_before T u ≡ fixed_load T t
load_next T t u e =
    let next : u ≡ suc t = omega arith in
    ap (load_before T) next

-- nothing is held before a minute before which no load is
pub none_before : (T : List Lot) (t : ℕ) → ((u : ℕ) → u < t → fixed_load T u ≡ 0) → load_before T t ≡ 0
none_before T zero none = refl
none_before T (suc t) none = none t (omega arith)

-- the fixed parts of all are those of one and of the others
pub fixed_split : (j : ℕ) (T : List Lot) (t : ℕ) → j < length T → fixed_load T t ≡ fixed_trays (lot_at T j) t + fixed_load_of_others j T t
fixed_split j [] t h = absurd (omega arith)
fixed_split zero (x ∷ xs) t h = refl
fixed_split (suc j) (x ∷ xs) t h = omega (arith, fixed_split j xs t (omega arith))

-- what is known of the lots of a table
module _ (s : Table) where
  lawful : Lawful max_capacity s.lots.now
  lawful = lawful_under_most s.capacity s.lots.now s.lawful

  pub lots_few : length s.lots.now ≤ max_lots
  lots_few = lawful.few_lots

  pub lot_lawful : (j : ℕ) → j < length s.lots.now → LawfulLot s.capacity (lot_at s.lots.now j)
  lot_lawful j h = All-get_or _ _ _ _ h s.lawful.each

  -- sums over the lots are of few enough trays for 16 bits
  sums_few : (f : Lot → ℕ) → ((x : Lot) → f x ≤ x.c) → (i : ℕ) → sum_by f (take i s.lots.now) ≤ max_capacity * max_lots
  sums_few f le i = omega (arith, sum_by-take-le f s.lots.now i, sum_few f le s.lots.now lawful.each, lots_few)

  pub begun_few : (i t : ℕ) → begun_at (take i s.lots.now) t ≤ max_capacity * max_lots
  begun_few i t = sums_few (trays_begun t) (λ x. begun_le x t) i

  pub ended_few : (i t : ℕ) → ended_at (take i s.lots.now) t ≤ max_capacity * max_lots
  ended_few i t = sums_few (trays_ended t) (λ x. ended_le x t) i

  pub loads_few : (t : ℕ) → fixed_load s.lots.now t ≤ max_capacity * max_lots
  loads_few t = omega (arith, fixed_sum s.lots.now t, sum_few (λ x. fixed_trays x t) (λ x. fixed_le x t) s.lots.now lawful.each, lots_few)

  pub load_before_few : (t : ℕ) → load_before s.lots.now t ≤ max_capacity * max_lots
  load_before_few zero = omega arith
  load_before_few (suc t) = loads_few t

  -- whether some load passes the capacity
  abbrev pub passes : Bool
  passes = some_passes s.capacity s.lots.now

-- what is read off the loads of a table
module _ (l : Loads) where
  pub passes_read : (b : Bool) → b ≡ ltb l.table.capacity l.greatest → b ≡ passes l.table
  passes_read b is = is ∙ ap (ltb l.table.capacity) l.is_greatest ∙ sym (some_by_greatest l.table.capacity (fixed_load l.table.lots.now) horizon)

  -- the bound by the loads of all is the bound by those of the others
  pub bound_read : (j : ℕ) → j < length l.table.lots.now → after_last (is_blocked_under l (lot_at l.table.lots.now j)) (ect (lot_at l.table.lots.now j)) ≡ bound_of l.table.capacity l.table.lots.now j
  bound_read j h =
      let x = lot_at l.table.lots.now j in
      let ok = lot_lawful l.table j h in
      after_last_same _ _ (ect x) (λ t going.
      let others : x.c + get_or l.by_minute.now t 0 - fixed_trays x t ≡ x.c + fixed_load_of_others j l.table.lots.now t = omega (arith, l.loaded t (omega (arith, ok.has_time, ok.in_week)), fixed_split j l.table.lots.now t h) in
      ap (λ n. leb x.est t && ltb l.table.capacity n) others)

-- the rule at the capacity C and the lots T: the loads are of the table s, which is the table t of these
module _ (C : ℕ) (T : List Lot) (s t : Table) (same : s ≡ t) (is : (t.capacity ≡ C) × (t.lots.now ≡ T) × Lawful C T) where
  here : (P : ℕ → List Lot → Type 0) → P s.capacity s.lots.now → P C T
  here P h = subst (λ D. P D T) (ap (λ (u : Table). u.capacity) same ∙ is.0) (subst (P s.capacity) (ap (λ (u : Table). u.lots.now) same ∙ is.1) h)

  choice : (b : Bool) → b ≡ passes s → time_table s.capacity s.lots.now ≡ (if b then dead else raise (bound_of s.capacity s.lots.now) s.lots.now)
  choice b e = ap (λ d. if d then dead else raise (bound_of s.capacity s.lots.now) s.lots.now) (sym e)

  pub dead_applied : true ≡ passes s → Applied time_table C T T (Ok Dead)
  dead_applied e = (is.2, (here (λ D U. time_table D U ≡ dead) (choice true e), refl))

  pub raise_applied : false ≡ passes s → (bound : ℕ → ℕ) → ((j : ℕ) → j < length s.lots.now → bound j ≡ bound_of s.capacity s.lots.now j) → (U : List Lot) (v : Verdict) → IsVerdictOn (raise bound T) T U v → Applied time_table C T U (Ok v)
  raise_applied e bound bounds U v =
      applied_from_verdict time_table C T U bound v is.2 (here (λ D U. time_table D U ≡ raise bound U) (choice false e ∙ sym (raise_same bound (bound_of s.capacity s.lots.now) s.lots.now bounds)))
