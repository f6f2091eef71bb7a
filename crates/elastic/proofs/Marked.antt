-- Lots of a table that are marked.
use Rattle.std.proofs.Common.{◌≡◌, ℕ, zero, suc, ◌+◌, ◌<◌, ◌≤◌, Bool, true, false, if◌then◌else◌, ◌&&◌, ◌||◌, eqb, ltb, List, [], ◌∷◌, ◌++◌, length, replicate, get_or, set, refl, ap, ◌∙◌, ap₂, inl, inr, arith}
use Rattle.std.specs.List.{AllByRecursion}
use Rattle.std.proofs.lemmas.Bool.{cases_eq, cases_lt, cond_both, and_from, or_left, or_right, eq-eqb, lt-ltb, le-leb}
use Rattle.std.proofs.lemmas.List.{get_or-replicate, length-replicate, get_or_past, append-nil}
use Rattle.lots.specs.Limits.{max_capacity}
use Rattle.lots.specs.Tables.{lot_at, LawfulLot, Lawful}
use Rattle.lots.specs.declared.Lot.{Lot}
use Rattle.lots.proofs.Tables.{lawful_under_most}
use Rattle.elastic.specs.Marked.{marked_lots, stand_in_lot, stand_in}
use Rattle.elastic.specs.Profile.{earliest}

pub marked_lots-none : (n : ℕ) (T : List Lot) → marked_lots (replicate n false) T ≡ []
marked_lots-none zero T = refl
marked_lots-none (suc n) [] = refl
marked_lots-none (suc n) (x ∷ xs) = marked_lots-none n xs

pub none_marked : (n k : ℕ) → get_or (replicate n false) k false ≡ false
none_marked n k = elim (cases_lt k n) [
  | inl h ↦ get_or-replicate n k false false h
  | inr h ↦ get_or_past (replicate n false) k false (omega (arith, length-replicate n false, h))
]

pub marked_lots-all : (bs : List Bool) (T : List Lot) → ((k : ℕ) → k < length T → get_or bs k false ≡ true) → marked_lots bs T ≡ T
marked_lots-all [] [] h = refl
marked_lots-all [] (x ∷ xs) h = absurd (let z : false ≡ true = h 0 (omega arith) in cc)
marked_lots-all (b ∷ bs) [] h = refl
marked_lots-all (b ∷ bs) (x ∷ xs) h =
    ap₂ (λ c ys. if c then x ∷ ys else ys) (h 0 (omega arith)) (marked_lots-all bs xs (λ k l. h (suc k) (omega arith)))

-- marks from the front
pub marked_more : (bs bs' : List Bool) (n l : ℕ) → n < l → ((k : ℕ) → get_or bs' k false ≡ (get_or bs k false || (eqb k n && ltb n l))) → ((k : ℕ) → k < n → get_or bs k false ≡ true) → (k : ℕ) → k < n + 1 → get_or bs' k false ≡ true
marked_more bs bs' n l h is before k low = is k ∙ elim (cases_eq k n) [
  | inl e ↦ or_right (get_or bs k false) (eqb k n && ltb n l) (and_from (eqb k n) (ltb n l) (eq-eqb k n e) (lt-ltb n l h))
  | inr ne ↦ or_left (get_or bs k false) (eqb k n && ltb n l) (before k (omega arith))
]

pub cond_append : (b : Bool) (x : Lot) (xs ys : List Lot) → (if b then x ∷ (xs ++ ys) else xs ++ ys) ≡ (if b then x ∷ xs else xs) ++ ys
cond_append true x xs ys = refl
cond_append false x xs ys = refl

-- one mark more puts its lot among the others
pub record Among (bs : List Bool) (T : List Lot) (n : ℕ) : Type 0 where
  pub before : List Lot
  pub after : List Lot
  pub without : marked_lots bs T ≡ before ++ after
  pub with_it : marked_lots (set bs n true) T ≡ before ++ (lot_at T n ∷ after)

pub marked_lots-set : (bs : List Bool) (T : List Lot) (n : ℕ) → n < length T → n < length bs → get_or bs n false ≡ false → Among bs T n
marked_lots-set [] T n h k e = absurd (omega arith)
marked_lots-set (b ∷ bs) [] n h k e = absurd (omega arith)
marked_lots-set (b ∷ bs) (x ∷ xs) zero h k e = record {
  before = [];
  after = marked_lots bs xs;
  without = ap (λ c. if c then x ∷ marked_lots bs xs else marked_lots bs xs) e;
  with_it = refl;
}
marked_lots-set (b ∷ bs) (x ∷ xs) (suc n) h k e =
    let r = marked_lots-set bs xs n (omega arith) (omega arith) e in
    record {
      before = if b then x ∷ r.before else r.before;
      after = r.after;
      without = ap (λ ys. if b then x ∷ ys else ys) r.without ∙ cond_append b x r.before r.after;
      with_it = ap (λ ys. if b then x ∷ ys else ys) r.with_it ∙ cond_append b x r.before (lot_at xs n ∷ r.after);
    }

-- some of a lawful table are one, under the greatest capacity
length-marked_lots : (bs : List Bool) (T : List Lot) → length (marked_lots bs T) ≤ length T
length-marked_lots [] T = omega arith
length-marked_lots (b ∷ bs) [] = omega arith
length-marked_lots (b ∷ bs) (x ∷ xs) =
    cond_both b (x ∷ marked_lots bs xs) (marked_lots bs xs) (λ ys. length ys ≤ suc (length xs)) (λ e. omega (arith, length-marked_lots bs xs)) (λ e. omega (arith, length-marked_lots bs xs))

-- a lot that is not marked makes them fewer
pub some_missing : (bs : List Bool) (T : List Lot) (n : ℕ) → n < length T → get_or bs n false ≡ false → length (marked_lots bs T) < length T
some_missing [] T n h e = omega (arith, h)
some_missing (b ∷ bs) [] n h e = absurd (omega arith)
some_missing (b ∷ bs) (x ∷ xs) zero h e = omega (arith, ap (λ c. length (if c then x ∷ marked_lots bs xs else marked_lots bs xs)) e, length-marked_lots bs xs)
some_missing (b ∷ bs) (x ∷ xs) (suc n) h e =
    let rest = some_missing bs xs n (omega arith) e in
    cond_both b (x ∷ marked_lots bs xs) (marked_lots bs xs) (λ ys. length ys < suc (length xs)) (λ e. omega (arith, rest)) (λ e. omega (arith, rest))

All-marked_lots : (P : Lot → Type 0) (bs : List Bool) (T : List Lot) → AllByRecursion P T → AllByRecursion P (marked_lots bs T)
All-marked_lots P [] T h = tt
All-marked_lots P (b ∷ bs) [] h = tt
All-marked_lots P (b ∷ bs) (x ∷ xs) h =
    cond_both b (x ∷ marked_lots bs xs) (marked_lots bs xs) (AllByRecursion P) (λ e. (h.0, All-marked_lots P bs xs h.1)) (λ e. All-marked_lots P bs xs h.1)

pub Lawful-marked_lots : (bs : List Bool) (C : ℕ) (T : List Lot) → Lawful C T → Lawful max_capacity (marked_lots bs T)
Lawful-marked_lots bs C T given =
    let ok = lawful_under_most C T given in
    record {
      some_trays = ok.some_trays;
      few_trays = ok.few_trays;
      few_lots = omega (arith, length-marked_lots bs T, ok.few_lots);
      each = All-marked_lots (LawfulLot max_capacity) bs T ok.each;
    }

pub append-no_stand_in : (Ω : List Lot) → Ω ++ stand_in 0 0 Ω ≡ Ω
append-no_stand_in Ω =
    ap (λ b. Ω ++ (if b then [] else stand_in_lot 0 0 Ω ∷ [])) (le-leb 0 (earliest Ω) (omega arith)) ∙ append-nil Ω

pub trays_fit : (C : ℕ) (T : List Lot) (n : ℕ) → AllByRecursion (LawfulLot C) T → (lot_at T n).c ≤ C
trays_fit C [] n h = omega arith
trays_fit C (x ∷ xs) zero h = h.0.has_trays
trays_fit C (x ∷ xs) (suc n) h = trays_fit C xs n h.1
