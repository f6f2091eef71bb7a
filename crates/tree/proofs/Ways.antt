-- Narrower tables have fewer ways to start, and the two nodes below a table share its ways.
use Rattle.std.proofs.Common.{◌≡◌, ℕ, zero, suc, ◌+◌, ◌-◌, ◌*◌, ◌<◌, ◌≤◌, false, if◌then◌else◌, ◌⊎◌, List, [], ◌∷◌, length, set, sym, refl, ap, ap₂, ◌∙◌, inl, inr, add-mul, mul-add, mul-le-mul, arith}
use Rattle.std.proofs.Math.Nat.{one-le-mul}
use Rattle.std.proofs.ByRecursion.{All-set, All-get_or}
use Rattle.std.proofs.lemmas.Bool.{cases_lt}
use Rattle.std.proofs.lemmas.Bool.Decides.{nat_tests}
use Rattle.std.proofs.lemmas.List.{length-set}
use Rattle.std.specs.List.{AllZip, AllByRecursion}
use Rattle.lots.specs.Schedules.{spans, load, end, Placed, Schedule}
use Rattle.lots.specs.Tables.{lst, lot_at, LawfulLot, Lawful}
use Rattle.lots.specs.declared.Lot.{Lot}
use Rattle.rule.specs.Meanings.{SameWork, Narrower}
use Rattle.rule.specs.Laws.Schedules.{schedule_same}
use Rattle.rule.specs.Laws.Tables.{each_refl}
use Rattle.tree.specs.Tree.{ways, Fixed, earliest_starts, HasChoice, Branch, at_once, a_minute_later, left, right}

pub ways_some : (T : List Lot) → 1 ≤ ways T
ways_some [] = omega arith
ways_some (x ∷ xs) = one-le-mul {a = suc (lst x - x.est)} {b = ways xs} (omega arith) (ways_some xs)

pub ways_fewer : (T U : List Lot) → SameWork T U → Narrower T U → ways U ≤ ways T
ways_fewer [] [] w n = omega arith
ways_fewer [] (y ∷ ys) w n = absurd w
ways_fewer (x ∷ xs) [] w n = absurd w
ways_fewer (x ∷ xs) (y ∷ ys) w n = mul-le-mul {n₁ = suc (lst y - y.est)} {n₂ = suc (lst x - x.est)} (omega arith) (ways_fewer xs ys w.1 n.1)

-- once every lot is out, none is running
pub load_after : (t : ℕ) (T : List Lot) (ss : List ℕ) → end T ss ≤ t → load t T ss ≡ 0
load_after t [] ss h = refl
load_after t (x ∷ xs) [] h = refl
load_after t (x ∷ xs) (s ∷ ss) h =
    let out : spans s (s + x.p) t ≡ false = grind (arith, nat_tests) in
    ap₂ (λ b n. (if b then x.c else 0) + n) out (load_after t xs ss (omega arith))

-- so a load that is within the capacity until then is so at every minute
pub to_the_end : (C : ℕ) (T : List Lot) (ss : List ℕ) → ((t : ℕ) → t < end T ss → load t T ss ≤ C) → (t : ℕ) → load t T ss ≤ C
to_the_end C T ss within t = elim (cases_lt t (end T ss)) [ inl h ↦ within t h | inr h ↦ omega (arith, load_after t T ss h) ]

-- a table with the lot j changed
set_each : (R : Lot → Lot → Type 0) → ((x : Lot) → R x x) → (T : List Lot) (j : ℕ) (y : Lot) → j < length T → R (lot_at T j) y → AllZip R T (set T j y)
set_each R r [] j y h k = absurd (omega arith)
set_each R r (x ∷ xs) zero y h k = (k, each_refl R r xs)
set_each R r (x ∷ xs) (suc j) y h k = (r x, set_each R r xs j y (omega arith) k)

set_lawful : (C : ℕ) (T : List Lot) (j : ℕ) (y : Lot) → Lawful C T → LawfulLot C y → Lawful C (set T j y)
set_lawful C T j y ok here = record {
  some_trays = ok.some_trays;
  few_trays = ok.few_trays;
  few_lots = omega (arith, length-set T j y, ok.few_lots);
  each = All-set (LawfulLot C) T j y here ok.each;
}

set_work : (T : List Lot) (j : ℕ) (y : Lot) → j < length T → (y.p ≡ (lot_at T j).p) × (y.c ≡ (lot_at T j).c) → SameWork T (set T j y)
set_work T j y h k = set_each _ (λ x. (refl, refl)) T j y h k

set_narrower : (T : List Lot) (j : ℕ) (y : Lot) → j < length T → ((lot_at T j).est ≤ y.est) × (y.lct ≤ (lot_at T j).lct) → Narrower T (set T j y)
set_narrower T j y h k = set_each _ (λ x. omega arith) T j y h k

-- one start is the left node's, and all the others are the right node's
ways_shared : (U : List Lot) (j : ℕ) → j < length U → HasChoice (lot_at U j) → ways (left j U) + ways (right j U) ≡ ways U
ways_shared [] j h f = absurd (omega arith)
ways_shared (x ∷ xs) zero h f =
    let w = ways xs in
    let rest = lst x - x.est in
    let one : suc (lst (at_once x) - (at_once x).est) ≡ 1 = omega arith in
    let others : suc (lst (a_minute_later x) - (a_minute_later x).est) ≡ rest = omega arith in
    ap₂ (λ a b. a * w + b * w) one others ∙ sym (add-mul 1 rest w) ∙ ap (λ n. n * w) (omega arith)
ways_shared (x ∷ xs) (suc j) h f =
    let here = suc (lst x - x.est) in
    sym (mul-add here (ways (left j xs)) (ways (right j xs))) ∙ ap (λ n. here * n) (ways_shared xs j (omega arith) f)

placed_shared : (U : List Lot) (ss : List ℕ) (j : ℕ) → j < length U → Placed U ss → Placed (left j U) ss ⊎ Placed (right j U) ss
placed_shared [] ss j h p = absurd (omega arith)
placed_shared (x ∷ xs) [] j h p = absurd p
placed_shared (x ∷ xs) (s ∷ ss) zero h p = elim (cases_lt x.est s) [ inl k ↦ inr (omega arith, p.1) | inr k ↦ inl (omega arith, p.1) ]
placed_shared (x ∷ xs) (s ∷ ss) (suc j) h p = elim (placed_shared xs ss j (omega arith) p.1) [ inl q ↦ inl (p.0, q) | inr q ↦ inr (p.0, q) ]

-- the two nodes below a table, branched on the lot j
module _ (C : ℕ) (U : List Lot) (ok : Lawful C U) (j : ℕ) (b : Branch U j) where
  lawful_here : LawfulLot C (lot_at U j)
  lawful_here = All-get_or (LawfulLot C) U j _ b.inside ok.each

  pub left_lawful : Lawful C (left j U)
  left_lawful = let h = lawful_here in set_lawful C U j (at_once (lot_at U j)) ok (omega arith)

  pub right_lawful : Lawful C (right j U)
  right_lawful = let h = lawful_here in set_lawful C U j (a_minute_later (lot_at U j)) ok (omega (arith, b.choice))

  pub left_work : SameWork U (left j U)
  left_work = set_work U j (at_once (lot_at U j)) b.inside (refl, refl)

  pub right_work : SameWork U (right j U)
  right_work = set_work U j (a_minute_later (lot_at U j)) b.inside (refl, refl)

  pub left_narrower : Narrower U (left j U)
  left_narrower = let h = lawful_here in set_narrower U j (at_once (lot_at U j)) b.inside (omega arith)

  pub right_narrower : Narrower U (right j U)
  right_narrower = set_narrower U j (a_minute_later (lot_at U j)) b.inside (omega arith)

  pub ways_parts : ways (left j U) + ways (right j U) ≡ ways U
  ways_parts = ways_shared U j b.inside b.choice

  -- every schedule is one of the left node or one of the right
  pub parts : (ss : List ℕ) → Schedule C U ss → Schedule C (left j U) ss ⊎ Schedule C (right j U) ss
  parts ss s = elim (placed_shared U ss j b.inside s.placed) [
    | inl p ↦ inl (schedule_same C U (left j U) ss left_work p s)
    | inr p ↦ inr (schedule_same C U (right j U) ss right_work p s)
  ]

-- where every lot has one start left, the starts are these and no others
pub fixed_placed : (C : ℕ) (U : List Lot) → AllByRecursion (LawfulLot C) U → Fixed U → Placed U (earliest_starts U)
fixed_placed C [] ok f = tt
fixed_placed C (x ∷ xs) ok f = (omega arith, fixed_placed C xs ok.1 f.1)

pub fixed_only : (C : ℕ) (U : List Lot) (ss : List ℕ) → AllByRecursion (LawfulLot C) U → Fixed U → Placed U ss → ss ≡ earliest_starts U
fixed_only C [] [] ok f p = refl
fixed_only C [] (s ∷ ss) ok f p = absurd p
fixed_only C (x ∷ xs) [] ok f p = absurd p
fixed_only C (x ∷ xs) (s ∷ ss) ok f p = ap₂ ◌∷◌ (omega arith) (fixed_only C xs ss ok.1 f.1 p.1)

-- and no lot is left to branch on
pub fixed_none : (U : List Lot) (k : ℕ) → Fixed U → k < length U → HasChoice (lot_at U k) → ⊥
fixed_none U k f h e = let here : (lot_at U k).est ≡ lst (lot_at U k) = All-get_or (λ x. x.est ≡ lst x) U k _ h f in omega arith

-- the lots with a choice have an est of e at least; and those before the lot j one above e
abbrev FreeFrom : List Lot → ℕ → Type 0
FreeFrom U e = (k : ℕ) → k < length U → HasChoice (lot_at U k) → e ≤ (lot_at U k).est

abbrev FreeAfter : List Lot → ℕ → ℕ → Type 0
FreeAfter U j e = (k : ℕ) → k < j → HasChoice (lot_at U k) → e < (lot_at U k).est

free_from_more : (x : Lot) (xs : List Lot) (e : ℕ) → (HasChoice x → e ≤ x.est) → FreeFrom xs e → FreeFrom (x ∷ xs) e
free_from_more x xs e here rest zero h f = here f
free_from_more x xs e here rest (suc k) h f = rest k (omega arith) f

free_after_more : (x : Lot) (xs : List Lot) (j e : ℕ) → (HasChoice x → e < x.est) → FreeAfter xs j e → FreeAfter (x ∷ xs) (suc j) e
free_after_more x xs j e here rest zero h f = here f
free_after_more x xs j e here rest (suc k) h f = rest k (omega arith) f

-- one lot more in front: it is branched on, or it is not
branch_here : (x : Lot) (xs : List Lot) → HasChoice x → FreeFrom xs x.est → Branch (x ∷ xs) 0
branch_here x xs f rest = record {
  inside = omega arith;
  choice = f;
  earliest = free_from_more x xs x.est (λ _. omega arith) rest;
  first = λ k h. absurd (omega arith);
}

branch_further : (x : Lot) (xs : List Lot) (j : ℕ) → Branch xs j → (HasChoice x → (lot_at xs j).est < x.est) → Branch (x ∷ xs) (suc j)
branch_further x xs j b here = record {
  inside = omega (arith, b.inside);
  choice = b.choice;
  earliest = free_from_more x xs (lot_at xs j).est (λ f. omega (arith, here f)) b.earliest;
  first = free_after_more x xs j (lot_at xs j).est here b.first;
}

fixed_or_branch_more : (x : Lot) (xs : List Lot) → x.est ≤ lst x → Fixed xs ⊎ ((j : ℕ) × Branch xs j) → Fixed (x ∷ xs) ⊎ ((j : ℕ) × Branch (x ∷ xs) j)
fixed_or_branch_more x xs ok (inl f) = elim (cases_lt x.est (lst x)) [
  | inl h ↦ inr (0, branch_here x xs h (λ k l e. absurd (fixed_none xs k f l e)))
  | inr h ↦ inl (omega arith, f)
]
fixed_or_branch_more x xs ok (inr (j, b)) = elim (cases_lt x.est (lst x)) [
  | inl h ↦ elim (cases_lt (lot_at xs j).est x.est) [
    | inl k ↦ inr (suc j, branch_further x xs j b (λ _. k))
    | inr k ↦ inr (0, branch_here x xs h (λ i l e. omega (arith, b.earliest i l e)))
  ]
  | inr h ↦ inr (suc j, branch_further x xs j b (λ f. absurd (omega arith)))
]

-- either each lot has one start left, or there is a lot to branch on
pub fixed_or_branch : (C : ℕ) (U : List Lot) → AllByRecursion (LawfulLot C) U → Fixed U ⊎ ((j : ℕ) × Branch U j)
fixed_or_branch C [] ok = inl tt
fixed_or_branch C (x ∷ xs) ok = fixed_or_branch_more x xs (omega arith) (fixed_or_branch C xs ok.1)
