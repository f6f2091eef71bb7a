-- The law of the tree: a node has one visit, and it is short and finds the best.
use Rattle.std.proofs.Common.{◌≡◌, ℕ, zero, suc, ◌+◌, ◌*◌, ◌<◌, ◌≤◌, ◌⊎◌, List, [], ◌∷◌, ◌++◌, length, sym, refl, ap, ◌∙◌, subst, inl, inr, arith}
use Rattle.std.proofs.lemmas.Bool.{cases_lt}
use Rattle.std.proofs.lemmas.List.{length-append}
use Rattle.lots.specs.Schedules.{load, end, Placed, Schedule}
use Rattle.lots.specs.Tables.{Lawful}
use Rattle.lots.specs.declared.Lot.{Lot}
use Rattle.rule.specs.Meanings.{Meaning, Outcome, dead, to, Sound}
use Rattle.rule.proofs.Chains.{narrower_keeps}
use Rattle.rule.proofs.Tables.{end_same}
use Rattle.tree.specs.Tree.{ways, BestKnown, known, EndsBy, Leaves, Fixed, earliest_starts, Branch, left, right, Closes, barren, above_capacity, found, Visit, leaf, fork, last_known, Falling, Optimal, TreeLaw}
use Rattle.tree.proofs.Ways.{ways_some, ways_fewer, to_the_end, left_lawful, right_lawful, left_work, right_work, left_narrower, right_narrower, ways_parts, parts, fixed_placed, fixed_only, fixed_or_branch}
use Rattle.tree.proofs.Nodes.{Below, below_trans, ends_by_or_not, Remains, leaves_remains, leaves_dead}
use Rattle.tree.proofs.Outcomes.{leaves_some}
use Rattle.tree.proofs.Once.{visit_same}

-- one list of bests after the other
pub last_known-append : (b : BestKnown) (ls rs : List BestKnown) → last_known b (ls ++ rs) ≡ last_known (last_known b ls) rs
last_known-append b [] rs = refl
last_known-append b (x ∷ xs) rs = last_known-append x xs rs

falling_append : (b : BestKnown) (ls rs : List BestKnown) → Falling b ls → Falling (last_known b ls) rs → Falling b (ls ++ rs)
falling_append b [] rs p q = q
falling_append b (x ∷ xs) rs p q = (p.0, falling_append x xs rs p.1 q)

-- the load passes the capacity at some minute, or at none: of those below n, and of all
pub full_below : (C n : ℕ) (U : List Lot) (ss : List ℕ) → ((t : ℕ) × (C < load t U ss)) ⊎ ((t : ℕ) → t < n → load t U ss ≤ C)
full_below C zero U ss = inr (λ t h. absurd (omega arith))
full_below C (suc n) U ss = elim (full_below C n U ss) [
  | inl p ↦ inl p
  | inr f ↦ elim (cases_lt C (load n U ss)) [
    | inl k ↦ inl (n, k)
    | inr k ↦ inr (λ t h. elim (cases_lt t n) [ inl l ↦ f t l | inr l ↦ let e : n ≡ t = omega arith in subst (λ i. load i U ss ≤ C) e k ])
  ]
]

pub full_or_within : (C : ℕ) (U : List Lot) (ss : List ℕ) → ((t : ℕ) × (C < load t U ss)) ⊎ ((t : ℕ) → load t U ss ≤ C)
full_or_within C U ss = elim (full_below C (end U ss) U ss) [
  | inl p ↦ inl p
  | inr f ↦ inr (to_the_end C U ss f)
]

-- a closed node that leaves the best known as it was
nothing_better : (C : ℕ) (T : List Lot) (b : BestKnown) → ((ss : List ℕ) → Schedule C T ss → EndsBy b (end T ss)) → Optimal C T b b
nothing_better C T b h = record { source = inl refl; no_later = λ k e. e; least = h }

-- the table U remains of the node T, where b is the best known
module _ (C : ℕ) (b : BestKnown) (T U : List Lot) (r : Remains C b T U) where
  -- a schedule of T ends by the best known, or it is one of U
  lost_or_kept : (ss : List ℕ) → Schedule C T ss → EndsBy b (end T ss) ⊎ Schedule C U ss
  lost_or_kept ss s = elim (ends_by_or_not b (end T ss)) [ inl h ↦ inl h | inr h ↦ inr (r.keeps ss s h) ]

  -- every lot of U has one start left
  module _ (f : Fixed U) where
    fixed_starts : Placed U (earliest_starts U)
    fixed_starts = fixed_placed C U r.below.lawful.each f

    above_optimal : (t : ℕ) → C < load t U (earliest_starts U) → Optimal C T b b
    above_optimal t o = nothing_better C T b (λ ss s. elim (lost_or_kept ss s) [
      | inl h ↦ h
      | inr q ↦
          let e = fixed_only C U ss r.below.lawful.each f q.placed in
          absurd (omega (arith, subst (λ us. load t U us ≤ C) e (q.within t)))
    ])

    module _ (w : (t : ℕ) → load t U (earliest_starts U) ≤ C) where
      found_here : Schedule C T (earliest_starts U)
      found_here = narrower_keeps C T U r.below.work r.below.narrower (earliest_starts U) (record { placed = fixed_starts; within = w })

      found_no_later : (k : ℕ) → EndsBy b k → end U (earliest_starts U) ≤ k
      found_no_later k h = omega (arith, r.ends (earliest_starts U) fixed_starts k h, end_same T U (earliest_starts U) r.below.work)

      found_least : (ss : List ℕ) → Schedule C U ss → end U (earliest_starts U) ≤ end T ss
      found_least ss s =
          let e = fixed_only C U ss r.below.lawful.each f s.placed in
          omega (arith, ap (end U) e, end_same T U ss r.below.work)

      found_optimal : Optimal C T b (known (earliest_starts U) (end U (earliest_starts U)))
      found_optimal = record {
        source = inr (earliest_starts U, ap (known (earliest_starts U)) (end_same T U (earliest_starts U) r.below.work), found_here);
        no_later = found_no_later;
        least = λ ss s. elim (lost_or_kept ss s) [ inl h ↦ found_no_later (end T ss) h | inr q ↦ found_least ss q ];
      }

-- where the best known comes from: from before, or from a schedule of T
abbrev Source : ℕ → List Lot → BestKnown → BestKnown → Type 0
Source C T b a = (a ≡ b) ⊎ ((ss : List ℕ) × (a ≡ known ss (end T ss)) × Schedule C T ss)

source_up : (C : ℕ) (T U : List Lot) (b a : BestKnown) → Below C T U → Source C U b a → Source C T b a
source_up C T U b a l (inl e) = inl e
source_up C T U b a l (inr (ss, e, s)) = inr (ss, e ∙ ap (known ss) (end_same T U ss l.work), narrower_keeps C T U l.work l.narrower ss s)

source_then : (C : ℕ) (T : List Lot) (a b c : BestKnown) → Source C T a b → Source C T b c → Source C T a c
source_then C T a b c p (inr q) = inr q
source_then C T a b c (inl p) (inl q) = inl (q ∙ p)
source_then C T a b c (inr (ss, e, s)) (inl q) = inr (ss, q ∙ e, s)

module _ (m : Meaning) (sound : Sound m) (C : ℕ) where
  -- the two nodes below the node T, where U is left of it
  module _ (b : BestKnown) (T U : List Lot) (ok : Lawful C T) (n : Leaves m C b T (to U)) (j : ℕ) (br : Branch U j) where
    here : Below C T U
    here = (leaves_remains m sound C b T U ok n).below

    pub left_below : Below C T (left j U)
    left_below =
        let k = here.lawful in
        below_trans C T U (left j U) here (record { lawful = left_lawful C U k j br; work = left_work C U k j br; narrower = left_narrower C U k j br })

    pub right_below : Below C T (right j U)
    right_below =
        let k = here.lawful in
        below_trans C T U (right j U) here (record { lawful = right_lawful C U k j br; work = right_work C U k j br; narrower = right_narrower C U k j br })

    pub ways_below : ways (left j U) + ways (right j U) ≤ ways T
    ways_below = omega (arith, ways_parts C U here.lawful j br, ways_fewer T U here.work here.narrower)

    -- what the two visits find is found at T
    fork_least : (a c : BestKnown) → Optimal C (left j U) b a → Optimal C (right j U) a c → (ss : List ℕ) → Schedule C T ss → EndsBy c (end T ss)
    fork_least a c p q ss s = elim (lost_or_kept C b T U (leaves_remains m sound C b T U ok n) ss s) [
      | inl h ↦ q.no_later (end T ss) (p.no_later (end T ss) h)
      | inr k ↦ elim (parts C U here.lawful j br ss k) [
        | inl x ↦ q.no_later (end T ss) (subst (EndsBy a) (end_same T (left j U) ss left_below.work) (p.least ss x))
        | inr x ↦ subst (EndsBy c) (end_same T (right j U) ss right_below.work) (q.least ss x)
      ]
    ]

    fork_optimal : (a c : BestKnown) → Optimal C (left j U) b a → Optimal C (right j U) a c → Optimal C T b c
    fork_optimal a c p q = record {
      source = source_then C T b a c (source_up C T (left j U) b a left_below p.source) (source_up C T (right j U) a c right_below q.source);
      no_later = λ k h. q.no_later k (p.no_later k h);
      least = fork_least a c p q;
    }

  -- there is a visit
  abbrev Visited : BestKnown → List Lot → Type 0
  Visited b T = (bs : List BestKnown) × Visit m C b T bs

  visit_fixed : (b : BestKnown) (T U : List Lot) → Leaves m C b T (to U) → Fixed U → Visited b T
  visit_fixed b T U n f = elim (full_or_within C U (earliest_starts U)) [
    | inl p ↦ (b ∷ [], leaf (above_capacity p.0 n f p.1))
    | inr w ↦ (known (earliest_starts U) (end U (earliest_starts U)) ∷ [], leaf (found n f w))
  ]

  visit_node : (b : BestKnown) (T : List Lot) → Lawful C T → (o : Outcome) → Leaves m C b T o → ((a : BestKnown) (U : List Lot) → Lawful C U → ways U < ways T → Visited a U) → Visited b T
  visit_node b T ok dead n go = (b ∷ [], leaf (barren n))
  visit_node b T ok (to U) n go = elim (fixed_or_branch C U (leaves_remains m sound C b T U ok n).below.lawful.each) [
    | inl f ↦ visit_fixed b T U n f
    | inr (j, br) ↦
        let fewer = ways_below b T U ok n j br in
        let l = go b (left j U) (left_below b T U ok n j br).lawful (omega (arith, ways_some (right j U))) in
        let r = go (last_known b l.0) (right j U) (right_below b T U ok n j br).lawful (omega (arith, ways_some (left j U))) in
        (b ∷ (l.0 ++ r.0), fork j n br l.1 r.1)
  ]

  visit_from : (k : ℕ) (b : BestKnown) (T : List Lot) → Lawful C T → ways T < k → Visited b T
  visit_from zero b T ok h = absurd (omega arith)
  visit_from (suc k) b T ok h =
      let n = leaves_some m sound C b T ok in
      visit_node b T ok n.0 n.1 (λ a U l f. visit_from k a U l (omega arith))

  pub visit_some : (b : BestKnown) (T : List Lot) → Lawful C T → (bs : List BestKnown) × Visit m C b T bs
  visit_some b T ok = visit_from (suc (ways T)) b T ok (omega arith)

  -- it is short
  pub visit_short : {b : BestKnown} {T : List Lot} {bs : List BestKnown} → Visit m C b T bs → Lawful C T → (1 ≤ length bs) × (length bs + 1 ≤ 2 * ways T)
  visit_short (leaf {T = T} h) ok = omega (arith, ways_some T)
  visit_short (fork {b} {T} {U} {ls} {rs} j n br p q) ok =
      let l = visit_short p (left_below b T U ok n j br).lawful in
      let r = visit_short q (right_below b T U ok n j br).lawful in
      omega (arith, ways_below b T U ok n j br, length-append ls rs)

  -- it finds the best
  closes_optimal : (b a : BestKnown) (T : List Lot) → Lawful C T → Closes m C b T a → Optimal C T b a
  closes_optimal b _ T ok (barren n) = nothing_better C T b (leaves_dead m sound C b T ok n)
  closes_optimal b _ T ok (above_capacity {U} t n f o) = above_optimal C b T U (leaves_remains m sound C b T U ok n) f t o
  closes_optimal b _ T ok (found {U} n f w) = found_optimal C b T U (leaves_remains m sound C b T U ok n) f w

  pub visit_optimal : {b : BestKnown} {T : List Lot} {bs : List BestKnown} → Visit m C b T bs → Lawful C T → Optimal C T b (last_known b bs)
  visit_optimal (leaf {b} {a} {T} h) ok = closes_optimal b a T ok h
  visit_optimal (fork {b} {T} {U} {ls} {rs} j n br p q) ok =
      let l = visit_optimal p (left_below b T U ok n j br).lawful in
      let r = visit_optimal q (right_below b T U ok n j br).lawful in
      subst (Optimal C T b) (sym (last_known-append b ls rs)) (fork_optimal b T U ok n j br (last_known b ls) (last_known (last_known b ls) rs) l r)

  pub visit_falling : {b : BestKnown} {T : List Lot} {bs : List BestKnown} → Visit m C b T bs → Lawful C T → Falling b bs
  visit_falling (leaf {b} {a} {T} h) ok = ((closes_optimal b a T ok h).no_later, tt)
  visit_falling (fork {b} {T} {U} {ls} {rs} j n br p q) ok =
      (λ k h. h, falling_append b ls rs (visit_falling p (left_below b T U ok n j br).lawful) (visit_falling q (right_below b T U ok n j br).lawful))

pub tree_law : (m : Meaning) → Sound m → (C : ℕ) (b : BestKnown) (T : List Lot) → Lawful C T → TreeLaw m C b T
tree_law m sound C b T ok = record {
  some = visit_some m sound C b T ok;
  one = λ bs cs p q. visit_same m C p cs q;
  short = λ bs p. let s = visit_short m sound C p ok in omega arith;
  optimal = λ bs p. visit_optimal m sound C p ok;
  falling = λ bs p. visit_falling m sound C p ok;
}
