-- No node has two visits.
use Rattle.std.proofs.Common.{◌≡◌, ℕ, ◌<◌, ◌≤◌, List, [], ◌∷◌, ◌++◌, sym, refl, ap, ap₂, ◌∙◌, subst, inl, inr, arith}
use Rattle.std.proofs.lemmas.Bool.{cases_lt}
use Rattle.lots.specs.Schedules.{load, end}
use Rattle.lots.specs.declared.Lot.{Lot}
use Rattle.rule.specs.Meanings.{Meaning, dead, to}
use Rattle.tree.specs.Tree.{BestKnown, known, Leaves, Fixed, earliest_starts, Branch, left, right, Closes, barren, above_capacity, found, Visit, leaf, fork, last_known}
use Rattle.tree.proofs.Ways.{fixed_none}
use Rattle.tree.proofs.Outcomes.{leaves_same}

-- there is one lot at most to branch on
pub branch_same : (U : List Lot) (i j : ℕ) → Branch U i → Branch U j → i ≡ j
branch_same U i j p q = elim (cases_lt i j) [
  | inl h ↦ absurd (omega (arith, q.first i h p.choice, p.earliest j q.inside q.choice))
  | inr h ↦ elim (cases_lt j i) [
    | inl k ↦ absurd (omega (arith, p.first j k q.choice, q.earliest i p.inside p.choice))
    | inr k ↦ omega arith
  ]
]

-- the starts of a node that is closed by them
abbrev found_best : List Lot → BestKnown
found_best U = known (earliest_starts U) (end U (earliest_starts U))

not_both : (C t : ℕ) (U V : List Lot) → U ≡ V → C < load t U (earliest_starts U) → ((s : ℕ) → load s V (earliest_starts V) ≤ C) → ⊥
not_both C t U V e o w = omega (arith, subst (λ W. load t W (earliest_starts W) ≤ C) (sym e) (w t))

module _ (m : Meaning) (C : ℕ) where
  -- what is left of a node is one table at most, and not a table where nothing is left
  table_same : (b : BestKnown) (T U V : List Lot) → Leaves m C b T (to U) → Leaves m C b T (to V) → U ≡ V
  table_same b T U V p q = let e = leaves_same m C b T (to U) (to V) p q in cc

  table_none : (b : BestKnown) (T U : List Lot) → Leaves m C b T dead → Leaves m C b T (to U) → ⊥
  table_none b T U p q = let e = leaves_same m C b T dead (to U) p q in absurd (cc)

  -- a closed node has one best known after it, and nothing to branch on
  closes_same : (b x y : BestKnown) (T : List Lot) → Closes m C b T x → Closes m C b T y → x ≡ y
  closes_same b _ _ T (barren n) (barren k) = refl
  closes_same b _ _ T (barren n) (above_capacity t k f o) = refl
  closes_same b _ _ T (barren n) (found {U = U} k f w) = absurd (table_none b T U n k)
  closes_same b _ _ T (above_capacity t n f o) (barren k) = refl
  closes_same b _ _ T (above_capacity t n f o) (above_capacity s k g r) = refl
  closes_same b _ _ T (above_capacity {U = U} t n f o) (found {U = V} k g w) = absurd (not_both C t U V (table_same b T U V n k) o w)
  closes_same b _ _ T (found {U = U} n f w) (barren k) = absurd (table_none b T U k n)
  closes_same b _ _ T (found {U = U} n f w) (above_capacity {U = V} t k g o) = absurd (not_both C t V U (table_same b T V U k n) o w)
  closes_same b _ _ T (found {U = U} n f w) (found {U = V} k g r) = ap found_best (table_same b T U V n k)

  fixed_apart : (b : BestKnown) (T U V : List Lot) (j : ℕ) → Leaves m C b T (to U) → Fixed U → Leaves m C b T (to V) → Branch V j → ⊥
  fixed_apart b T U V j n f k br = fixed_none V j (subst Fixed (table_same b T U V n k) f) br.inside br.choice

  closes_apart : (b x : BestKnown) (T V : List Lot) (j : ℕ) → Closes m C b T x → Leaves m C b T (to V) → Branch V j → ⊥
  closes_apart b _ T V j (barren n) k br = table_none b T V n k
  closes_apart b _ T V j (above_capacity {U = U} t n f o) k br = fixed_apart b T U V j n f k br
  closes_apart b _ T V j (found {U = U} n f w) k br = fixed_apart b T U V j n f k br

  -- a visit, by its first node
  data First (b : BestKnown) (T : List Lot) (bs : List BestKnown) : Type 0 where
    closed : (a : BestKnown) → bs ≡ a ∷ [] → Closes m C b T a → First b T bs
    forked : (U : List Lot) (ls rs : List BestKnown) (j : ℕ) → bs ≡ b ∷ (ls ++ rs) → Leaves m C b T (to U) → Branch U j → Visit m C b (left j U) ls → Visit m C (last_known b ls) (right j U) rs → First b T bs

  first : {b : BestKnown} {T : List Lot} {bs : List BestKnown} → Visit m C b T bs → First b T bs
  first (leaf {a = a} h) = closed a refl h
  first (fork {U = U} {ls = ls} {rs = rs} j n br p q) = forked U ls rs j refl n br p q

  -- two forks of a node are alike
  fork_same : (b : BestKnown) (T U V : List Lot) (i j : ℕ) → Leaves m C b T (to U) → Branch U i → Leaves m C b T (to V) → Branch V j → (left j V ≡ left i U) × (right j V ≡ right i U)
  fork_same b T U V i j n br k cr =
      let u = table_same b T V U k n in
      let s = branch_same U j i (subst (λ W. Branch W j) u cr) br in
      (ap₂ (λ (n : ℕ) (W : List Lot). left n W) s u, ap₂ (λ (n : ℕ) (W : List Lot). right n W) s u)

  pub visit_same : {b : BestKnown} {T : List Lot} {bs : List BestKnown} → Visit m C b T bs → (cs : List BestKnown) → Visit m C b T cs → bs ≡ cs
  visit_same (leaf {b} {a} {T} h) cs v = go (first v)
    where
      go : First b T cs → a ∷ [] ≡ cs
      go (closed x e k) = ap (λ y. y ∷ []) (closes_same b a x T h k) ∙ sym e
      go (forked U ls rs j e n br p q) = absurd (closes_apart b a T U j h n br)
  visit_same (fork {b} {T} {U} {ls} {rs} i n br p q) cs v = go (visit_same p) (visit_same q) (first v)
    where
      go : ((xs : List BestKnown) → Visit m C b (left i U) xs → ls ≡ xs) → ((xs : List BestKnown) → Visit m C (last_known b ls) (right i U) xs → rs ≡ xs) → First b T cs → b ∷ (ls ++ rs) ≡ cs
      go f g (closed x e k) = absurd (closes_apart b x T U i k n br)
      go f g (forked V us vs j e k cr p' q') =
          let s = fork_same b T U V i j n br k cr in
          let l = f us (subst (λ W. Visit m C b W us) s.0 p') in
          let r = g vs (subst (λ a. Visit m C a (right i U) vs) (ap (last_known b) (sym l)) (subst (λ W. Visit m C (last_known b us) W vs) s.1 q')) in
          ap₂ (λ (x y : List BestKnown). b ∷ (x ++ y)) l r ∙ sym e
