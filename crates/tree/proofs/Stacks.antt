-- The unvisited nodes, and the visit that is left of them.
use Rattle.std.proofs.Common.{◌≡◌, ℕ, zero, suc, ◌+◌, ◌-◌, ◌<◌, ◌≤◌, true, false, if◌then◌else◌, nat_lt, List, [], ◌∷◌, ◌++◌, length, sym, ap, ◌∙◌, subst, append_assoc, arith}
use Rattle.std.proofs.lemmas.Bool.Decides.{nat_tests}
use Rattle.std.proofs.lemmas.List.Elements.{length_all_zip}
use Rattle.lots.specs.Tables.{ect, lst, lot_at, Lawful}
use Rattle.lots.specs.declared.Lot.{Lot}
use Rattle.rule.specs.Meanings.{Meaning, to, SameWork, Narrower, Sound}
use Rattle.tree.specs.Private.Stack.{choice_count, Standing, Advances, closing, forking}
use Rattle.tree.specs.Tree.{BestKnown, Leaves, HasChoice, Branch, left, right, Visit, leaf, fork, last_known}
use Rattle.tree.proofs.Ways.{right_work, right_narrower}
use Rattle.tree.proofs.Nodes.{leaves_remains}
use Rattle.tree.proofs.Law.{left_below, right_below, last_known-append}

-- lots with a choice of starts
choice-narrower : (x y : Lot) → y.p ≡ x.p → x.est ≤ y.est → y.lct ≤ x.lct → (if nat_lt y.est (lst y) then 1 else 0) ≤ (if nat_lt x.est (lst x) then 1 else 0)
choice-narrower x y e f g = grind (arith, nat_tests)

choice_count-narrower : (T U : List Lot) → SameWork T U → Narrower T U → choice_count U ≤ choice_count T
choice_count-narrower [] [] w n = omega arith
choice_count-narrower [] (y ∷ ys) w n = absurd w
choice_count-narrower (x ∷ xs) [] w n = absurd w
choice_count-narrower (x ∷ xs) (y ∷ ys) w n = omega (arith, choice-narrower x y w.0.0 n.0.0 n.0.1, choice_count-narrower xs ys w.1 n.1)

choice_count-left : (U : List Lot) (j : ℕ) → j < length U → HasChoice (lot_at U j) → choice_count (left j U) + 1 ≤ choice_count U
choice_count-left [] j h f = absurd (omega arith)
choice_count-left (x ∷ xs) zero h f =
    let on : nat_lt x.est (lst x) ≡ true = grind (arith, nat_tests) in
    let off : nat_lt x.est (ect x - x.p) ≡ false = grind (arith, nat_tests) in
    omega (arith, ap (λ b. (if b then 1 else 0) + choice_count xs) on, ap (λ b. (if b then 1 else 0) + choice_count xs) off)
choice_count-left (x ∷ xs) (suc j) h f = omega (arith, choice_count-left xs j (omega arith) f)

pub choice_count_most : (T : List Lot) → choice_count T ≤ length T
choice_count_most [] = omega arith
choice_count_most (x ∷ xs) = let one : (if nat_lt x.est (lst x) then 1 else 0) ≤ 1 = grind (arith, nat_tests) in omega (arith, choice_count_most xs)

module _ (m : Meaning) (sound : Sound m) (C : ℕ) where
  -- the nodes below a node have fewer lots with a choice on the left, and no more on the right
  pub choice_counts_below : (b : BestKnown) (T U : List Lot) → Lawful C T → Leaves m C b T (to U) → (j : ℕ) → Branch U j → (choice_count (left j U) + 1 ≤ choice_count T) × (choice_count (right j U) ≤ choice_count T)
  choice_counts_below b T U ok n j br =
      let here = (leaves_remains m sound C b T U ok n).below in
      let u = choice_count-narrower T U here.work here.narrower in
      let r = choice_count-narrower U (right j U) (right_work C U here.lawful j br) (right_narrower C U here.lawful j br) in
      omega (arith, choice_count-left U j br.inside br.choice)

  -- a visit leaves the stack standing
  pub standing_on : (n : ℕ) {b a : BestKnown} {Ts Us : List (List Lot)} → Advances m C b Ts a Us → Standing C n Ts → Standing C n Us
  standing_on n (closing h) s = s.1
  standing_on n (forking {b} {T} {U} {Ts} j k br) s =
      let l = left_below m sound C b T U s.0.0 k j br in
      let r = right_below m sound C b T U s.0.0 k j br in
      let f = choice_counts_below b T U s.0.0 k j br in (
        (l.lawful, sym (length_all_zip _ _ _ l.work) ∙ s.0.1, omega (arith, s.0.2)),
        ((r.lawful, sym (length_all_zip _ _ _ r.work) ∙ s.0.1, omega (arith, s.0.2)), s.1),
      )

-- the visits of the unvisited nodes, one after another
pub data Pending (m : Meaning) (C : ℕ) : BestKnown → List (List Lot) → List BestKnown → Type 0 where
  done : {b : BestKnown} → Pending m C b [] []
  next : {b : BestKnown} {T : List Lot} {Ts : List (List Lot)} {bs cs : List BestKnown} → Visit m C b T bs → Pending m C (last_known b bs) Ts cs → Pending m C b (T ∷ Ts) (bs ++ cs)

-- to visit one node is one step of what is left
pub pending_step : (m : Meaning) (C : ℕ) {b a : BestKnown} {Ts Us : List (List Lot)} (rs : List BestKnown) → Advances m C b Ts a Us → Pending m C a Us rs → Pending m C b Ts (a ∷ rs)
pending_step m C rs (closing h) p = next (leaf h) p
pending_step m C rs (forking {b} {T} {U} {Ts} j k br) p = left_first rs p
  where
    then_right : (ls cs : List BestKnown) → Visit m C b (left j U) ls → Pending m C (last_known b ls) (right j U ∷ Ts) cs → Pending m C b (T ∷ Ts) (b ∷ (ls ++ cs))
    then_right ls cs v (next {bs = us} {cs = vs} w q) =
        subst (λ rs. Pending m C b (T ∷ Ts) (b ∷ rs)) (append_assoc ls us vs)
        (next (fork j k br v w) (subst (λ a. Pending m C a Ts vs) (sym (last_known-append b ls us)) q))

    left_first : (rs : List BestKnown) → Pending m C b (left j U ∷ right j U ∷ Ts) rs → Pending m C b (T ∷ Ts) (b ∷ rs)
    left_first _ (next {bs = ls} {cs = cs} v q) = then_right ls cs v q
