-- A search under way: what is visited, and what is left.
use Rattle.std.proofs.Common.{◌≡◌, ℕ, ◌+◌, ◌<◌, ◌≤◌, Bool, true, false, not, IsTrue, ◌↔◌, List, [], ◌∷◌, ◌++◌, length, sym, refl, subst, append_assoc, inl, inr, arith}
use Rattle.std.proofs.lemmas.Bool.{cases_lt, false≢true}
use Rattle.std.proofs.lemmas.List.{append-nil, length-append}
use Rattle.lots.specs.Tables.{Lawful}
use Rattle.lots.specs.declared.Lot.{Lot}
use Rattle.rule.specs.Meanings.{Meaning, Sound}
use Rattle.tree.specs.Private.Stack.{tables, Standing, Advances, Stopped}
use Rattle.tree.specs.Tree.{BestKnown, unknown, Visit, last_known}
use Rattle.tree.proofs.Cells.{tables_count}
use Rattle.tree.proofs.Law.{last_known-append, visit_some, visit_short}
use Rattle.tree.proofs.Stacks.{choice_count_most, Pending, done, next, pending_step, standing_on}

-- k nodes of the tree over T are visited, b is the best known and Ts are the unvisited nodes
pub record Searching (m : Meaning) (C : ℕ) (T : List Lot) (b : BestKnown) (Ts : List (List Lot)) (k : ℕ) : Type 0 where
  pub visited : List BestKnown
  pub count : length visited ≡ k
  pub best : last_known unknown visited ≡ b
  pub rest : (rs : List BestKnown) → Pending m C b Ts rs → Visit m C unknown T (visited ++ rs)

module _ (m : Meaning) (C : ℕ) (T : List Lot) where
  only : (rs : List BestKnown) → Pending m C unknown (T ∷ []) rs → Visit m C unknown T rs
  only _ (next {bs = bs} v done) = subst (Visit m C unknown T) (sym (append-nil bs)) v

  searching_first : Searching m C T unknown (T ∷ []) 0
  searching_first = record { visited = []; count = refl; best = refl; rest = only }

  searching_on : (b a : BestKnown) (Ts Us : List (List Lot)) (k : ℕ) → Advances m C b Ts a Us → Searching m C T b Ts k → Searching m C T a Us (k + 1)
  searching_on b a Ts Us k step s = record {
    visited = s.visited ++ (a ∷ []);
    count = omega (arith, length-append s.visited (a ∷ []), s.count);
    best = last_known-append unknown s.visited (a ∷ []);
    rest = λ rs p. subst (Visit m C unknown T) (sym (append_assoc s.visited (a ∷ []) rs)) (s.rest (a ∷ rs) (pending_step m C rs step p));
  }

  searching_end : (b : BestKnown) (k : ℕ) → Searching m C T b [] k → (bs : List BestKnown) × Visit m C unknown T bs × (k ≡ length bs) × (last_known unknown bs ≡ b)
  searching_end b k s = (s.visited, subst (Visit m C unknown T) (append-nil s.visited) (s.rest [] done), sym s.count, s.best)

module _ (m : Meaning) (sound : Sound m) (C n : ℕ) where
  pending_some : (b : BestKnown) (Ts : List (List Lot)) → Standing C n Ts → (rs : List BestKnown) × Pending m C b Ts rs
  pending_some b [] s = ([], done)
  pending_some b (T ∷ Ts) s =
      let v = visit_some m sound C b T s.0.0 in
      let r = pending_some (last_known b v.0) Ts s.1 in
      (v.0 ++ r.0, next v.1 r.1)

  -- an unvisited node is one more
  pending_more : (b : BestKnown) (Ts : List (List Lot)) (rs : List BestKnown) → Standing C n Ts → 0 < length Ts → Pending m C b Ts rs → 0 < length rs
  pending_more b _ _ s h done = absurd (omega arith)
  pending_more b _ _ s h (next {bs = bs} {cs = cs} v p) = omega (arith, length-append bs cs, visit_short m sound C v s.0.0)

  searching_open : (T : List Lot) (b : BestKnown) (Ts : List (List Lot)) (k : ℕ) → Standing C n Ts → 0 < length Ts → Searching m C T b Ts k → (bs : List BestKnown) × Visit m C unknown T bs × (k < length bs)
  searching_open T b Ts k st h s =
      let p = pending_some b Ts st in
      let q = pending_more b Ts p.0 st h p.1 in
      (s.visited ++ p.0, s.rest p.0 p.1, omega (arith, length-append s.visited p.0, s.count))

  -- one node more
  pub goes_on : (T : List Lot) (b a : BestKnown) (Ts Us : List (List Lot)) (k : ℕ) → Advances m C b Ts a Us → Standing C n Ts → Searching m C T b Ts k → Standing C n Us × Searching m C T a Us (k + 1)
  goes_on T b a Ts Us k step st s = (standing_on m sound C n step st, searching_on m C T b a Ts Us k step s)

  -- where the search stops
  pub stops : (B : ℕ) (T : List Lot) (b : BestKnown) (len d k : ℕ) (cells : List Lot) (empty : Bool) → Standing C n (tables len d cells) → Searching m C T b (tables len d cells) k → k ≤ B → (0 < d → B ≤ k) → IsTrue empty ↔ (d ≡ 0) → (bs : List BestKnown) × Visit m C unknown T bs × Stopped B bs b k (not empty)
  stops B T b len d k cells true st s h more is =
      let r = searching_end m C T b k (subst (λ i. Searching m C T b (tables len i cells) k) (is.0 refl) s) in
      (r.0, r.1, (r.2, h, r.3))
  stops B T b len d k cells false st s h more is =
      let some : 0 < d = elim (cases_lt 0 d) [ inl l ↦ l | inr l ↦ absurd (false≢true (is.1 (omega arith))) ] in
      let r = searching_open T b (tables len d cells) k st (omega (arith, tables_count len d cells)) s in
      let e : k ≡ B = omega (arith, more some) in
      (r.0, r.1, (e, omega (arith, r.2)))

-- the stack with the first node alone
pub first_node : (m : Meaning) (C : ℕ) (T : List Lot) (Ts : List (List Lot)) → Ts ≡ T ∷ [] → Lawful C T → Standing C (length T) Ts × Searching m C T unknown Ts 0
first_node m C T Ts e ok = subst (λ Us. Standing C (length T) Us × Searching m C T unknown Us 0) (sym e) (((ok, refl, omega (arith, choice_count_most T)), tt), searching_first m C T)
