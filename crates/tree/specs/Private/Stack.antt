-- The unvisited nodes of a search: a stack of tables, one after another in a row of cells.
use Rattle.std.specs.Prelude.{◌≡◌, ℕ, zero, suc, ◌+◌, ◌*◌, ◌<◌, ◌≤◌, Bool, true, false, if◌then◌else◌, List, [], ◌∷◌, length, take, drop, nat_lt}
use Rattle.lots.specs.Tables.{lst, Lawful}
use Rattle.lots.specs.declared.Lot.{Lot}
use Rattle.rule.specs.Meanings.{Meaning, to}
use Rattle.tree.specs.Tree.{BestKnown, unknown, Leaves, Closes, Branch, left, right, last_known}
use Rattle.tree.specs.declared.trail.Trail.{Trail}

-- the d tables of n lots each, the last first
abbrev pub tables : ℕ → ℕ → List Lot → List (List Lot)
tables n zero cells = []
tables n (suc d) cells = take n (drop (d * n) cells) ∷ tables n d cells

-- the unvisited nodes on a trail, the last first
abbrev pub unvisited : Trail → List (List Lot)
unvisited t = tables t.table_len t.depth t.cells.now

-- how many lots have a choice of starts
abbrev pub choice_count : List Lot → ℕ
choice_count [] = 0
choice_count (x ∷ xs) = (if nat_lt x.est (lst x) then 1 else 0) + choice_count xs

-- tables that can be visited with room for n + 1: one on top of k others has n − k lots with a choice at most
abbrev pub Standing : ℕ → ℕ → List (List Lot) → Type 0
Standing C n [] = Unit {0}
Standing C n (T ∷ Ts) = (Lawful C T × (length T ≡ n) × (choice_count T + length Ts ≤ n)) × Standing C n Ts

-- a visit of the first of the unvisited nodes: from one best known to another, and from some unvisited nodes to
-- others
pub data Advances (m : Meaning) (C : ℕ) :
    BestKnown → List (List Lot) → BestKnown → List (List Lot) → Type 0 where
  closing : {b a : BestKnown} {T : List Lot} {Ts : List (List Lot)} →
      Closes m C b T a → Advances m C b (T ∷ Ts) a Ts
  forking : {b : BestKnown} {T U : List Lot} {Ts : List (List Lot)} (j : ℕ) →
      Leaves m C b T (to U) → Branch U j → Advances m C b (T ∷ Ts) b (left j U ∷ right j U ∷ Ts)

-- a search of which bs is the whole visit has stopped after k nodes with the best b: at the budget B with a
-- node unvisited, or at the end
abbrev pub Stopped : ℕ → List BestKnown → BestKnown → ℕ → Bool → Type 0
Stopped B bs b k true = (k ≡ B) × (B < length bs)
Stopped B bs b k false = (k ≡ length bs) × (k ≤ B) × (last_known unknown bs ≡ b)
