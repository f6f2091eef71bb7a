-- A lot added at the end: a schedule of the longer table holds one of the shorter.
use Rattle.std.proofs.Common.{◌≡◌, ℕ, ◌≤◌, List, [], ◌∷◌, ◌++◌, length, take, drop, refl, subst, arith}
use Rattle.std.proofs.lemmas.List.Elements.{length_all_zip, AllZip-push}
use Rattle.std.proofs.lemmas.List.{take-append-drop}
use Rattle.lots.specs.Schedules.{load, Placed, Schedule}
use Rattle.lots.specs.declared.Lot.{Lot}
use Rattle.lots.proofs.Schedules.{placed_append}
use Rattle.rule.specs.Meanings.{SameWork, Keeps}
use Rattle.rule.specs.Laws.Schedules.{schedule_same}

placed_front : (xs zs : List Lot) (ss : List ℕ) → Placed (xs ++ zs) ss → Placed xs (take (length xs) ss)
placed_front [] zs ss h = tt
placed_front (x ∷ xs) zs [] h = absurd h
placed_front (x ∷ xs) zs (s ∷ ss) h = (h.0, placed_front xs zs ss h.1)

placed_rest : (xs zs : List Lot) (ss : List ℕ) → Placed (xs ++ zs) ss → Placed zs (drop (length xs) ss)
placed_rest [] zs ss h = h
placed_rest (x ∷ xs) zs [] h = absurd h
placed_rest (x ∷ xs) zs (s ∷ ss) h = placed_rest xs zs ss h.1

-- fewer lots load no more
load_front : (t : ℕ) (xs zs : List Lot) (ss : List ℕ) → load t xs (take (length xs) ss) ≤ load t (xs ++ zs) ss
load_front t [] zs ss = omega arith
load_front t (x ∷ xs) zs [] = omega arith
load_front t (x ∷ xs) zs (s ∷ ss) = omega (arith, load_front t xs zs ss)

-- where each schedule of A is one of B, so with one lot more at the end of both
pub push_keeps : (C : ℕ) (A B : List Lot) (x : Lot) → SameWork A B → Keeps C A B → Keeps C (A ++ x ∷ []) (B ++ x ∷ [])
push_keeps C A B x w keep ss s =
    let n : length A ≡ length B = length_all_zip _ A B w in
    let front : Schedule C A (take (length A) ss) = record {
      placed = placed_front A (x ∷ []) ss s.placed;
      within = λ t. omega (arith, load_front t A (x ∷ []) ss, s.within t);
    } in
    let p : Placed B (take (length B) ss) = subst (λ k. Placed B (take k ss)) n (keep (take (length A) ss) front).placed in
    let q : Placed (x ∷ []) (drop (length B) ss) = subst (λ k. Placed (x ∷ []) (drop k ss)) n (placed_rest A (x ∷ []) ss s.placed) in
    schedule_same C (A ++ x ∷ []) (B ++ x ∷ []) ss (AllZip-push _ A B x x w (refl, refl)) (subst (Placed (B ++ x ∷ [])) (take-append-drop (length B) ss) (placed_append B (x ∷ []) _ _ p q)) s
