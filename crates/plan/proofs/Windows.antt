-- One lot's window made tighter: its schedules are those that keep to the new bounds.
use Rattle.std.proofs.Common.{◌≡◌, ℕ, zero, suc, ◌+◌, ◌<◌, ◌≤◌, List, [], ◌∷◌, length, get_or, set, refl, arith}
use Rattle.std.proofs.lemmas.List.Elements.{length_all_zip, AllZip-get_or}
use Rattle.lots.specs.Schedules.{Placed, Schedule}
use Rattle.lots.specs.Tables.{lot_at}
use Rattle.lots.specs.declared.Lot.{Lot}
use Rattle.rule.specs.Meanings.{SameWork, Keeps}
use Rattle.rule.specs.Laws.Schedules.{schedule_same}
use Rattle.rule.specs.Laws.Tables.{same_work_refl, same_work_trans}
use Rattle.rule.proofs.Tables.{same_work_sym}
use Rattle.plan.specs.Tables.{lot_between}

-- the lots, the one with the number i in at a or later and out by b
abbrev pub lots_between : ℕ → ℕ → ℕ → List Lot → List Lot
lots_between i a b T = set T i (lot_between a b (lot_at T i))

-- the starts keep to the new bounds
abbrev Meets : ℕ → ℕ → ℕ → List Lot → List ℕ → Type 0
Meets i a b T ss = (a ≤ get_or ss i 0) × (get_or ss i 0 + (lot_at T i).p ≤ b)

placed_meets : (i a b : ℕ) (T : List Lot) (ss : List ℕ) → i < length T → Placed (lots_between i a b T) ss → Placed T ss × Meets i a b T ss
placed_meets i a b [] ss h p = absurd (omega arith)
placed_meets zero a b (x ∷ xs) [] h p = absurd p
placed_meets zero a b (x ∷ xs) (s ∷ ss) h p = ((omega arith, p.1), omega arith)
placed_meets (suc i) a b (x ∷ xs) [] h p = absurd p
placed_meets (suc i) a b (x ∷ xs) (s ∷ ss) h p =
    let q = placed_meets i a b xs ss (omega arith) p.1 in
    ((p.0, q.0), q.1)

placed_between : (i a b : ℕ) (T : List Lot) (ss : List ℕ) → i < length T → Placed T ss → Meets i a b T ss → Placed (lots_between i a b T) ss
placed_between i a b [] ss h p m = absurd (omega arith)
placed_between zero a b (x ∷ xs) [] h p m = absurd p
placed_between zero a b (x ∷ xs) (s ∷ ss) h p m = (omega arith, p.1)
placed_between (suc i) a b (x ∷ xs) [] h p m = absurd p
placed_between (suc i) a b (x ∷ xs) (s ∷ ss) h p m = (p.0, placed_between i a b xs ss (omega arith) p.1 m)

between_work : (i a b : ℕ) (T : List Lot) → SameWork T (lots_between i a b T)
between_work i a b [] = tt
between_work zero a b (x ∷ xs) = ((refl, refl), same_work_refl xs)
between_work (suc i) a b (x ∷ xs) = ((refl, refl), between_work i a b xs)

pub both_between_work : (i a b : ℕ) (A B : List Lot) → SameWork A B → SameWork (lots_between i a b A) (lots_between i a b B)
both_between_work i a b A B w = same_work_trans _ A _ (same_work_sym A _ (between_work i a b A)) (same_work_trans A B _ w (between_work i a b B))

-- where each schedule of A is one of B, so with the same bounds on one lot of both
pub between_keeps : (C i a b : ℕ) (A B : List Lot) → i < length A → SameWork A B → Keeps C A B → Keeps C (lots_between i a b A) (lots_between i a b B)
between_keeps C i a b A B h w keep ss s =
    let n : length A ≡ length B = length_all_zip _ A B w in
    let k : i < length B = omega arith in
    let wide = placed_meets i a b A ss h s.placed in
    let in_a : Schedule C A ss = schedule_same C (lots_between i a b A) A ss (same_work_sym A _ (between_work i a b A)) wide.0 s in
    let in_b = keep ss in_a in
    let same : ((lot_at B i).p ≡ (lot_at A i).p) × ((lot_at B i).c ≡ (lot_at A i).c) = AllZip-get_or _ A B i _ _ w h in
    schedule_same C B (lots_between i a b B) ss (between_work i a b B) (placed_between i a b B ss k in_b.placed (omega arith)) in_b
