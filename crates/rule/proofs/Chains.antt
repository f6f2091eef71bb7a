-- What moves and chains of applications of a sound rule keep, and that there is one chain from each table.
use Rattle.std.proofs.Common.{◌≡◌, ◌≢◌, ℕ, suc, ◌+◌, ◌≤◌, List, [], ◌∷◌, Ok, Err, Result, sym, refl, ap, ◌∙◌, subst, arith}
use Rattle.lots.specs.Schedules.{Placed}
use Rattle.lots.specs.Tables.{Lawful}
use Rattle.lots.specs.declared.Lot.{Lot}
use Rattle.lots.specs.declared.Refusal.{Refusal}
use Rattle.rule.specs.Meanings.{Meaning, Outcome, dead, to, Gives, Dies, SameWork, Narrower, Keeps, Hopeless, Sound}
use Rattle.rule.specs.Settled.{Moves, none, more, slack, Settled, Settles}
use Rattle.rule.specs.declared.Verdict.{Verdict}
use Rattle.rule.specs.declared.Verdict.TheVariants.{Still, Moved, Dead}
use Rattle.rule.specs.Laws.Outcomes.{gives_weaker, dies_weaker}
use Rattle.rule.proofs.Applications.{gives_at}
use Rattle.rule.specs.Laws.Tables.{same_work_refl, same_work_trans, narrower_refl, narrower_trans}
use Rattle.rule.proofs.Tables.{same_work_sym}
use Rattle.rule.specs.Laws.Schedules.{schedule_same}
use Rattle.rule.proofs.Slack.{moved_falls}

-- k applications lead from T to the outcome: each but the last moves to another table, and the last is still or dead
pub data Chain (m : Meaning) (C : ℕ) : List Lot → ℕ → Outcome → Type 0 where
  still : {T : List Lot} → m C T ≡ to T → Chain m C T 1 (to T)
  dies : {T : List Lot} → m C T ≡ dead → Chain m C T 1 dead
  moves : {T U : List Lot} {k : ℕ} {o : Outcome} → m C T ≡ to U → (U ≢ T) → Chain m C U k o → Chain m C T (suc k) o

-- U is lawful and of the same work as T, no window is wider, and no schedule is lost
pub record Kept (C : ℕ) (T U : List Lot) : Type 0 where
  pub lawful : Lawful C U
  pub work : SameWork T U
  pub narrower : Narrower T U
  pub keeps : Keeps C T U

pub kept_refl : (C : ℕ) (T : List Lot) → Lawful C T → Kept C T T
kept_refl C T ok = record { lawful = ok; work = same_work_refl T; narrower = narrower_refl T; keeps = λ ss s. s }

pub kept_trans : (C : ℕ) (T U V : List Lot) → Kept C T U → Kept C U V → Kept C T V
kept_trans C T U V k l = record {
  lawful = l.lawful;
  work = same_work_trans T U V k.work l.work;
  narrower = narrower_trans T U V k.narrower l.narrower;
  keeps = λ ss s. l.keeps ss (k.keeps ss s);
}

-- starts placed in a narrower table of the same work are placed in the table
pub placed_back : (T U : List Lot) (ss : List ℕ) → SameWork T U → Narrower T U → Placed U ss → Placed T ss
placed_back [] [] ss w n p = p
placed_back [] (y ∷ ys) ss w n p = absurd w
placed_back (x ∷ xs) [] ss w n p = absurd w
placed_back (x ∷ xs) (y ∷ ys) [] w n p = absurd p
placed_back (x ∷ xs) (y ∷ ys) (s ∷ ss) w n p = (omega arith, placed_back xs ys ss w.1 n.1 p.1)

-- a narrower table of the same work gains no schedule
pub narrower_keeps : (C : ℕ) (T U : List Lot) → SameWork T U → Narrower T U → Keeps C U T
narrower_keeps C T U w n ss s = schedule_same C U T ss (same_work_sym T U w) (placed_back T U ss w n s.placed) s

-- so what is kept has exactly the schedules of the table before
pub kept_back : (C : ℕ) (T U : List Lot) → Kept C T U → Keeps C U T
kept_back C T U k = narrower_keeps C T U k.work k.narrower

-- one application of a sound rule
pub sound_kept : (m : Meaning) → Sound m → (C : ℕ) (T U : List Lot) → Lawful C T → m C T ≡ to U → Kept C T U
sound_kept m p C T U ok e =
    let law = gives_at (m C T) _ U e (p.lawful C T ok) in
    record {
      lawful = law.0;
      work = law.1;
      narrower = gives_at (m C T) _ U e (p.narrows C T ok);
      keeps = gives_at (m C T) _ U e (p.keeps C T ok);
    }

pub sound_dead : (m : Meaning) → Sound m → (C : ℕ) (T : List Lot) → Lawful C T → m C T ≡ dead → Hopeless C T
sound_dead m p C T ok e = let D : Outcome → Type 0 = λ o. Dies o (Hopeless C T) in subst D e (p.dies_rightly C T ok)

-- a chain that comes to a table keeps what one application keeps
pub chain_kept : (m : Meaning) → Sound m → (C : ℕ) (T : List Lot) → Lawful C T → {k : ℕ} {o : Outcome} → Chain m C T k o → Gives o (Kept C T)
chain_kept m p C T ok (still e) = kept_refl C T ok
chain_kept m p C T ok (dies e) = tt
chain_kept m p C T ok (moves {U = U} {o = o} e ne h) =
    let first = sound_kept m p C T U ok e in
    gives_weaker o _ _ (λ V rest. kept_trans C T U V first rest) (chain_kept m p C U first.lawful h)

-- a chain that dies began at a table without schedules
pub chain_dead : (m : Meaning) → Sound m → (C : ℕ) (T : List Lot) → Lawful C T → {k : ℕ} {o : Outcome} → Chain m C T k o → Dies o (Hopeless C T)
chain_dead m p C T ok (still e) = tt
chain_dead m p C T ok (dies e) = sound_dead m p C T ok e
chain_dead m p C T ok (moves {U = U} {o = o} e ne h) =
    let first = sound_kept m p C T U ok e in
    dies_weaker o _ _ (λ none ss s. none ss (first.keeps ss s)) (chain_dead m p C U first.lawful h)

-- each move takes from the room of the starts
pub chain_few : (m : Meaning) → Sound m → (C : ℕ) (T : List Lot) → Lawful C T → {k : ℕ} {o : Outcome} → Chain m C T k o → k ≤ 1 + slack T
chain_few m p C T ok (still e) = omega arith
chain_few m p C T ok (dies e) = omega arith
chain_few m p C T ok (moves {U = U} e ne h) =
    let f = moved_falls m p C T U ok e ne in
    omega (arith, f.1, chain_few m p C U f.0 h)

-- two chains from one table are as long, and come to the same
pub chain_same : (m : Meaning) (C : ℕ) (T : List Lot) {j k : ℕ} {o q : Outcome} → Chain m C T j o → Chain m C T k q → (j ≡ k) × (o ≡ q)
chain_same m C T (still e) (still f) = (refl, refl)
chain_same m C T (still e) (dies f) = absurd (cc)
chain_same m C T (still e) (moves {U = V} f ne g) = absurd (ne (cc))
chain_same m C T (dies e) (still f) = absurd (cc)
chain_same m C T (dies e) (dies f) = (refl, refl)
chain_same m C T (dies e) (moves {U = V} f ne g) = absurd (cc)
chain_same m C T (moves {U = U} e ne h) (still f) = absurd (ne (cc))
chain_same m C T (moves {U = U} e ne h) (dies f) = absurd (cc)
chain_same m C T (moves {U = U} {o = o} e ne h) (moves {U = V} {k = k} {o = q} f nf g) =
    let s : V ≡ U = cc in
    let r = chain_same m C U h (subst (λ W. Chain m C W k q) s g) in
    (ap suc r.0, r.1)

-- moves keep what one application keeps
pub moves_kept : (m : Meaning) → Sound m → (C : ℕ) (T : List Lot) → Lawful C T → {n : ℕ} {U : List Lot} → Moves m C T n U → Kept C T U
moves_kept m p C T ok none = kept_refl C T ok
moves_kept m p C T ok (more {U = V} {V = U} h e ne) =
    let before = moves_kept m p C T ok h in
    kept_trans C T V U before (sound_kept m p C V U before.lawful e)

-- whatever U comes to, T comes to, where moves lead from T to U
pub moves_then : (m : Meaning) (C : ℕ) (T : List Lot) {n : ℕ} {U : List Lot} → Moves m C T n U → (k : ℕ) (o : Outcome) → Chain m C U k o → Chain m C T (n + k) o
moves_then m C T none k o h = let s : k ≡ 0 + k = omega arith in subst (λ i. Chain m C T i o) s h
moves_then m C T (more {n = n} {U = V} {V = U} h e ne) k o r =
    let s : n + suc k ≡ suc n + k = omega arith in
    subst (λ i. Chain m C T i o) s (moves_then m C T h (suc k) o (moves e ne r))

-- whatever settling answers, the table after it keeps what the table before it had
pub settled_kept : (m : Meaning) → Sound m → (C : ℕ) (T U : List Lot) → Lawful C T → (v : Verdict) (k : ℕ) → Settled m C T U v k → Kept C T U
settled_kept m p C T U ok Still k s = subst (Kept C T) (sym s.2) (kept_refl C T ok)
settled_kept m p C T U ok Moved k (n, some, count, h, e) = moves_kept m p C T ok h
settled_kept m p C T U ok Dead k (n, W, count, h, e, same) = subst (Kept C T) (sym same) (kept_refl C T ok)

-- a lawful table is lawful after settling, whatever the answer
pub settles_lawful : (m : Meaning) → Sound m → (C : ℕ) (T U : List Lot) (r : Result (Verdict × ℕ) Refusal) → Lawful C T → Settles m C T U r → Lawful C U
settles_lawful m p C T U (Ok (v, k)) ok s = (settled_kept m p C T U ok v k s.1).lawful
settles_lawful m p C T U (Err e) ok s = absurd (s.0 ok)

-- what a settling comes to
abbrev settled_outcome : Verdict → List Lot → Outcome
settled_outcome Still U = to U
settled_outcome Moved U = to U
settled_outcome Dead U = dead

pub settled_chain : (m : Meaning) (C : ℕ) (T U : List Lot) (v : Verdict) (k : ℕ) → Settled m C T U v k → Chain m C T k (settled_outcome v U)
settled_chain m C T U Still k s = subst (λ i. Chain m C T i (to U)) (sym s.0) (subst (λ W. Chain m C T 1 (to W)) (sym s.2) (still s.1))
settled_chain m C T U Moved k (n, some, count, h, e) = subst (λ i. Chain m C T i (to U)) (omega arith) (moves_then m C T h 1 (to U) (still e))
settled_chain m C T U Dead k (n, W, count, h, e, same) = subst (λ i. Chain m C T i dead) (omega arith) (moves_then m C T h 1 dead (dies e))

settled_told : (m : Meaning) (C : ℕ) (T U V : List Lot) (v w : Verdict) (k j : ℕ) → Settled m C T U v k → Settled m C T V w j → k ≡ j → settled_outcome v U ≡ settled_outcome w V → (U ≡ V) × (v ≡ w) × (k ≡ j)
settled_told m C T U V Still Still k j s t e o = (cc, refl, e)
settled_told m C T U V Still Moved k j s t e o = absurd (omega (arith, s.0, t.1, t.2))
settled_told m C T U V Still Dead k j s t e o = absurd (cc)
settled_told m C T U V Moved Still k j s t e o = absurd (omega (arith, s.1, s.2, t.0))
settled_told m C T U V Moved Moved k j s t e o = (cc, refl, e)
settled_told m C T U V Moved Dead k j s t e o = absurd (cc)
settled_told m C T U V Dead Still k j s t e o = absurd (cc)
settled_told m C T U V Dead Moved k j s t e o = absurd (cc)
settled_told m C T U V Dead Dead k j s t e o = (s.5 ∙ sym t.5, refl, e)

-- settling has one answer
pub settled_one : (m : Meaning) (C : ℕ) (T U V : List Lot) (v w : Verdict) (k j : ℕ) → Settled m C T U v k → Settled m C T V w j → (U ≡ V) × (v ≡ w) × (k ≡ j)
settled_one m C T U V v w k j s t =
    let c = chain_same m C T (settled_chain m C T U v k s) (settled_chain m C T V w j t) in
    settled_told m C T U V v w k j s t c.0 c.1

-- where moves lead to a table at which the rule is still, settling has an answer
pub settled_at : (m : Meaning) (C : ℕ) (T U : List Lot) (n : ℕ) → Moves m C T n U → m C U ≡ to U → (v : Verdict) × (k : ℕ) × Settled m C T U v k
settled_at m C T U n none e = (Still, 1, (refl, e, refl))
settled_at m C T U n (more {n = i} h e ne) f = (Moved, suc (suc i), (suc i, omega arith, refl, more h e ne, f))
