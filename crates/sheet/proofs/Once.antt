-- A sheet has one print.
use Rattle.std.proofs.Common.{◌≡◌, ℕ, ◌<◌, List, [], ◌∷◌, ◌++◌, length, take, Ok, Err, sym, refl, ap, ap₂, subst, ◌∙◌, inl, inr, arith, codes, length-append}
use Rattle.lots.specs.Checks.{Check, Passed, Refused}
use Rattle.lots.proofs.Checks.{refused_one, passed_unrefused}
use Rattle.lots.specs.Limits.{max_lots}
use Rattle.lots.specs.declared.Refusal.{Refusal}
use Rattle.rule.specs.Meanings.{Meaning, Sound}
use Rattle.tree.specs.Answer.{solve_checks, max_trail}
use Rattle.tree.specs.declared.Search.{Search}
use Rattle.tree.specs.declared.Search.TheVariants.{Best, None, Spent}
use Rattle.tree.proofs.Answers.{SameStarts, solved_one}
use Rattle.lots.specs.Tables.{Table}
use Rattle.plan.specs.Calls.{open_checks, admit_checks, narrow_checks}
use Rattle.plan.proofs.Once.{opened_one, admitted_one, narrowed_one, tightened_one}
use Rattle.sheet.specs.Lines.{Line, machine, name, lot, narrow, tighten, solve, written_line, newline}
use Rattle.sheet.specs.PrintLines.{numbers_line, tighten_print, start_lines, solve_print, refusal_print}
use Rattle.sheet.specs.Sheets.{Desk, new_desk, head, Due, BeginsWithDueLine, Searched, CarriesOut, Refuses, desk_after, Prints, ends, carried_out, refused, ninth, formless, PrintOf}
use Rattle.sheet.proofs.Lines.{line_one}
use Rattle.sheet.specs.Private.Desks.{Orderly}
use Rattle.sheet.proofs.Desks.{new_orderly, after_orderly}

nothing_begins : (D : Desk) (l : Line) (rest : List ℕ) → BeginsWithDueLine D [] l rest → ⊥
nothing_begins D l rest b = omega (arith, ap length b.0.0, length-append (written_line l) (newline ∷ rest))

-- searches

-- the checks of a search with a trail and a place for starts that serve every table
abbrev table_checks : Table → ℕ → List Check
table_checks P B = solve_checks (length P.lots) B max_trail max_lots

searched_passed : (m : Meaning) (P : Table) (B : ℕ) (us : List ℕ) (a : Search) → Searched m P B us (Ok a) → Passed (table_checks P B)
searched_passed m P B us a (cs, ds, ss, cells, places, s) = subst (λ n. Passed (solve_checks (length P.lots) B n max_lots)) cells (subst (λ n. Passed (solve_checks (length P.lots) B (length cs) n)) places s.0)

searched_refused : (m : Meaning) (P : Table) (B : ℕ) (us : List ℕ) (e : Refusal) → Searched m P B us (Err e) → Refused (table_checks P B) e
searched_refused m P B us e (cs, ds, ss, cells, places, s) = subst (λ n. Refused (solve_checks (length P.lots) B n max_lots) e) cells (subst (λ n. Refused (solve_checks (length P.lots) B (length cs) n) e) places s.0)

same_print : (n : ℕ) (names : List (List ℕ)) (us vs : List ℕ) (a b : Search) → length names ≡ n → a ≡ b → SameStarts n us vs a → solve_print a names us ≡ solve_print b names vs
same_print n names us vs (Best e k) b count same starts =
    subst (λ d. solve_print (Best e k) names us ≡ solve_print d names vs) same
    (ap (λ ts. numbers_line (codes "S best") (e ∷ k ∷ []) ++ start_lines names ts) (subst (λ i. take i us ≡ take i vs) (sym count) starts))
same_print n names us vs (None k) b count same starts = ap (λ d. solve_print d names us) same ∙ subst (λ d. solve_print d names us ≡ solve_print d names vs) same refl
same_print n names us vs (Spent k) b count same starts = ap (λ d. solve_print d names us) same ∙ subst (λ d. solve_print d names us ≡ solve_print d names vs) same refl

module _ (m : Meaning) (sound : Sound m) where
  -- where commands are due, each lot has a name
  each_named : (D : Desk) → Orderly D → head D.lots < D.line → length D.names ≡ length D.plan.lots
  each_named D o due = omega (arith, o.named, o.admitted)

  carries_out_one : (D : Desk) (l : Line) (Q R : Table) (out more : List ℕ) → Orderly D → Due D l → CarriesOut m D l Q out → CarriesOut m D l R more → (Q ≡ R) × (out ≡ more)
  carries_out_one D (machine C n) Q R out more o due r s = (opened_one C D.plan Q R r.0 s.0, r.1 ∙ sym s.1)
  carries_out_one D (name w) Q R out more o due r s = (r.0 ∙ sym s.0, r.1 ∙ sym s.1)
  carries_out_one D (lot i x) Q R out more o due r s = (admitted_one x D.plan Q R r.0 s.0 r.1 s.1, r.2 ∙ sym s.2)
  carries_out_one D (narrow i from to) Q R out more o due r s = (narrowed_one i from to D.plan Q R r.0 s.0, r.1 ∙ sym s.1)
  carries_out_one D tighten Q R out more o due (v, k, t, p) (w, j, u, q) =
      let one = tightened_one m D.plan Q R v w k j t u in
      let same : tighten_print v k D.names Q.lots ≡ tighten_print w j D.names R.lots = λ i. tighten_print (one.1 i) (one.2 i) D.names (one.0 i).lots in
      (one.0, p ∙ same ∙ sym q)
  carries_out_one D (solve B) Q R out more o due (is, us, a, (cs, ds, ss, cells, places, s), p) (also, vs, b, (es, fs, ts, trail, starts, t), q) =
      let one = solved_one m sound D.plan.capacity D.plan.lots o.lawful B cs ds es fs ss us ts vs a b s t in
      (is ∙ sym also, p ∙ same_print (length D.plan.lots) D.names us vs a b (each_named D o due) one.0 one.1 ∙ sym q)

  refuses_one : (D : Desk) (l : Line) (e f : Refusal) → Refuses m D l e → Refuses m D l f → e ≡ f
  refuses_one D (machine C n) e f r s = refused_one (open_checks C) e f r.0 s.0
  refuses_one D (name w) e f r s = absurd r
  refuses_one D (lot i x) e f r s = refused_one (admit_checks x D.plan.capacity (length D.plan.lots)) e f r.0 s.0
  refuses_one D (narrow i from to) e f r s = refused_one (narrow_checks i from to D.plan.lots) e f r.0 s.0
  refuses_one D tighten e f r s = absurd r
  refuses_one D (solve B) e f r s = refused_one (table_checks D.plan B) e f (searched_refused m D.plan B r.0 e r.1) (searched_refused m D.plan B s.0 f s.1)

  carries_out_unrefused : (D : Desk) (l : Line) (Q : Table) (out : List ℕ) (e : Refusal) → CarriesOut m D l Q out → Refuses m D l e → ⊥
  carries_out_unrefused D (machine C n) Q out e r s = passed_unrefused (open_checks C) e r.0.0 s.0
  carries_out_unrefused D (name w) Q out e r s = s
  carries_out_unrefused D (lot i x) Q out e r s = passed_unrefused (admit_checks x D.plan.capacity (length D.plan.lots)) e r.1.0 s.0
  carries_out_unrefused D (narrow i from to) Q out e r s = passed_unrefused (narrow_checks i from to D.plan.lots) e r.0.0 s.0
  carries_out_unrefused D tighten Q out e r s = s
  carries_out_unrefused D (solve B) Q out e (is, us, a, found, p) s = passed_unrefused (table_checks D.plan B) e (searched_passed m D.plan B us a found) (searched_refused m D.plan B s.0 e s.1)

  -- a line that is carried out leaves one desk
  after_same : (D : Desk) (l k : Line) (Q R : Table) (rest more out : List ℕ) → l ≡ k → Q ≡ R → rest ≡ more → Prints m (desk_after D k R) more out → Prints m (desk_after D l Q) rest out
  after_same D l k Q R rest more out e f g p =
      subst (λ bs. Prints m (desk_after D l Q) bs out) (sym g) (subst (λ P. Prints m (desk_after D l P) more out) (sym f) (subst (λ j. Prints m (desk_after D j R) more out) (sym e) p))

  prints_one : (D : Desk) (bs out more : List ℕ) → Orderly D → Prints m D bs out → Prints m D bs more → out ≡ more
  prints_one D _ _ _ o (ends e) (ends f) = refl
  prints_one D _ _ _ o (ends e) (carried_out {rest = rest} l Q out more b n r h) = absurd (nothing_begins D l rest b)
  prints_one D _ _ _ o (ends e) (refused l rest f b n r) = absurd (nothing_begins D l rest b)
  prints_one D _ _ _ o (ends e) (ninth l rest b f) = absurd (nothing_begins D l rest b)
  prints_one D _ _ _ o (ends e) (formless n k) = absurd (n refl e)
  prints_one D _ _ _ o (carried_out {rest = rest} l Q out more b n r h) (ends e) = absurd (nothing_begins D l rest b)
  prints_one D bs _ _ o (carried_out {rest = rest} l Q out more b n r h) (carried_out {rest = left} k R also others c i s g) =
      let one = line_one bs l k rest left b.0 c.0 in
      let same = carries_out_one D l Q R out also o b.1 r (subst (λ j. CarriesOut m D j R also) (sym one.0) s) in
      ap₂ ◌++◌ same.1 (prints_one (desk_after D l Q) rest more others (after_orderly m sound D l Q out b.0.1 b.1 r o) h (after_same D l k Q R rest left others one.0 same.0 one.1 g))
  prints_one D bs _ _ o (carried_out {rest = rest} l Q out more b n r h) (refused k left e c i s) =
      let one = line_one bs l k rest left b.0 c.0 in
      absurd (carries_out_unrefused D l Q out e r (subst (λ j. Refuses m D j e) (sym one.0) s))
  prints_one D bs _ _ o (carried_out l Q out more b n r h) (ninth k left c f) = absurd (n f)
  prints_one D bs _ _ o (carried_out {rest = rest} l Q out more b n r h) (formless i k) = absurd (k l rest b)
  prints_one D _ _ _ o (refused l rest e b n r) (ends f) = absurd (nothing_begins D l rest b)
  prints_one D bs _ _ o (refused l rest e b n r) (carried_out {rest = left} k R also others c i s g) =
      let one = line_one bs k l left rest c.0 b.0 in
      absurd (carries_out_unrefused D k R also e s (subst (λ j. Refuses m D j e) (sym one.0) r))
  prints_one D bs _ _ o (refused l rest e b n r) (refused k left f c i s) =
      let one = line_one bs l k rest left b.0 c.0 in
      ap (λ d. refusal_print d D.line) (refuses_one D l e f r (subst (λ j. Refuses m D j f) (sym one.0) s))
  prints_one D bs _ _ o (refused l rest e b n r) (ninth k left c f) = absurd (n f)
  prints_one D bs _ _ o (refused l rest e b n r) (formless i k) = absurd (k l rest b)
  prints_one D _ _ _ o (ninth l rest b f) (ends e) = absurd (nothing_begins D l rest b)
  prints_one D bs _ _ o (ninth l rest b f) (carried_out k R also others c i s g) = absurd (i f)
  prints_one D bs _ _ o (ninth l rest b f) (refused k left e c i s) = absurd (i f)
  prints_one D bs _ _ o (ninth l rest b f) (ninth k left c g) = refl
  prints_one D bs _ _ o (ninth l rest b f) (formless i k) = absurd (k l rest b)
  prints_one D _ _ _ o (formless n k) (ends e) = absurd (n refl e)
  prints_one D bs _ _ o (formless n k) (carried_out {rest = rest} l Q out more b i r h) = absurd (k l rest b)
  prints_one D bs _ _ o (formless n k) (refused l rest e b i r) = absurd (k l rest b)
  prints_one D bs _ _ o (formless n k) (ninth l rest b f) = absurd (k l rest b)
  prints_one D bs _ _ o (formless n k) (formless i j) = refl

  pub print_one : (sheet out more : List ℕ) → PrintOf m sheet out → PrintOf m sheet more → out ≡ more
  print_one sheet out more (inl p) (inl q) = p.1 ∙ sym q.1
  print_one sheet out more (inl p) (inr q) = absurd (omega (arith, p.0, q.0))
  print_one sheet out more (inr p) (inl q) = absurd (omega (arith, p.0, q.0))
  print_one sheet out more (inr p) (inr q) = prints_one new_desk sheet out more new_orderly p.1 q.1
