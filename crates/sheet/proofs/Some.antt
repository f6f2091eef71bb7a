-- Every text has a print.
use Rattle.std.proofs.Common.{◌≡◌, ℕ, zero, suc, ◌+◌, ◌-◌, ◌*◌, ◌<◌, ◌≤◌, ◌⊎◌, List, [], ◌∷◌, ◌++◌, length, refl, sym, ap, subst, inl, inr, replicate, mul-le-mul, arith, length-append}
use Rattle.std.proofs.lemmas.Bool.{cases_lt}
use Rattle.std.proofs.lemmas.List.{length-replicate}
use Rattle.lots.proofs.Checks.{Either, less, at_most, equal, both}
use Rattle.lots.specs.Checks.{Passed}
use Rattle.lots.specs.Limits.{max_lots}
use Rattle.lots.specs.Tables.{blank, Table}
use Rattle.lots.specs.declared.Lot.{Lot}
use Rattle.lots.specs.declared.Refusal.{Refusal}
use Rattle.lots.specs.declared.Refusal.TheVariants as refusal
use Rattle.rule.specs.Meanings.{Meaning, Sound}
use Rattle.tree.specs.Answer.{solve_checks, max_trail}
use Rattle.tree.proofs.Answers.{solved_some}
use Rattle.plan.specs.Tables.{empty, with_lot, with_lot_between}
use Rattle.plan.proofs.Some.{opened_some, admitted_some, narrowed_some, tightened_some}
use Rattle.sheet.specs.Private.Desks.{Orderly}
use Rattle.sheet.specs.Lines.{Line, machine, name, lot, narrow, tighten, solve, written_line, newline}
use Rattle.sheet.specs.PrintLines.{narrow_print, tighten_print, solve_print, refusal_print}
use Rattle.sheet.specs.Sheets.{Desk, new_desk, head, Due, MayEnd, max_sheet, whole_sheet, max_commands, CarriesOut, Refuses, desk_after, Prints, carried_out, refused, ninth, PrintOf}
use Rattle.sheet.proofs.Desks.{new_orderly, after_orderly}
use Rattle.sheet.proofs.Finding.{find_line}
use Rattle.sheet.proofs.Steps.{no_line, not_due, prints_end}

due_or_not : (D : Desk) (l : Line) → Either (Due D l)
due_or_not D (machine C n) = equal D.line 1
due_or_not D (name w) = both (less 1 D.line) (at_most D.line (1 + D.lots))
due_or_not D (lot i x) = elim (both (less (1 + D.lots) D.line) (both (at_most D.line (head D.lots)) (equal i (D.line - (2 + D.lots))))) [
  | inl d ↦ inl (d.0, d.1.0, d.1.1)
  | inr n ↦ inr (λ d. n (d.0, (d.1, d.2)))
]
due_or_not D (narrow i from to) = less (head D.lots) D.line
due_or_not D tighten = less (head D.lots) D.line
due_or_not D (solve budget) = less (head D.lots) D.line

-- a trail and a place for starts that serve every table serve this one
serves : (n B : ℕ) → n ≤ max_lots → 0 < B → Passed (solve_checks n B max_trail max_lots)
serves n B few some =
    let square : n * n ≤ max_lots * max_lots = mul-le-mul few few in
    (λ e. omega arith, (λ l. omega arith, (λ l. omega arith, tt)))

module _ (m : Meaning) (sound : Sound m) where
  -- what comes of a line that is due
  abbrev Comes : Desk → Line → Type 0
  Comes D l = ((Q : Table) × (out : List ℕ) × CarriesOut m D l Q out) ⊎ ((e : Refusal) × Refuses m D l e)

  searches : (D : Desk) (B : ℕ) → Orderly D → Comes D (solve B)
  searches D B o =
      let cs : List Lot = replicate max_trail blank in
      let ss : List ℕ = replicate max_lots 0 in
      let cells : length cs ≡ max_trail = length-replicate max_trail blank in
      let places : length ss ≡ max_lots = length-replicate {A = ℕ} max_lots 0 in
      elim (cases_lt 0 B) [
        | inl some ↦
            let n = length D.plan.lots in
            let passed = subst (λ i. Passed (solve_checks n B (length cs) i)) (sym places) (subst (λ i. Passed (solve_checks n B i max_lots)) (sym cells) (serves n B o.lawful.few_lots some)) in
            let found = solved_some m sound D.plan.capacity D.plan.lots o.lawful B cs ss passed in
            inl (D.plan, solve_print found.1 D.names found.0, (refl, found.0, found.1, (cs, replicate (length cs) blank, ss, cells, places, found.2), refl))
        | inr none ↦ inr (refusal.Budget, (ss, (cs, cs, ss, cells, places, (inl (omega arith, refl), (refl, refl)))))
      ]

  line_comes : (D : Desk) (l : Line) → Orderly D → Comes D l
  line_comes D (machine C n) o = elim (opened_some C D.plan) [ inl a ↦ inl (empty C, [], (a, refl)) | inr r ↦ inr r ]
  line_comes D (name w) o = inl (D.plan, [], (refl, refl))
  line_comes D (lot i x) o = elim (admitted_some x D.plan) [ inl a ↦ inl (with_lot x D.plan, [], (length D.plan.lots, a, refl)) | inr r ↦ inr r ]
  line_comes D (narrow i from to) o = elim (narrowed_some i from to D.plan) [ inl a ↦ inl (with_lot_between i from to D.plan, narrow_print, (a, refl)) | inr r ↦ inr r ]
  line_comes D tighten o = let t = tightened_some m sound D.plan o.lawful in inl (t.0, tighten_print t.1 t.2 D.names t.0.lots, (t.1, t.2, t.3, refl))
  line_comes D (solve B) o = searches D B o

  -- a text that may not end here has a print, where each shorter text has one
  goes_on_some : (D : Desk) (bs : List ℕ) → Orderly D → ((bs ≡ []) → MayEnd D → ⊥) → ((E : Desk) (rest : List ℕ) → length rest < length bs → Orderly E → (out : List ℕ) × Prints m E rest out) → (out : List ℕ) × Prints m D bs out
  goes_on_some D bs o goes_on more = elim (find_line bs) [
    | inr none ↦ (refusal_print refusal.Line D.line, no_line m D bs goes_on none)
    | inl found ↦
        let l = found.0 in
        let rest = found.1 in
        let begins = found.2 in
        elim (due_or_not D l) [
          | inr other ↦ (refusal_print refusal.Line D.line, not_due m D bs goes_on l rest begins other)
          | inl due ↦ elim (less (head D.lots + max_commands) D.line) [
            | inl full ↦ (refusal_print refusal.Commands D.line, ninth l rest (begins, due) full)
            | inr time ↦ elim (line_comes D l o) [
              | inr r ↦ (refusal_print r.0 D.line, refused l rest r.0 (begins, due) time r.1)
              | inl ran ↦
                  let shorter : length rest < length bs = omega (arith, ap length begins.0, length-append (written_line l) (newline ∷ rest)) in
                  let later = more (desk_after D l ran.0) rest shorter (after_orderly m sound D l ran.0 ran.1 begins.1 due ran.2 o) in
                  (ran.1 ++ later.0, carried_out l ran.0 ran.1 later.0 (begins, due) time ran.2 later.1)
            ]
          ]
        ]
  ]

  prints_some : (k : ℕ) (D : Desk) (bs : List ℕ) → length bs < k → Orderly D → (out : List ℕ) × Prints m D bs out
  prints_some zero D bs h o = absurd (omega arith)
  prints_some (suc k) D [] h o = elim (less (head D.lots) D.line) [
    | inl may ↦ ([], prints_end m D [] refl may)
    | inr not ↦ goes_on_some D [] o (λ e may. not may) (λ E rest shorter. absurd (omega arith))
  ]
  prints_some (suc k) D (b ∷ bs) h o = goes_on_some D (b ∷ bs) o (λ e. absurd (omega (arith, ap length e))) (λ E rest shorter tidy. prints_some k E rest (omega arith) tidy)

  pub print_some : (sheet : List ℕ) → (out : List ℕ) × PrintOf m sheet out
  print_some sheet = elim (cases_lt max_sheet (length sheet)) [
    | inl long ↦ (refusal_print refusal.SheetLength whole_sheet, inl (long, refl))
    | inr short ↦ let print = prints_some (suc (length sheet)) new_desk sheet (omega arith) new_orderly in (print.0, inr (short, print.1))
  ]
