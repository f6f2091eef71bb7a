-- A print is short.
use Rattle.std.proofs.Common.{◌≡◌, ℕ, ◌+◌, ◌*◌, ◌^◌, ◌<◌, ◌≤◌, List, [], ◌∷◌, ◌++◌, length, take, codes, sym, ap, subst, inl, inr, arith, length-append}
use Rattle.std.specs.Fmt.{decimal}
use Rattle.std.specs.List.{AllByRecursion}
use Rattle.std.proofs.lemmas.Fmt.{length-decimal-le}
use Rattle.std.proofs.lemmas.Bool.{cases_lt}
use Rattle.std.proofs.lemmas.List.{length-take}
use Rattle.lots.specs.Limits.{horizon, max_lots}
use Rattle.lots.specs.Refusals.{refusal_number}
use Rattle.lots.specs.Tables.{LawfulLot, Table}
use Rattle.lots.specs.Texts.{numbers}
use Rattle.lots.specs.declared.Lot.{Lot}
use Rattle.lots.specs.declared.Refusal.{Refusal}
use Rattle.lots.specs.declared.Refusal.TheVariants as refusal
use Rattle.rule.specs.Meanings.{Meaning, Sound}
use Rattle.rule.specs.Verdicts.{shown_verdict}
use Rattle.rule.specs.declared.Verdict.{Verdict}
use Rattle.rule.specs.declared.Verdict.TheVariants.{Still, Moved, Dead}
use Rattle.rule.proofs.Slack.{slack_fits}
use Rattle.tree.specs.declared.Search.{Search}
use Rattle.tree.specs.declared.Search.TheVariants.{Best, None, Spent}
use Rattle.tree.proofs.Answers.{InWeek, solved_in_week}
use Rattle.sheet.specs.Private.Desks.{Orderly, first_line, window_line, most_of_command, most_of_refusal, commands_left}
use Rattle.sheet.specs.Lines.{Line, machine, name, lot, narrow, tighten, solve, newline, max_name, max_budget, Bounded}
use Rattle.sheet.specs.PrintLines.{ended_line, named_line, window_lines, windows_unless_dead, tighten_print, start_lines, solve_print, refusal_print}
use Rattle.sheet.specs.Sheets.{Desk, new_desk, head, max_commands, min_print, whole_sheet, Due, Full, CarriesOut, desk_after, Prints, ends, carried_out, refused, ninth, formless, PrintOf}
use Rattle.sheet.proofs.Lines.{length_number, length_budget, length_million, length_numbers}
use Rattle.sheet.proofs.Desks.{new_orderly, after_orderly, tightened_kept}

length_two : (a b : ℕ) → length (numbers (a ∷ b ∷ [])) ≡ 2 + length (decimal a) + length (decimal b)
length_two a b = omega (arith, length_numbers a (b ∷ []), length_numbers b [])

length_ended : (bs : List ℕ) → length (ended_line bs) ≡ length bs + 1
length_ended bs = omega (arith, length-append bs (newline ∷ []))

-- at most so many bytes: the first line of what solve prints, and a line for a start
abbrev best_line : ℕ
best_line = 24

abbrev start_line : ℕ
start_line = 33

length_named : (word : List ℕ) (ns : List ℕ) (w : List ℕ) → length (named_line word ns w) ≡ length word + length (numbers ns) + length w + 2
length_named word ns w = omega (arith, length_ended (word ++ (numbers ns ++ (codes " " ++ w))), length-append word (numbers ns ++ (codes " " ++ w)), length-append (numbers ns) (codes " " ++ w))

windows_short : (C : ℕ) (names : List (List ℕ)) (T : List Lot) → AllByRecursion (λ w. length w ≤ max_name) names → AllByRecursion (LawfulLot C) T → length (window_lines names T) ≤ window_line * length T
windows_short C names [] short ok = omega arith
windows_short C [] (x ∷ xs) short ok = omega arith
windows_short C (w ∷ ws) (x ∷ xs) short ok =
    let line = named_line (codes "W") (x.est ∷ x.lct ∷ []) w in
    let time = ok.0.has_time in
    let week = ok.0.in_week in
    omega (arith, length-append line (window_lines ws xs), length_named (codes "W") (x.est ∷ x.lct ∷ []) w, length_two x.est x.lct, length_number x.est (omega arith), length_number x.lct (omega (arith, week)), short.0, windows_short C ws xs short.1 ok.1)

starts_short : (names : List (List ℕ)) (ss : List ℕ) → AllByRecursion (λ w. length w ≤ max_name) names → AllByRecursion (λ s. s ≤ horizon) ss → length (start_lines names ss) ≤ start_line * length ss
starts_short names [] short week = omega arith
starts_short [] (s ∷ ss) short week = omega arith
starts_short (w ∷ ws) (s ∷ ss) short week =
    let line = named_line (codes "A") (s ∷ []) w in
    omega (arith, length-append line (start_lines ws ss), length_named (codes "A") (s ∷ []) w, length_numbers s [], length_number s (omega (arith, week.0)), short.0, starts_short ws ss short.1 week.1)

verdict_short : (v : Verdict) → length (shown_verdict v) ≤ 5
verdict_short Still = omega arith
verdict_short Moved = omega arith
verdict_short Dead = omega arith

unless_dead_short : (C : ℕ) (v : Verdict) (names : List (List ℕ)) (T : List Lot) → AllByRecursion (λ w. length w ≤ max_name) names → AllByRecursion (LawfulLot C) T → length (windows_unless_dead v names T) ≤ window_line * length T
unless_dead_short C Still names T short ok = windows_short C names T short ok
unless_dead_short C Moved names T short ok = windows_short C names T short ok
unless_dead_short C Dead names T short ok = omega arith

pub tighten_short : (C : ℕ) (v : Verdict) (k : ℕ) (names : List (List ℕ)) (T : List Lot) → k < 10 ^ 6 → AllByRecursion (λ w. length w ≤ max_name) names → AllByRecursion (LawfulLot C) T → length (tighten_print v k names T) ≤ first_line + window_line * length T
tighten_short C v k names T few short ok =
    let first = codes "T " ++ (shown_verdict v ++ numbers (k ∷ [])) in
    omega (arith, length-append (ended_line first) (windows_unless_dead v names T), length_ended first, length-append (shown_verdict v) (numbers (k ∷ [])), length_numbers k [], length_million k few, verdict_short v, unless_dead_short C v names T short ok)

pub solve_short : (n B : ℕ) (us : List ℕ) (a : Search) (names : List (List ℕ)) → n ≤ max_lots → length names ≡ n → B ≤ max_budget → AllByRecursion (λ w. length w ≤ max_name) names → InWeek n B us a → length (solve_print a names us) ≤ best_line + start_line * max_lots
solve_short n B us (Best e k) names few count within short week =
    let first = codes "S best" ++ numbers (e ∷ k ∷ []) in
    let ss = take (length names) us in
    let early : AllByRecursion (λ s. s ≤ horizon) ss = subst (λ i. AllByRecursion (λ s. s ≤ horizon) (take i us)) (sym count) week.2 in
    omega (arith, length-append (ended_line first) (start_lines names ss), length_ended first, length_two e k, length_number e (omega (arith, week.0)), length_budget k (omega (arith, week.1)), starts_short names ss short early, length-take (length names) us)
solve_short n B us (None k) names few count within short week =
    omega (arith, length_ended (codes "S none" ++ numbers (k ∷ [])), length_numbers k [], length_budget k (omega (arith, week)))
solve_short n B us (Spent k) names few count within short week =
    omega (arith, length_ended (codes "S spent" ++ numbers (k ∷ [])), length_numbers k [], length_budget k (omega (arith, week)))

number_small : (e : Refusal) → refusal_number e < 10 ^ 2
number_small e = grind arith

refusal_short : (e : Refusal) → length (decimal (refusal_number e)) ≤ 2
refusal_short e = length-decimal-le 2 (refusal_number e) (omega arith) (number_small e) (omega (arith, number_small e))

pub refused_short : (e : Refusal) (k : ℕ) → k < 10 ^ 3 → length (refusal_print e k) ≤ most_of_refusal
refused_short e k small =
    omega (arith, length_ended (codes "R" ++ numbers (refusal_number e ∷ k ∷ [])), length_two (refusal_number e) k, refusal_short e, length-decimal-le 3 k (omega arith) small (omega arith))

-- no line comes after the ninth command
abbrev pub InTime : Desk → Type 0
InTime D = D.line ≤ head D.lots + max_commands + 1

pub line_small : (D : Desk) → Orderly D → InTime D → D.line < 10 ^ 3
line_small D o time = omega (arith, o.few)

pub after_in_time : (D : Desk) (l : Line) (Q : Table) → Orderly D → Due D l → (Full D → ⊥) → InTime (desk_after D l Q)
after_in_time D (machine C n) Q o due room = omega (arith, due)
after_in_time D (name w) Q o due room = omega (arith, due.1)
after_in_time D (lot i x) Q o due room = omega (arith, due.1)
after_in_time D (narrow i from to) Q o due room = elim (cases_lt (head D.lots + max_commands) D.line) [ inl h ↦ absurd (room h) | inr h ↦ omega (arith, h) ]
after_in_time D tighten Q o due room = elim (cases_lt (head D.lots + max_commands) D.line) [ inl h ↦ absurd (room h) | inr h ↦ omega (arith, h) ]
after_in_time D (solve B) Q o due room = elim (cases_lt (head D.lots + max_commands) D.line) [ inl h ↦ absurd (room h) | inr h ↦ omega (arith, h) ]

module _ (m : Meaning) (sound : Sound m) where
  -- what is printed for a line, and what may still be printed for the commands after it
  pub carried_out_short : (D : Desk) (l : Line) (Q : Table) (out : List ℕ) → Orderly D → Bounded l → Due D l → (Full D → ⊥) → CarriesOut m D l Q out → length out + commands_left (desk_after D l Q) * most_of_command ≤ commands_left D * most_of_command
  carried_out_short D (machine C n) Q out o within due room r = omega (arith, due, o.none_said due, ap length r.1)
  carried_out_short D (name w) Q out o within due room r = omega (arith, ap length r.1)
  carried_out_short D (lot i x) Q out o within due room r = omega (arith, ap length r.2)
  carried_out_short D (narrow i from to) Q out o within due room r = omega (arith, ap length r.1, after_in_time D (narrow i from to) Q o due room)
  carried_out_short D tighten Q out o within due room (v, k, t, p) =
      let kept = tightened_kept m sound D.plan Q v k o.lawful t in
      let few : k < 10 ^ 6 = omega (arith, t.few, slack_fits D.plan.capacity D.plan.lots o.lawful) in
      let count : length Q.lots ≤ max_lots = kept.0.few_lots in
      omega (arith, ap length p, tighten_short Q.capacity v k D.names Q.lots few o.short kept.0.each, after_in_time D tighten Q o due room)
  carried_out_short D (solve B) Q out o within due room (is, us, a, (cs, ds, ss, cells, places, s), p) =
      let week = solved_in_week m sound D.plan.capacity D.plan.lots o.lawful B cs ds ss us a s in
      let count : length D.names ≡ length D.plan.lots = omega (arith, o.named, o.admitted) in
      omega (arith, ap length p, solve_short (length D.plan.lots) B us a D.names o.lawful.few_lots count within o.short week, after_in_time D (solve B) Q o due room)

  prints_short : (D : Desk) (bs out : List ℕ) → Orderly D → InTime D → Prints m D bs out → length out ≤ commands_left D * most_of_command + most_of_refusal
  prints_short D _ _ o time (ends e) = omega arith
  prints_short D bs _ o time (carried_out {rest = rest} l Q out more b n r h) =
      let later = prints_short (desk_after D l Q) rest more (after_orderly m sound D l Q out b.0.1 b.1 r o) (after_in_time D l Q o b.1 n) h in
      omega (arith, length-append out more, later, carried_out_short D l Q out o b.0.1 b.1 n r)
  prints_short D bs _ o time (refused l rest e b n r) = omega (arith, refused_short e D.line (line_small D o time))
  prints_short D bs _ o time (ninth l rest b f) = omega (arith, refused_short refusal.Commands D.line (line_small D o time))
  prints_short D bs _ o time (formless n k) = omega (arith, refused_short refusal.Line D.line (line_small D o time))

  pub print_fits : (sheet out : List ℕ) → PrintOf m sheet out → length out ≤ min_print
  print_fits sheet out (inl p) = omega (arith, ap length p.1, refused_short refusal.SheetLength whole_sheet (omega arith))
  print_fits sheet out (inr p) = omega (arith, prints_short new_desk sheet out new_orderly (omega arith) p.1)
