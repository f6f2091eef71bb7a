-- What a sheet prints: its lines in order, each of them carried out or refused.
use Rattle.std.specs.Prelude.{◌≡◌, ℕ, suc, ◌+◌, ◌-◌, ◌*◌, ◌<◌, ◌≤◌, ◌⊎◌, List, [], ◌∷◌, ◌++◌, length, drop, Ok, Err, Result}
use Rattle.lots.specs.Checks.{Check, Checked}
use Rattle.lots.specs.Limits.{max_lots}
use Rattle.lots.specs.declared.Lot.{Lot}
use Rattle.lots.specs.declared.Refusal.{Refusal}
use Rattle.lots.specs.declared.Refusal.TheVariants as refusal
use Rattle.rule.specs.Meanings.{Meaning, Sound}
use Rattle.rule.specs.declared.Verdict.{Verdict}
use Rattle.tree.specs.Answer.{max_trail, Solved}
use Rattle.tree.specs.declared.Search.{Search}
use Rattle.plan.specs.Calls.{Opened, Admitted, Narrowed, Tightened}
use Rattle.plan.specs.Tables.{empty}
use Rattle.lots.specs.Tables.{Table}
use Rattle.sheet.specs.Lines.{Line, machine, name, lot, narrow, tighten, solve, BeginsWithLine}
use Rattle.sheet.specs.PrintLines.{narrow_print, tighten_print, solve_print, refusal_print}

-- the most bytes of a sheet, and the most commands
abbrev pub max_sheet : ℕ
max_sheet = 16384

abbrev pub max_commands : ℕ
max_commands = 8

-- the fewest bytes of a buffer for the print of a sheet
abbrev pub min_print : ℕ
min_print = 32768

-- the line number of a refusal of the whole sheet
abbrev pub whole_sheet : ℕ
whole_sheet = 0

-- what is known when the line with the number `line` is due: how many lots the first line has said,
-- the names so far, and the plan
pub record Desk : Type 0 where
  pub line : ℕ
  pub lots : ℕ
  pub names : List (List ℕ)
  pub plan : Table

abbrev pub new_desk : Desk
new_desk = record { line = 1; lots = 0; names = []; plan = empty 1 }

-- the lines before the first command: the machine, a name for each lot, and the lots
abbrev pub head : ℕ → ℕ
head lots = 1 + 2 * lots

-- the line is of the form that is due
abbrev pub Due : Desk → Line → Type 0
Due D (machine C n) = D.line ≡ 1
Due D (name w) = (1 < D.line) × (D.line ≤ 1 + D.lots)
Due D (lot i x) = (1 + D.lots < D.line) × (D.line ≤ head D.lots) × (i ≡ D.line - (2 + D.lots))
Due D l = head D.lots < D.line

-- the bytes begin with a line that is due, and `rest` comes after it
abbrev pub BeginsWithDueLine : Desk → List ℕ → Line → List ℕ → Type 0
BeginsWithDueLine D bs l rest = BeginsWithLine bs l rest × Due D l

-- the sheet may end here: every lot is in
abbrev pub MayEnd : Desk → Type 0
MayEnd D = head D.lots < D.line

-- all commands that a sheet may have were carried out
abbrev pub Full : Desk → Type 0
Full D = head D.lots + max_commands < D.line

-- a search of the plan under the budget B, with a trail and a place for starts that serve every
-- table; us is what the place holds after
abbrev pub Searched : Meaning → Table → ℕ → List ℕ → Result Search Refusal → Type 0
Searched m P B us r =
    (cs ds : List Lot) × (ss : List ℕ) × (length cs ≡ max_trail) × (length ss ≡ max_lots)
    × Solved m P.capacity P.lots B cs ds ss us r

-- the line is carried out at the desk D: it leaves the plan Q and prints out
abbrev pub CarriesOut : Meaning → Desk → Line → Table → List ℕ → Type 0
CarriesOut m D (machine C n) Q out = Opened C D.plan Q (Ok tt) × (out ≡ [])
CarriesOut m D (name w) Q out = (Q ≡ D.plan) × (out ≡ [])
CarriesOut m D (lot i x) Q out = (k : ℕ) × Admitted x D.plan Q (Ok k) × (out ≡ [])
CarriesOut m D (narrow i from to) Q out = Narrowed i from to D.plan Q (Ok tt) × (out ≡ narrow_print)
CarriesOut m D tighten Q out =
    (v : Verdict) × (k : ℕ) × Tightened m D.plan Q v k × (out ≡ tighten_print v k D.names Q.lots)
CarriesOut m D (solve B) Q out =
    (Q ≡ D.plan) × (us : List ℕ) × (a : Search) × Searched m D.plan B us (Ok a)
    × (out ≡ solve_print a D.names us)

-- its call is refused with e
abbrev pub Refuses : Meaning → Desk → Line → Refusal → Type 0
Refuses m D (machine C n) e = Opened C D.plan D.plan (Err e)
Refuses m D (name w) e = ⊥
Refuses m D (lot i x) e = Admitted x D.plan D.plan (Err e)
Refuses m D (narrow i from to) e = Narrowed i from to D.plan D.plan (Err e)
Refuses m D tighten e = ⊥
Refuses m D (solve B) e = (us : List ℕ) × Searched m D.plan B us (Err e)

-- what is known after the line, which has left the plan Q
abbrev pub desk_after : Desk → Line → Table → Desk
desk_after D (machine C n) Q = record D { line = suc D.line; lots = n; names = []; plan = Q }
desk_after D (name w) Q = record D { line = suc D.line; names = D.names ++ w ∷ []; plan = Q }
desk_after D l Q = record D { line = suc D.line; plan = Q }

-- the lines bs, from the one that is due at the desk D on, print out
pub data Prints (m : Meaning) : Desk → List ℕ → List ℕ → Type 0 where
  ends : {D : Desk} → MayEnd D → Prints m D [] []
  carried_out : {D : Desk} {bs rest : List ℕ} (l : Line) (Q : Table) (out more : List ℕ)
      → BeginsWithDueLine D bs l rest → (Full D → ⊥) → CarriesOut m D l Q out
      → Prints m (desk_after D l Q) rest more → Prints m D bs (out ++ more)
  refused : {D : Desk} {bs : List ℕ} (l : Line) (rest : List ℕ) (e : Refusal)
      → BeginsWithDueLine D bs l rest → (Full D → ⊥) → Refuses m D l e
      → Prints m D bs (refusal_print e D.line)
  ninth : {D : Desk} {bs : List ℕ} (l : Line) (rest : List ℕ)
      → BeginsWithDueLine D bs l rest → Full D → Prints m D bs (refusal_print refusal.Commands D.line)
  formless : {D : Desk} {bs : List ℕ}
      → ((bs ≡ []) → MayEnd D → ⊥) → ((l : Line) (rest : List ℕ) → BeginsWithDueLine D bs l rest → ⊥)
      → Prints m D bs (refusal_print refusal.Line D.line)

-- the print of a sheet
abbrev pub PrintOf : Meaning → List ℕ → List ℕ → Type 0
PrintOf m sheet out =
    ((max_sheet < length sheet) × (out ≡ refusal_print refusal.SheetLength whole_sheet))
    ⊎ ((length sheet ≤ max_sheet) × Prints m new_desk sheet out)

-- each sheet has exactly one print, and it fits the buffer
pub record OnePrint (m : Meaning) (sheet : List ℕ) : Type 0 where
  pub some : (out : List ℕ) × PrintOf m sheet out
  pub one : (out more : List ℕ) → PrintOf m sheet out → PrintOf m sheet more → out ≡ more
  pub fits : (out : List ℕ) → PrintOf m sheet out → length out ≤ min_print

-- so with every rule that is sound
abbrev pub EverySheet : Type 0
EverySheet = (m : Meaning) → Sound m → (sheet : List ℕ) → OnePrint m sheet

-- for a buffer of so many bytes
abbrev pub print_checks : ℕ → List Check
print_checks bytes = record { refusal = refusal.PrintBuffer; applies = bytes < min_print } ∷ []

-- what the sheet call answers, where the buffer holds `before` before it and `holds` after it
abbrev pub Printed : Meaning → List ℕ → List ℕ → List ℕ → Result ℕ Refusal → Type 0
Printed m sheet before holds r =
    Checked (print_checks (length before)) (holds ≡ before)
    (λ n. (out : List ℕ) × PrintOf m sheet out × (n ≡ length out) × (holds ≡ out ++ drop n before)) r
