-- What taking one line of a sheet does.
use Rattle.std.specs.Prelude.{◌≡◌, ℕ, List, Ok, Err, Result}
use Rattle.lots.specs.declared.Refusal.{Refusal}
use Rattle.rule.specs.Meanings.{Meaning}
use Rattle.lots.specs.Tables.{Table}
use Rattle.sheet.specs.Lines.{Line, Bounded}
use Rattle.sheet.specs.PrintLines.{refusal_print}
use Rattle.sheet.specs.Sheets.{Desk, Due, BeginsWithDueLine, Full, CarriesOut, Refuses, desk_after, Prints}
use Rattle.sheet.specs.Private.Desks.{Orderly, RoomFor}
use Rattle.sheet.specs.Private.Pages.{Adds}
use Rattle.sheet.specs.declared.page.Page.{Page}

-- the line can be carried out at the desk D, and the page has room for what it prints
pub record Ready (D : Desk) (l : Line) (p : Page) : Type 0 where
  pub due : Due D l
  pub bounded : Bounded l
  pub time : Full D → ⊥
  pub orderly : Orderly D
  pub room : RoomFor D p

-- the line is carried out at the desk D, which becomes E, and what it prints is added to the page
-- p, which becomes q; or it is refused, and desk and page stay
abbrev pub CarriedOut : Meaning → Desk → Line → Desk → Page → Page → Result (Unit {0}) Refusal → Type 0
CarriedOut m D l E p q (Ok _) =
    (Q : Table) × (out : List ℕ) × CarriesOut m D l Q out × (E ≡ desk_after D l Q) × Adds p out q
CarriedOut m D l E p q (Err e) = Refuses m D l e × (E ≡ D) × (q ≡ p)

-- so of the first line of the bytes bs, after which `rest` comes; or the print ends with a refusal,
-- which is still to be printed
abbrev pub Took : Meaning → Desk → List ℕ → Desk → List ℕ → Page → Page → Result (Unit {0}) Refusal
    → Type 0
Took m D bs E rest p q (Ok x) =
    (l : Line) × BeginsWithDueLine D bs l rest × (Full D → ⊥) × CarriedOut m D l E p q (Ok x)
Took m D bs E rest p q (Err e) = Prints m D bs (refusal_print e D.line) × (E ≡ D) × (q ≡ p)
