-- The letter that a line begins with decides what it says.
use Rattle.std.proofs.Common.{◌≡◌, ℕ, ◌<◌, List, [], ◌∷◌, length, length-append, get_or, drop, sym, ap, refl, ◌∙◌, arith, rules}
use Rattle.lots.specs.Limits.{max_lots}
use Rattle.sheet.specs.Lines.{Line, written_line, machine, name, lot, narrow, tighten, solve, newline, BeginsWithLine}
use Rattle.sheet.specs.Private.Words.{BeginsBy, BeginsWithNumber, BeginsWithNumbers, BeginsWithName}
use Rattle.sheet.proofs.Lines.{numbers_one, first_one, newline_follows}

abbrev pub machine_letter : ℕ
machine_letter = 67

abbrev pub name_letter : ℕ
name_letter = 78

abbrev pub lot_letter : ℕ
lot_letter = 66

abbrev pub narrow_letter : ℕ
narrow_letter = 72

abbrev pub tighten_letter : ℕ
tighten_letter = 84

abbrev pub solve_letter : ℕ
solve_letter = 83

pub no_machine : (bs : List ℕ) → ((ns rest : List ℕ) → BeginsWithNumbers 2 bs ns rest → ⊥) → (l : Line) (rest : List ℕ) → BeginsBy machine_letter bs l rest → ⊥
no_machine bs none (machine C n) rest begins = none (C ∷ n ∷ []) rest (ap (drop 1) begins.0, refl, search rules, begins.2)
no_machine bs none l rest begins = absurd (omega (arith, ap (λ bytes. get_or bytes 0 0) begins.0))

pub no_machine_of_many : (bs ns rest : List ℕ) → BeginsWithNumbers 2 bs ns rest → max_lots < get_or ns 1 0 → (l : Line) (more : List ℕ) → BeginsBy machine_letter bs l more → ⊥
no_machine_of_many bs (a ∷ b ∷ []) rest read many (machine C n) more begins =
    let one = numbers_one (a ∷ b ∷ []) (C ∷ n ∷ []) rest more refl (search rules) (search rules) read.3 begins.2 (sym read.0 ∙ ap (drop 1) begins.0) in
    let lots : b ≡ n = cc one.0 in
    omega arith
no_machine_of_many bs ns rest read many (machine C n) more begins = absurd (omega (arith, read.1))
no_machine_of_many bs ns rest read many l more begins = absurd (omega (arith, ap (λ bytes. get_or bytes 0 0) begins.0))

pub no_lot : (bs : List ℕ) → ((ns rest : List ℕ) → BeginsWithNumbers 5 bs ns rest → ⊥) → (l : Line) (rest : List ℕ) → BeginsBy lot_letter bs l rest → ⊥
no_lot bs none (lot i x) rest begins = none (i ∷ x.est ∷ x.lct ∷ x.p ∷ x.c ∷ []) rest (ap (drop 1) begins.0, refl, search rules, begins.2)
no_lot bs none l rest begins = absurd (omega (arith, ap (λ bytes. get_or bytes 0 0) begins.0))

pub no_narrow : (bs : List ℕ) → ((ns rest : List ℕ) → BeginsWithNumbers 3 bs ns rest → ⊥) → (l : Line) (rest : List ℕ) → BeginsBy narrow_letter bs l rest → ⊥
no_narrow bs none (narrow i from to) rest begins = none (i ∷ from ∷ to ∷ []) rest (ap (drop 1) begins.0, refl, search rules, begins.2)
no_narrow bs none l rest begins = absurd (omega (arith, ap (λ bytes. get_or bytes 0 0) begins.0))

pub no_name : (bs : List ℕ) → ((w rest : List ℕ) → BeginsWithName bs w rest → ⊥) → (l : Line) (rest : List ℕ) → BeginsBy name_letter bs l rest → ⊥
no_name bs none (name w) rest begins = none w rest (ap (drop 1) begins.0, begins.1, begins.2)
no_name bs none l rest begins = absurd (omega (arith, ap (λ bytes. get_or bytes 0 0) begins.0))

pub no_solve : (bs : List ℕ) → ((n : ℕ) (rest : List ℕ) → BeginsWithNumber bs n rest → ⊥) → (l : Line) (rest : List ℕ) → BeginsBy solve_letter bs l rest → ⊥
no_solve bs none (solve budget) rest begins = none budget rest (ap (drop 1) begins.0, begins.1, begins.2)
no_solve bs none l rest begins = absurd (omega (arith, ap (λ bytes. get_or bytes 0 0) begins.0))

pub no_letter : (letter : ℕ) (bs : List ℕ) → (letter ≡ machine_letter → ⊥) → (letter ≡ name_letter → ⊥) → (letter ≡ lot_letter → ⊥) → (letter ≡ narrow_letter → ⊥) → (letter ≡ tighten_letter → ⊥) → (letter ≡ solve_letter → ⊥)
    → (l : Line) (rest : List ℕ) → BeginsBy letter bs l rest → ⊥
no_letter letter bs no_c no_n no_b no_h no_t no_s (machine C n) rest begins = no_c (ap (λ bytes. get_or bytes 0 0) begins.0)
no_letter letter bs no_c no_n no_b no_h no_t no_s (name w) rest begins = no_n (ap (λ bytes. get_or bytes 0 0) begins.0)
no_letter letter bs no_c no_n no_b no_h no_t no_s (lot i x) rest begins = no_b (ap (λ bytes. get_or bytes 0 0) begins.0)
no_letter letter bs no_c no_n no_b no_h no_t no_s (narrow i from to) rest begins = no_h (ap (λ bytes. get_or bytes 0 0) begins.0)
no_letter letter bs no_c no_n no_b no_h no_t no_s tighten rest begins = no_t (ap (λ bytes. get_or bytes 0 0) begins.0)
no_letter letter bs no_c no_n no_b no_h no_t no_s (solve budget) rest begins = no_s (ap (λ bytes. get_or bytes 0 0) begins.0)

pub no_empty_line : (l : Line) (rest : List ℕ) → BeginsWithLine [] l rest → ⊥
no_empty_line l rest begins = omega (arith, ap length begins.0, length-append (written_line l) (newline ∷ rest))

-- a line that no newline follows is no line
pub not_ended : (bs : List ℕ) (l : Line) (letter : ℕ) (words after : List ℕ) → bs ≡ letter ∷ words → BeginsBy letter words l after → ((rest : List ℕ) → after ≡ newline ∷ rest → ⊥) → (k : Line) (more : List ℕ) → BeginsWithLine bs k more → ⊥
not_ended bs l letter words after is read unended k more begins =
    unended more (first_one l k after (newline ∷ more) read.1 begins.1 read.2 (newline_follows k more) (sym read.0 ∙ sym is ∙ begins.0)).1
