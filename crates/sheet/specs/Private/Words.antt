-- The words of a sheet: where they stand in it, and what a text begins with.
use Rattle.std.specs.Prelude.{◌≡◌, ℕ, ◌+◌, ◌<◌, ◌≤◌, ◌⊎◌, List, [], ◌∷◌, ◌++◌, length, take, drop, slice_index, codes, decimal, Option, MatchOption}
use Rattle.std.specs.Borrow.{Bor}
use Rattle.std.specs.Char.{IsAsciiDigit}
use Rattle.std.specs.Int.{IsInRange}
use Rattle.std.specs.List.{AllByRecursion}
use Rattle.lots.specs.Texts.{space, digit_zero, numbers}
use Rattle.sheet.specs.Lines.{max_name, max_number, max_budget, Line, name, tighten, written_line, Printable, Named, Bounded}
use Rattle.sheet.specs.declared.token.Token.{Token}
use Rattle.sheet.specs.declared.token.Token.TheVariants.{Name, Number, Command}

-- the bytes begin with n bytes of the kind P and no more
pub record Stretch (P : ℕ → Type 0) (bs : List ℕ) (n : ℕ) : Type 0 where
  pub within : n ≤ length bs
  pub each : (k : ℕ) → k < n → P (slice_index bs k)
  pub stops : n < length bs → P (slice_index bs n) → ⊥

-- the word w at the place p is what the sheet has there: the whole stretch of bytes of the kind P
-- after the space at `at`
pub record Word (P : ℕ → Type 0) (sheet : List ℕ) (at : ℕ) (w : List ℕ) (p : ℕ) : Type 0 where
  pub spaced : slice_index sheet at ≡ space
  pub next : p ≡ at + 1
  pub within : p + length w ≤ length sheet
  pub part : w ≡ take (length w) (drop p sheet)
  pub whole : Stretch P (drop p sheet) (length w)

-- the token is the byte at the place
abbrev pub CommandAt : List ℕ → ℕ → Token → Type 0
CommandAt sheet at (Command b p) = (p ≡ at) × (p < length sheet) × (b.now ≡ slice_index sheet p)
CommandAt sheet at t = ⊥

-- the token is the word of digits, or of printable bytes, after the space at the place
abbrev pub NumberAt : List ℕ → ℕ → Token → Type 0
NumberAt sheet at (Number w p) = Word IsAsciiDigit sheet at w.now p
NumberAt sheet at t = ⊥

abbrev pub NameAt : List ℕ → ℕ → Token → Type 0
NameAt sheet at (Name w p) = Word Printable sheet at w.now p
NameAt sheet at t = ⊥

-- the place after the token
abbrev pub end_of : Token → ℕ
end_of (Name w p) = p + length w.now
end_of (Number w p) = p + length w.now
end_of (Command b p) = p + 1

-- the token is a command with the letter c
abbrev pub Letter : Token → ℕ → Type 0
Letter (Command b p) c = b.now ≡ c
Letter t c = ⊥

-- the token is a number word that writes n
abbrev pub Numeral : Token → ℕ → Type 0
Numeral (Number w p) n = (w.now ≡ decimal n) × (n ≤ max_budget)
Numeral t n = ⊥

-- the token is the name w, of a length that a name may have
abbrev pub Called : Token → Bor (List ℕ) → Type 0
Called (Name v p) w = (v.now ≡ w.now) × (1 ≤ length w.now) × (length w.now ≤ max_name)
Called t w = ⊥

abbrev pub digit_one : ℕ
digit_one = 49

abbrev pub digit_nine : ℕ
digit_nine = 57

-- the bytes are the digit 0 alone, or begin with another digit
abbrev pub BeginsNumeral : List ℕ → Type 0
BeginsNumeral bs = (bs ≡ digit_zero ∷ []) ⊎ IsInRange digit_one digit_nine (slice_index bs 0)

-- no byte of the kind P comes first
abbrev pub Stops : (ℕ → Type 0) → List ℕ → Type 0
Stops P [] = Unit {0}
Stops P (b ∷ bs) = P b → ⊥

-- the bytes after the line go on neither with its name nor with its last number
abbrev pub StopsAfter : Line → List ℕ → Type 0
StopsAfter (name w) rest = Stops Printable rest
StopsAfter tighten rest = Unit {0}
StopsAfter l rest = Stops IsAsciiDigit rest

-- the letter and the bytes after it begin with a line that is not yet ended
abbrev pub BeginsBy : ℕ → List ℕ → Line → List ℕ → Type 0
BeginsBy letter bs l rest = (letter ∷ bs ≡ written_line l ++ rest) × Bounded l × StopsAfter l rest

abbrev pub BeginsWithNumber : List ℕ → ℕ → List ℕ → Type 0
BeginsWithNumber bs n rest = (bs ≡ numbers (n ∷ []) ++ rest) × (n ≤ max_budget) × Stops IsAsciiDigit rest

-- no digit comes after the last of the numbers
abbrev pub StopsAfterNumbers : List ℕ → List ℕ → Type 0
StopsAfterNumbers [] rest = Unit {0}
StopsAfterNumbers (n ∷ ns) rest = Stops IsAsciiDigit rest

abbrev pub BeginsWithNumbers : ℕ → List ℕ → List ℕ → List ℕ → Type 0
BeginsWithNumbers count bs ns rest =
    (bs ≡ numbers ns ++ rest) × (length ns ≡ count) × AllByRecursion (λ n. n ≤ max_number) ns
    × StopsAfterNumbers ns rest

abbrev pub BeginsWithName : List ℕ → List ℕ → List ℕ → Type 0
BeginsWithName bs w rest = (bs ≡ codes " " ++ (w ++ rest)) × Named w × Stops Printable rest

-- what was read means something that the bytes begin with, and `rest` comes after it; or they begin
-- with no such thing
abbrev pub Takes : {X Y : Type 0} → (Y → X) → (X → List ℕ → Type 0) → Option Y → List ℕ → Type 0
Takes {X} meant R r rest =
    MatchOption r ((x : X) (more : List ℕ) → R x more → ⊥) (λ y. R (meant y) rest)
