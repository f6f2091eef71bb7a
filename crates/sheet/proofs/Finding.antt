-- Whether a text begins with a line.
use Rattle.std.proofs.Common.{◌≡◌, ℕ, zero, suc, ◌<◌, ◌≤◌, ◌⊎◌, inl, inr, List, [], ◌∷◌, ◌++◌, length, get_or, drop, sym, ap, ap₂, subst, refl, ◌∙◌, append-nil, arith, rules}
use Rattle.std.specs.Char.{IsAsciiDigit}
use Rattle.std.specs.Fmt.{decimal}
use Rattle.std.specs.Int.{IsInRange}
use Rattle.std.specs.List.{AllByRecursion}
use Rattle.std.specs.Str.Parse.{digits_value}
use Rattle.std.proofs.lemmas.Bool.{cases_eq, cases_lt}
use Rattle.std.proofs.lemmas.Fmt.{digits_decimal, digits_value-decimal, decimal-digits_value}
use Rattle.lots.specs.Limits.{max_lots}
use Rattle.lots.specs.Texts.{numbers, space, digit_zero}
use Rattle.sheet.specs.Lines.{Line, written_line, machine, name, lot, narrow, tighten, solve, newline, first_printable, last_printable, max_name, max_number, max_budget, Printable, BeginsWithLine}
use Rattle.sheet.specs.Private.Words.{BeginsNumeral, digit_one, digit_nine, StopsAfterNumbers, Stops, BeginsBy, BeginsWithNumber, BeginsWithNumbers, BeginsWithName}
use Rattle.sheet.proofs.Letters.{machine_letter, name_letter, lot_letter, narrow_letter, tighten_letter, solve_letter, no_machine, no_machine_of_many, no_lot, no_narrow, no_solve, no_name, no_letter, no_empty_line, not_ended}
use Rattle.sheet.proofs.Lines.{stretch_one, number_one, numbers_stop, newline_follows}
use Rattle.sheet.proofs.Numerals.{digits, no_numeral, zero_alone}
use Rattle.sheet.proofs.Reading.{stops_after_numbers, numbers_cut, number_first, no_more_numbers, too_great}

-- R holds of something, before some rest, or of nothing
abbrev Found : {X : Type 0} → (X → List ℕ → Type 0) → Type 0
Found {X} R = ((x : X) × (rest : List ℕ) × R x rest) ⊎ ((x : X) (rest : List ℕ) → R x rest → ⊥)

range_decided : (low high b : ℕ) → IsInRange low high b ⊎ (IsInRange low high b → ⊥)
range_decided low high b = elim (cases_lt b low) [
  | inl below ↦ inr (λ within. omega arith)
  | inr above ↦ elim (cases_lt high b) [ inl past ↦ inr (λ within. omega arith) | inr within ↦ inl (above, within) ]
]

-- the longest stretch of bytes in a range
stretch_found : (low high : ℕ) (bs : List ℕ) → (w : List ℕ) × (rest : List ℕ) × (bs ≡ w ++ rest) × AllByRecursion (IsInRange low high) w × Stops (IsInRange low high) rest
stretch_found low high [] = ([], [], refl, tt, tt)
stretch_found low high (b ∷ bs) = elim (range_decided low high b) [
  | inl within ↦ let (w, rest, parts, each, stops) = stretch_found low high bs in (b ∷ w, rest, ap (λ xs. b ∷ xs) parts, (within, each), stops)
  | inr out ↦ ([], b ∷ bs, refl, tt, out)
]

neither : {A B : Type 0} → (A → ⊥) → (B → ⊥) → A ⊎ B → ⊥
neither a b (inl x) = a x
neither a b (inr y) = b y

begins_decided : (bs : List ℕ) → BeginsNumeral bs ⊎ (BeginsNumeral bs → ⊥)
begins_decided [] = inr (neither (λ is. omega (arith, ap length is)) (λ high. omega arith))
begins_decided (b ∷ []) = elim (cases_eq b digit_zero) [
  | inl is ↦ inl (inl (ap (λ d. d ∷ []) is))
  | inr other ↦ elim (range_decided digit_one digit_nine b) [ inl high ↦ inl (inr high) | inr low ↦ inr (neither (λ is. other (ap (λ ds. get_or ds 0 0) is)) low) ]
]
begins_decided (b ∷ c ∷ ds) = elim (range_decided digit_one digit_nine b) [
  | inl high ↦ inl (inr high)
  | inr low ↦ inr (neither (λ is. omega (arith, ap length is)) low)
]

some_digit : (bs : List ℕ) → BeginsNumeral bs → 0 < length bs
some_digit [] (inl is) = absurd (omega (arith, ap length is))
some_digit [] (inr high) = absurd (omega arith)
some_digit (b ∷ bs) begins = omega arith

numeral_found : (w : List ℕ) → AllByRecursion IsAsciiDigit w → ((n : ℕ) × (w ≡ decimal n) × (n ≤ max_budget)) ⊎ ((n : ℕ) → (w ≡ decimal n) × (n ≤ max_budget) → ⊥)
numeral_found w each = elim (begins_decided w) [
  | inr not ↦ inr (no_numeral w not)
  | inl begins ↦ elim (cases_lt max_budget (digits_value 10 w)) [
    | inl great ↦ inr (λ n is. let value : digits_value 10 w ≡ n = ap (digits_value 10) is.0 ∙ digits_value-decimal digits n (omega arith) in omega arith)
    | inr small ↦ inl (digits_value 10 w, sym (decimal-digits_value digits w each (some_digit w begins) (zero_alone w begins) (omega arith)), small)
  ]
]

number_found : (bs : List ℕ) → Found (BeginsWithNumber bs)
number_found [] = inr (λ n rest begins. omega (arith, ap length begins.0))
number_found (b ∷ bs) = elim (cases_eq b space) [
  | inr other ↦ inr (λ n rest begins. other (ap (λ ds. get_or ds 0 0) begins.0))
  | inl spaced ↦
      let (w, rest, parts, each, stops) = stretch_found digit_zero digit_nine bs in
      elim (numeral_found w each) [
        | inl (n, is, small) ↦ inl (n, rest, (ap₂ (λ x xs. x ∷ xs) spaced (parts ∙ ap (λ ds. ds ++ rest) (is ∙ sym (append-nil (decimal n)))), small, stops))
        | inr none ↦ inr (λ n more begins.
            let same = sym parts ∙ ap (drop 1) (number_first (b ∷ bs) n more begins.0) in
            let one = stretch_one IsAsciiDigit w (decimal n) rest more each (digits_decimal digits n (omega arith)) stops begins.2 same in
            none n (one.0, begins.1))
      ]
]

stops_last : (ns mid rest : List ℕ) → Stops IsAsciiDigit mid → mid ≡ numbers ns ++ rest → StopsAfterNumbers ns rest → Stops IsAsciiDigit rest
stops_last [] mid rest stops is end = subst (Stops IsAsciiDigit) is stops
stops_last (n ∷ ns) mid rest stops is end = end

no_others : (count : ℕ) (bs : List ℕ) (n : ℕ) (mid : List ℕ) → BeginsWithNumber bs n mid → ((ns rest : List ℕ) → BeginsWithNumbers count mid ns rest → ⊥)
    → (ks more : List ℕ) → BeginsWithNumbers (suc count) bs ks more → ⊥
no_others count bs n mid read none [] more begins = absurd (omega (arith, begins.1))
no_others count bs n mid read none (k ∷ ks) more begins =
    let same = ap (drop 1) (sym (number_first bs n mid read.0) ∙ begins.0 ∙ numbers_cut k ks more) in
    let one = number_one n k mid (numbers ks ++ more) (omega (arith, read.1)) (omega (arith, begins.2.0)) read.2 (numbers_stop ks more begins.3) same in
    none ks more (one.1, omega (arith, begins.1), begins.2.1, stops_after_numbers ks more begins.3)

numbers_found : (count : ℕ) (bs : List ℕ) → Found (BeginsWithNumbers count bs)
numbers_found zero bs = inl ([], bs, (refl, refl, tt, tt))
numbers_found (suc count) bs = elim (number_found bs) [
  | inr none ↦ inr (no_more_numbers [] bs bs 0 (suc count) (refl, refl, tt, tt) (λ n rest small. none n rest) (omega arith))
  | inl (n, mid, read) ↦ elim (cases_lt max_number n) [
    | inl great ↦ inr (no_more_numbers [] bs bs 0 (suc count) (refl, refl, tt, tt) (too_great bs n mid read great) (omega arith))
    | inr small ↦ elim (numbers_found count mid) [
      | inl (ns, rest, others) ↦ inl (n ∷ ns, rest, (read.0 ∙ ap (λ xs. numbers (n ∷ []) ++ xs) others.0 ∙ numbers_cut n [] (numbers ns ++ rest) ∙ sym (numbers_cut n ns rest), omega (arith, others.1), (small, others.2), stops_last ns mid rest read.2 others.0 others.3))
      | inr none ↦ inr (no_others count bs n mid read none)
    ]
  ]
]

name_found : (bs : List ℕ) → Found (BeginsWithName bs)
name_found [] = inr (λ w rest begins. omega (arith, ap length begins.0))
name_found (b ∷ bs) = elim (cases_eq b space) [
  | inr other ↦ inr (λ w rest begins. other (ap (λ ds. get_or ds 0 0) begins.0))
  | inl spaced ↦
      let (w, rest, parts, each, stops) = stretch_found first_printable last_printable bs in
      elim (range_decided 1 max_name (length w)) [
        | inl fits ↦ inl (w, rest, (ap₂ (λ x xs. x ∷ xs) spaced parts, (fits.0, fits.1, each), stops))
        | inr none ↦ inr (λ v more begins.
            let one = stretch_one Printable w v rest more each begins.1.2 stops begins.2 (sym parts ∙ ap (drop 1) begins.0) in
            none (rw one.0 begins.1.0, rw one.0 begins.1.1))
      ]
]

-- lines that are not yet ended, by their letters

machine_found : (bs : List ℕ) → Found (BeginsWithNumbers 2 bs) → Found (BeginsBy machine_letter bs)
machine_found bs (inl (C ∷ n ∷ [], rest, read)) = elim (cases_lt max_lots n) [
  | inl many ↦ inr (no_machine_of_many bs (C ∷ n ∷ []) rest read many)
  | inr few ↦ inl (machine C n, rest, (ap (λ xs. machine_letter ∷ xs) read.0, (read.2.0, few), read.3))
]
machine_found bs (inl (ns, rest, read)) = absurd (omega (arith, read.1))
machine_found bs (inr none) = inr (no_machine bs none)

lot_found : (bs : List ℕ) → Found (BeginsWithNumbers 5 bs) → Found (BeginsBy lot_letter bs)
lot_found bs (inl (i ∷ est ∷ lct ∷ p ∷ c ∷ [], rest, read)) =
    inl (lot i record { est = est; lct = lct; p = p; c = c }, rest, (ap (λ xs. lot_letter ∷ xs) read.0, search rules, read.3))
lot_found bs (inl (ns, rest, read)) = absurd (omega (arith, read.1))
lot_found bs (inr none) = inr (no_lot bs none)

narrow_found : (bs : List ℕ) → Found (BeginsWithNumbers 3 bs) → Found (BeginsBy narrow_letter bs)
narrow_found bs (inl (i ∷ from ∷ to ∷ [], rest, read)) = inl (narrow i from to, rest, (ap (λ xs. narrow_letter ∷ xs) read.0, search rules, read.3))
narrow_found bs (inl (ns, rest, read)) = absurd (omega (arith, read.1))
narrow_found bs (inr none) = inr (no_narrow bs none)

solve_found : (bs : List ℕ) → Found (BeginsWithNumber bs) → Found (BeginsBy solve_letter bs)
solve_found bs (inl (n, rest, read)) = inl (solve n, rest, (ap (λ xs. solve_letter ∷ xs) read.0, read.1, read.2))
solve_found bs (inr none) = inr (no_solve bs none)

called_found : (bs : List ℕ) → Found (BeginsWithName bs) → Found (BeginsBy name_letter bs)
called_found bs (inl (w, rest, read)) = inl (name w, rest, (ap (λ xs. name_letter ∷ xs) read.0, read.1, read.2))
called_found bs (inr none) = inr (no_name bs none)

letter_found : (letter : ℕ) (bs : List ℕ) → Found (BeginsBy letter bs)
letter_found letter bs = elim (cases_eq letter machine_letter) [
  | inl is ↦ rw is (machine_found bs (numbers_found 2 bs))
  | inr no_c ↦ elim (cases_eq letter name_letter) [
    | inl is ↦ rw is (called_found bs (name_found bs))
    | inr no_n ↦ elim (cases_eq letter lot_letter) [
      | inl is ↦ rw is (lot_found bs (numbers_found 5 bs))
      | inr no_b ↦ elim (cases_eq letter narrow_letter) [
        | inl is ↦ rw is (narrow_found bs (numbers_found 3 bs))
        | inr no_h ↦ elim (cases_eq letter tighten_letter) [
          | inl is ↦ rw is (inl (tighten, bs, (refl, tt, tt)))
          | inr no_t ↦ elim (cases_eq letter solve_letter) [
            | inl is ↦ rw is (solve_found bs (number_found bs))
            | inr no_s ↦ inr (no_letter letter bs no_c no_n no_b no_h no_t no_s)
          ]
        ]
      ]
    ]
  ]
]

ended_found : (bs : List ℕ) (letter : ℕ) (words : List ℕ) → bs ≡ letter ∷ words → Found (BeginsBy letter words) → Found (BeginsWithLine bs)
ended_found bs letter words is (inr none) = inr (λ l rest begins. none l (newline ∷ rest) (sym is ∙ begins.0, begins.1, newline_follows l rest))
ended_found bs letter words is (inl (l, [], read)) = inr (not_ended bs l letter words [] is read (λ rest same. omega (arith, ap length same)))
ended_found bs letter words is (inl (l, b ∷ rest, read)) = elim (cases_eq b newline) [
  | inl ends ↦ inl (l, rest, (is ∙ read.0 ∙ ap (λ x. written_line l ++ x ∷ rest) ends, read.1))
  | inr other ↦ inr (not_ended bs l letter words (b ∷ rest) is read (λ more same. other (ap (λ xs. get_or xs 0 0) same)))
]

-- a text begins with a line, or with none
pub find_line : (bs : List ℕ) → ((l : Line) × (rest : List ℕ) × BeginsWithLine bs l rest) ⊎ ((l : Line) (rest : List ℕ) → BeginsWithLine bs l rest → ⊥)
find_line [] = inr no_empty_line
find_line (b ∷ bs) = ended_found (b ∷ bs) b bs refl (letter_found b bs)
