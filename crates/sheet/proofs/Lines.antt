-- A text begins with one line at most, and how long its numbers are.
use Rattle.std.proofs.Common.{◌≡◌, ℕ, ◌+◌, ◌^◌, ◌<◌, ◌≤◌, List, [], ◌∷◌, ◌++◌, length, get_or, drop, sym, ap, subst, refl, ◌∙◌, append_assoc, arith, rules, length-append}
use Rattle.std.specs.Char.{IsAsciiDigit}
use Rattle.std.specs.Fmt.{decimal}
use Rattle.std.specs.List.{AllByRecursion}
use Rattle.std.proofs.lemmas.Fmt.{digits_decimal, decimal_injective, length-decimal-le}
use Rattle.lots.specs.Texts.{numbers}
use Rattle.lots.proofs.Tables.{lot_path}
use Rattle.sheet.specs.Lines.{newline, max_number, max_budget, Line, machine, name, lot, narrow, tighten, solve, written_line, Bounded, Printable, BeginsWithLine}
use Rattle.sheet.specs.Private.Words.{Stops, StopsAfter}
use Rattle.sheet.proofs.Numerals.{digits}

-- stretches

-- a text begins with one longest stretch of bytes of the kind P
pub stretch_one : (P : ℕ → Type 0) (ds es rest more : List ℕ) → AllByRecursion P ds → AllByRecursion P es → Stops P rest → Stops P more → ds ++ rest ≡ es ++ more → (ds ≡ es) × (rest ≡ more)
stretch_one P [] [] rest more some others stops ends same = (refl, same)
stretch_one P [] (e ∷ es) rest more some others stops ends same = absurd (subst (Stops P) same stops others.0)
stretch_one P (d ∷ ds) [] rest more some others stops ends same = absurd (subst (Stops P) (sym same) ends some.0)
stretch_one P (d ∷ ds) (e ∷ es) rest more some others stops ends same =
    let tails : ds ++ rest ≡ es ++ more = cc in
    let one = stretch_one P ds es rest more some.1 others.1 stops ends tails in
    let heads : d ≡ e = cc in
    (cc (one.0, heads), one.1)

-- numbers

pub number_one : (n k : ℕ) (rest more : List ℕ) → n < 2 ^ 64 → k < 2 ^ 64 → Stops IsAsciiDigit rest → Stops IsAsciiDigit more → decimal n ++ rest ≡ decimal k ++ more → (n ≡ k) × (rest ≡ more)
number_one n k rest more small low stops ends same =
    let one = stretch_one IsAsciiDigit (decimal n) (decimal k) rest more (digits_decimal digits n small) (digits_decimal digits k low) stops ends same in
    (decimal_injective n k small low one.0, one.1)

-- no digit comes after a number that is followed by numbers
pub numbers_stop : (ns : List ℕ) (rest : List ℕ) → Stops IsAsciiDigit rest → Stops IsAsciiDigit (numbers ns ++ rest)
numbers_stop [] rest stops = stops
numbers_stop (n ∷ ns) rest stops = λ digit. omega (arith, digit.0)

abbrev pub Small : List ℕ → Type 0
Small ns = AllByRecursion (λ n. n < 2 ^ 64) ns

pub numbers_one : (ns ks rest more : List ℕ) → length ns ≡ length ks → Small ns → Small ks → Stops IsAsciiDigit rest → Stops IsAsciiDigit more → numbers ns ++ rest ≡ numbers ks ++ more → (ns ≡ ks) × (rest ≡ more)
numbers_one [] [] rest more count small low stops ends same = (refl, same)
numbers_one [] (k ∷ ks) rest more count small low stops ends same = absurd (omega arith)
numbers_one (n ∷ ns) [] rest more count small low stops ends same = absurd (omega arith)
numbers_one (n ∷ ns) (k ∷ ks) rest more count small low stops ends same =
    let words : decimal n ++ (numbers ns ++ rest) ≡ decimal k ++ (numbers ks ++ more) = sym (append_assoc (decimal n) (numbers ns) rest) ∙ ap (drop 1) same ∙ append_assoc (decimal k) (numbers ks) more in
    let first = number_one n k (numbers ns ++ rest) (numbers ks ++ more) small.0 low.0 (numbers_stop ns rest stops) (numbers_stop ks more ends) words in
    let others = numbers_one ns ks rest more (omega arith) small.1 low.1 stops ends first.1 in
    (cc (first.0, others.0), others.1)

-- lines

pub first_one : (l k : Line) (rest more : List ℕ) → Bounded l → Bounded k → StopsAfter l rest → StopsAfter k more → written_line l ++ rest ≡ written_line k ++ more → (l ≡ k) × (rest ≡ more)
first_one (machine C n) (machine D m) rest more within low stops ends same =
    let one = numbers_one (C ∷ n ∷ []) (D ∷ m ∷ []) rest more refl (search rules) (search rules) stops ends (ap (drop 1) same) in
    (cc one.0, one.1)
first_one (name w) (name v) rest more within low stops ends same =
    let one = stretch_one Printable w v rest more within.2 low.2 stops ends (ap (drop 2) same) in
    (ap name one.0, one.1)
first_one (lot i x) (lot j y) rest more within low stops ends same =
    let one = numbers_one (i ∷ x.est ∷ x.lct ∷ x.p ∷ x.c ∷ []) (j ∷ y.est ∷ y.lct ∷ y.p ∷ y.c ∷ []) rest more refl (search rules) (search rules) stops ends (ap (drop 1) same) in
    let lots : x ≡ y = lot_path x y (cc one.0) (cc one.0) (cc one.0) (cc one.0) in
    let number : i ≡ j = cc one.0 in
    (cc, one.1)
first_one (narrow i from to) (narrow j since till) rest more within low stops ends same =
    let one = numbers_one (i ∷ from ∷ to ∷ []) (j ∷ since ∷ till ∷ []) rest more refl (search rules) (search rules) stops ends (ap (drop 1) same) in
    (cc one.0, one.1)
first_one tighten tighten rest more within low stops ends same = (refl, ap (drop 1) same)
first_one (solve B) (solve D) rest more within low stops ends same =
    let one = numbers_one (B ∷ []) (D ∷ []) rest more refl (search rules) (search rules) stops ends (ap (drop 1) same) in
    (cc one.0, one.1)
first_one l k rest more within low stops ends same = absurd (omega (arith, ap (λ bs. get_or bs 0 0) same))

-- the byte that ends a line is no digit, and no part of a name
pub newline_follows : (l : Line) (rest : List ℕ) → StopsAfter l (newline ∷ rest)
newline_follows (machine C n) rest = λ digit. omega (arith, digit.0)
newline_follows (name w) rest = λ printable. omega (arith, printable.0)
newline_follows (lot i x) rest = λ digit. omega (arith, digit.0)
newline_follows (narrow i from to) rest = λ digit. omega (arith, digit.0)
newline_follows tighten rest = tt
newline_follows (solve budget) rest = λ digit. omega (arith, digit.0)

-- a text begins with one line at most
pub line_one : (bs : List ℕ) (l k : Line) (rest more : List ℕ) → BeginsWithLine bs l rest → BeginsWithLine bs k more → (l ≡ k) × (rest ≡ more)
line_one bs l k rest more b c =
    let one = first_one l k (newline ∷ rest) (newline ∷ more) b.1 c.1 (newline_follows l rest) (newline_follows k more) (sym b.0 ∙ c.0) in
    (one.0, ap (drop 1) one.1)

-- lengths

pub length_number : (n : ℕ) → n ≤ max_number → length (decimal n) ≤ 5
length_number n within = length-decimal-le 5 n (omega arith) (omega arith) (omega arith)

pub length_budget : (n : ℕ) → n ≤ max_budget → length (decimal n) ≤ 10
length_budget n within = length-decimal-le 10 n (omega arith) (omega arith) (omega arith)

pub length_million : (n : ℕ) → n < 10 ^ 6 → length (decimal n) ≤ 6
length_million n within = length-decimal-le 6 n (omega arith) (omega arith) (omega arith)

pub length_numbers : (n : ℕ) (ns : List ℕ) → length (numbers (n ∷ ns)) ≡ 1 + length (decimal n) + length (numbers ns)
length_numbers n ns = omega (arith, length-append (decimal n) (numbers ns))
