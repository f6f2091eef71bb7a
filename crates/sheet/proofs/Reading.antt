-- What a token takes of a sheet, over plain values.
use Rattle.std.proofs.Common.{◌≡◌, ℕ, zero, suc, ◌+◌, ◌<◌, ◌≤◌, List, [], ◌∷◌, ◌++◌, length, get_or, take, drop, Some, None, Option, Bor, MatchOption, sym, ap, ap₂, subst, refl, ◌∙◌, append_assoc, append-nil, drop-cons, length-drop, add-one, arith}
use Rattle.std.specs.Char.{IsAsciiDigit}
use Rattle.std.specs.Fmt.{decimal}
use Rattle.std.specs.List.{AllByRecursion}
use Rattle.std.proofs.lemmas.Fmt.{digits_decimal}
use Rattle.std.proofs.lemmas.List.{take-append-drop, drop-drop}
use Rattle.lots.specs.Texts.{numbers, space}
use Rattle.lots.specs.Private.Reading.{Reads}
use Rattle.sheet.specs.Lines.{Printable, max_number}
use Rattle.sheet.specs.Private.Words.{Word, CommandAt, NumberAt, NameAt, end_of, Letter, Numeral, Called, Stops, StopsAfterNumbers, Takes, BeginsWithNumber, BeginsWithNumbers, BeginsWithName}
use Rattle.sheet.specs.declared.token.Token.{Token}
use Rattle.sheet.specs.declared.token.Token.TheVariants.{Name, Number, Command}
use Rattle.sheet.proofs.Numerals.{digits}
use Rattle.sheet.proofs.Lines.{stretch_one, number_one, numbers_stop}

pub at_end : (at : ℕ) (sheet : List ℕ) → at ≤ length sheet → drop at sheet ≡ [] → at ≡ length sheet
at_end at sheet within none = omega (arith, length-drop at sheet, ap length none)

-- the first n bytes are of the kind, and the next is not
stretch_cut : (P : ℕ → Type 0) (bs : List ℕ) (n : ℕ) → n ≤ length bs → ((k : ℕ) → k < n → P (get_or bs k 0)) → (n < length bs → P (get_or bs n 0) → ⊥) → AllByRecursion P (take n bs) × Stops P (drop n bs)
stretch_cut P [] n within each stops = let none : n ≡ 0 = omega arith in rw none (tt, tt)
stretch_cut P (b ∷ bs) zero within each stops = (tt, stops (omega arith))
stretch_cut P (b ∷ bs) (suc n) within each stops =
    let cut = stretch_cut P bs n (omega arith) (λ k below. each (suc k) (omega arith)) (λ below. stops (omega arith)) in
    ((each 0 (omega arith), cut.0), cut.1)

-- what follows the space is the word, and what comes after it
pub word_cut : (P : ℕ → Type 0) (sheet : List ℕ) (at : ℕ) (w : List ℕ) (p : ℕ) → Word P sheet at w p
    → (drop at sheet ≡ space ∷ (w ++ drop (p + length w) sheet)) × AllByRecursion P w × Stops P (drop (p + length w) sheet)
word_cut P sheet at w p word =
    let rest = drop p sheet in
    let cut = stretch_cut P rest (length w) (omega (arith, length-drop p sheet, word.within)) word.whole.each word.whole.stops in
    let within : at < length sheet = omega (arith, word.next, word.within) in
    let first : drop at sheet ≡ space ∷ rest = drop-cons sheet at 0 within ∙ rw (word.spaced, word.next, add-one) refl in
    let parts : rest ≡ w ++ drop (p + length w) sheet = sym (take-append-drop (length w) rest) ∙ ap₂ (λ x y. x ++ y) (sym word.part) (drop-drop (length w) p sheet) in
    (first ∙ ap (λ bs. space ∷ bs) parts, subst (AllByRecursion P) (sym word.part) cut.0, subst (Stops P) (drop-drop (length w) p sheet) cut.1)

pub letter_taken : (sheet : List ℕ) (at : ℕ) (t : Token) (r : Option ℕ) → CommandAt sheet at t → Reads (Letter t) r → MatchOption r (drop at sheet ≡ []) (λ c. drop at sheet ≡ c ∷ drop (end_of t) sheet)
letter_taken sheet at (Name w p) r stands reads = absurd stands
letter_taken sheet at (Number w p) r stands reads = absurd stands
letter_taken sheet at (Command b p) None stands reads = absurd (reads b.now refl)
letter_taken sheet at (Command b p) (Some c) stands reads = rw (← stands.0, ← reads, stands.2, add-one) (drop-cons sheet p 0 stands.1)

-- a number that the bytes begin with, without the list of one number
pub number_first : (bs : List ℕ) (n : ℕ) (rest : List ℕ) → bs ≡ numbers (n ∷ []) ++ rest → bs ≡ space ∷ (decimal n ++ rest)
number_first bs n rest is = is ∙ ap (λ ds. space ∷ (ds ++ rest)) (append-nil (decimal n))

pub number_taken : (sheet : List ℕ) (at : ℕ) (t : Token) (r : Option ℕ) → NumberAt sheet at t → Reads (Numeral t) r → Takes (λ n. n) (BeginsWithNumber (drop at sheet)) r (drop (end_of t) sheet)
number_taken sheet at (Name w p) r stands reads = absurd stands
number_taken sheet at (Command c p) r stands reads = absurd stands
number_taken sheet at (Number w p) None stands reads = λ n more begins.
    let cut = word_cut IsAsciiDigit sheet at w.now p stands in
    let same = ap (drop 1) (sym cut.0 ∙ number_first (drop at sheet) n more begins.0) in
    let one = stretch_one IsAsciiDigit w.now (decimal n) (drop (p + length w.now) sheet) more cut.1 (digits_decimal digits n (omega arith)) cut.2 begins.2 same in
    reads n (one.0, begins.1)
number_taken sheet at (Number w p) (Some n) stands reads =
    let cut = word_cut IsAsciiDigit sheet at w.now p stands in
    (cut.0 ∙ ap (λ ds. space ∷ (ds ++ drop (p + length w.now) sheet)) (reads.0 ∙ sym (append-nil (decimal n))), reads.1, cut.2)

pub name_taken : (sheet : List ℕ) (at : ℕ) (t : Token) (r : Option (Bor (List ℕ))) → NameAt sheet at t → Reads (Called t) r → Takes (λ w. w.now) (BeginsWithName (drop at sheet)) r (drop (end_of t) sheet)
name_taken sheet at (Number w p) r stands reads = absurd stands
name_taken sheet at (Command c p) r stands reads = absurd stands
name_taken sheet at (Name w p) None stands reads = λ v more begins.
    let cut = word_cut Printable sheet at w.now p stands in
    let same = ap (drop 1) (sym cut.0 ∙ begins.0) in
    let one = stretch_one Printable w.now v (drop (p + length w.now) sheet) more cut.1 begins.1.2 cut.2 begins.2 same in
    reads w (refl, rw one.0 begins.1.0, rw one.0 begins.1.1)
name_taken sheet at (Name w p) (Some v) stands reads =
    let cut = word_cut Printable sheet at w.now p stands in
    (cut.0 ∙ ap (λ ds. space ∷ (ds ++ drop (p + length w.now) sheet)) reads.0, (reads.1, reads.2, subst (AllByRecursion Printable) reads.0 cut.1), cut.2)

-- numbers one after another

-- after numbers with no digit after them
pub stops_after_numbers : (ns rest : List ℕ) → Stops IsAsciiDigit rest → StopsAfterNumbers ns rest
stops_after_numbers [] rest stops = tt
stops_after_numbers (n ∷ ns) rest stops = stops

pub numbers_cut : (n : ℕ) (ns rest : List ℕ) → numbers (n ∷ ns) ++ rest ≡ space ∷ (decimal n ++ (numbers ns ++ rest))
numbers_cut n ns rest = ap (λ bs. space ∷ bs) (append_assoc (decimal n) (numbers ns) rest)

-- where no number comes after the numbers ns, no more numbers than these come
pub no_more_numbers : (ns bs mid : List ℕ) (read count : ℕ) → BeginsWithNumbers read bs ns mid → ((n : ℕ) (rest : List ℕ) → n ≤ max_number → BeginsWithNumber mid n rest → ⊥) → read < count
    → (ks rest : List ℕ) → BeginsWithNumbers count bs ks rest → ⊥
no_more_numbers ns bs mid read count begun none less [] rest begins = absurd (omega (arith, begins.1))
no_more_numbers [] bs mid read count begun none less (k ∷ ks) rest begins =
    none k (numbers ks ++ rest) begins.2.0 (sym begun.0 ∙ begins.0 ∙ numbers_cut k ks rest ∙ sym (numbers_cut k [] (numbers ks ++ rest)), omega arith, numbers_stop ks rest begins.3)
no_more_numbers (n ∷ ns) bs mid read count begun none less (k ∷ ks) rest begins =
    let same = ap (drop 1) (sym (numbers_cut n ns mid) ∙ sym begun.0 ∙ begins.0 ∙ numbers_cut k ks rest) in
    let one = number_one n k (numbers ns ++ mid) (numbers ks ++ rest) (omega (arith, begun.2.0)) (omega (arith, begins.2.0)) (numbers_stop ns mid begun.3) (numbers_stop ks rest begins.3) same in
    no_more_numbers ns (numbers ns ++ mid) mid (length ns) (length ks) (refl, refl, begun.2.1, stops_after_numbers ns mid begun.3) none (omega (arith, begun.1, begins.1)) ks rest (one.1, refl, begins.2.1, stops_after_numbers ks rest begins.3)

-- a number that is too great is no number of 16 bits
pub too_great : (mid : List ℕ) (n : ℕ) (rest : List ℕ) → BeginsWithNumber mid n rest → max_number < n → (k : ℕ) (more : List ℕ) → k ≤ max_number → BeginsWithNumber mid k more → ⊥
too_great mid n rest begins great k more small other =
    let same = ap (drop 1) (sym (number_first mid n rest begins.0) ∙ number_first mid k more other.0) in
    omega (arith, number_one n k rest more (omega arith) (omega arith) begins.2 other.2 same)
