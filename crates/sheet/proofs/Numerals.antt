-- What decimal form is, and that `parse` reads it.
use Rattle.std.proofs.Common.{◌≡◌, ℕ, zero, suc, ◌^◌, ◌<◌, ◌≤◌, List, [], ◌∷◌, length, get_or, Ok, Err, Result, IsUtf8, sym, ap, subst, inl, inr, ◌≢◌, arith, rules}
use Rattle.std.specs.Char.{IsAsciiDigit}
use Rattle.std.specs.Fmt.{decimal}
use Rattle.std.specs.List.{AllByRecursion}
use Rattle.std.specs.Result.{result_ok}
use Rattle.std.specs.Str.Parse.{digits_value, ParsesUnsigned}
use Rattle.std.proofs.lemmas.Fmt.{digits_decimal, digits_value-decimal, decimal-digits_value, decimal_digit, decimal_nonempty, first_decimal, IsAscii-decimal}
use Rattle.std.proofs.lemmas.Str.{IsUtf8-from_ascii}
use Rattle.std.proofs.lemmas.Str.Parse.{IsNumeralModel, numerals_by_value, parse_plain}
use Rattle.lots.specs.Private.Reading.{Reads}
use Rattle.sheet.specs.Lines.{max_budget}
use Rattle.sheet.specs.Private.Words.{BeginsNumeral}

pub digits : IsNumeralModel (AllByRecursion IsAsciiDigit) (digits_value 10)
digits = numerals_by_value _ (search rules)

first_digit : (ds : List ℕ) → 0 < length ds → AllByRecursion IsAsciiDigit ds → IsAsciiDigit (get_or ds 0 0)
first_digit [] some all = absurd (omega arith)
first_digit (d ∷ ds) some all = all.0

pub begins_decimal : (n : ℕ) → n < 2 ^ 64 → BeginsNumeral (decimal n)
begins_decimal zero small = inl (decimal_digit 0 (omega arith))
begins_decimal (suc n) small =
    let first = first_digit (decimal (suc n)) (decimal_nonempty (suc n) small) (digits_decimal digits (suc n) small) in
    let high : 48 < get_or (decimal (suc n)) 0 0 = first_decimal (suc n) (omega arith) small in
    inr (omega arith, first.1)

pub no_numeral : (bs : List ℕ) → (BeginsNumeral bs → ⊥) → (n : ℕ) → (bs ≡ decimal n) × (n ≤ max_budget) → ⊥
no_numeral bs not n is = not (subst BeginsNumeral (sym is.0) (begins_decimal n (omega arith)))

pub no_text : (bs : List ℕ) → (IsUtf8 bs → ⊥) → (n : ℕ) → (bs ≡ decimal n) × (n ≤ max_budget) → ⊥
no_text bs not n is = not (subst IsUtf8 (sym is.0) (IsUtf8-from_ascii (decimal n) (IsAscii-decimal n (omega arith))))

-- where the digit 0 begins, it is alone
pub zero_alone : (bs : List ℕ) → BeginsNumeral bs → get_or bs 0 0 ≡ 48 → length bs ≡ 1
zero_alone bs (inl is) first = ap length is
zero_alone bs (inr high) first = absurd (omega arith)

no_sign : (bs : List ℕ) → BeginsNumeral bs → get_or bs 0 0 ≢ 43
no_sign bs (inl is) sign = absurd (omega (arith, rw is at sign))
no_sign bs (inr first) sign = absurd (omega arith)

pub numeral_from_parse : {E : Type 0} (bs : List ℕ) (r : Result ℕ E) → BeginsNumeral bs → ParsesUnsigned 32 10 bs r → Reads (λ n. (bs ≡ decimal n) × (n ≤ max_budget)) (result_ok r)
numeral_from_parse {E} bs (Ok n) begins parsed =
    let is = parse_plain digits {E = E} 32 bs (Ok n) parsed (no_sign bs begins) in
    let writes = decimal-digits_value digits bs is.0.0 is.0.1 (zero_alone bs begins) (omega arith) in
    rw is.1 (sym writes, omega arith)
numeral_from_parse {E} bs (Err e) begins parsed = λ n is.
    let not = parse_plain digits {E = E} 32 bs (Err e) parsed (no_sign bs begins) in
    let small : n < 2 ^ 64 = omega arith in
    let value = digits_value-decimal digits n small in
    not (rw is.0 (digits_decimal digits n small, decimal_nonempty n small, omega arith))
