-- What `parse` reads is what the specification calls a number.
use Rattle.std.proofs.Common.{◌≡◌, ℕ, ◌≢◌, true, List, get_or, Ok, Err, Result, rules}
use Rattle.std.specs.Result.{result_ok}
use Rattle.std.specs.Str.Parse.{ParsesUnsigned}
use Rattle.std.specs.Str.{all_ascii_digits}
use Rattle.std.proofs.lemmas.Str.Parse.{IsNumeralModel, numerals_by_fold, tells_all_ascii_digits, parse_plain}
use Rattle.lots.specs.Private.Reading.{Reads}
use Rattle.console.specs.Syntax.{NumberOf, number_after}

pub decimals : IsNumeralModel (λ ds. all_ascii_digits ds ≡ true) (number_after 0)
decimals = numerals_by_fold _ tells_all_ascii_digits number_after (search rules)

pub number_from_parse : {E : Type 0} (bits : ℕ) (w : List ℕ) (r : Result ℕ E) → get_or w 0 0 ≢ 43 → ParsesUnsigned bits 10 w r → Reads (NumberOf bits w) (result_ok r)
number_from_parse {E} bits w (Ok n) unsigned h = let is = parse_plain decimals {E = E} bits w (Ok n) h unsigned in search (rules, is)
number_from_parse {E} bits w (Err e) unsigned h = let not = parse_plain decimals {E = E} bits w (Err e) h unsigned in search (rules, not)
