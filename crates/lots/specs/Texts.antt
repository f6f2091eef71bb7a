-- How the formats write numbers.
use Rattle.std.specs.Prelude.{ℕ, List, ◌++◌, codes, decimal}
use Rattle.std.specs.List.{flat_map}

-- the byte that parts two words
abbrev pub space : ℕ
space = 32

-- the byte of the digit 0
abbrev pub digit_zero : ℕ
digit_zero = 48

-- numbers in decimal form, each after a space
abbrev pub numbers : List ℕ → List ℕ
numbers ns = flat_map (λ n. codes " " ++ decimal n) ns
