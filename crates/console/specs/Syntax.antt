-- How a line writes words, numbers and cells.
use Rattle.std.specs.Prelude.{◌≡◌, ℕ, ◌+◌, ◌-◌, ◌*◌, ◌^◌, ◌<◌, true, List, [], ◌∷◌, length, ◌==◌}
use Rattle.std.specs.List.{AllZip, slice_split}
use Rattle.std.specs.Str.{all_ascii_digits}
use Rattle.lots.specs.Texts.{digit_zero}
use Rattle.lots.specs.declared.Lot.{Lot}

-- the byte that parts the numbers of a cell
abbrev pub comma : ℕ
comma = 44

-- what stands between the bytes c: one piece more than there are of c, and a piece may be empty
abbrev pub pieces : ℕ → List ℕ → List (List ℕ)
pieces c bs = slice_split (λ b. b == c) bs

-- the number that decimal digits write, where those before them write n
abbrev pub number_after : ℕ → List ℕ → ℕ
number_after n [] = n
number_after n (d ∷ ds) = number_after (10 * n + (d - digit_zero)) ds

-- the word writes the number n: it has decimal digits alone, at least one, and n fits so many bits
pub record NumberOf (bits : ℕ) (w : List ℕ) (n : ℕ) : Type 0 where
  pub some_digit : 0 < length w
  pub digits_only : all_ascii_digits w ≡ true
  pub fits : n < 2 ^ bits
  pub value : n ≡ number_after 0 w

-- a number of a line has 16 bits
abbrev pub Number : List ℕ → ℕ → Type 0
Number = NumberOf 16

-- a budget has 32 bits
abbrev pub Budget : List ℕ → ℕ → Type 0
Budget = NumberOf 32

-- the four numbers of a lot
abbrev pub lot_numbers : Lot → List ℕ
lot_numbers x = x.est ∷ x.lct ∷ x.p ∷ x.c ∷ []

-- the word writes a lot: `est,lct,p,c`
abbrev pub Cell : List ℕ → Lot → Type 0
Cell w x = AllZip Number (pieces comma w) (lot_numbers x)
