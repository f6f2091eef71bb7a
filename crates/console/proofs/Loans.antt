-- What a loan of all items gives back to a vector.
use Rattle.std.proofs.Common.{◌≡◌, ℕ, List, ◌++◌, length, take, ◌∙◌, arith}
use Rattle.std.proofs.lemmas.List.{take_all, take-append-le}

pub given_back : {X : Type 0} (n : ℕ) (xs rest : List X) → length xs ≡ n → take n (xs ++ rest) ≡ xs
given_back n xs rest count = take-append-le n xs rest (omega (arith, count)) ∙ take_all n xs (omega (arith, count))
