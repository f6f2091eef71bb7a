-- What a text begins with.
use Rattle.std.specs.Prelude.{◌≡◌, ◌≢◌, ℕ, ◌≤◌, List, ◌++◌}
use Rattle.console.specs.declared.piles.Pile.{Pile}
use Rattle.console.specs.Piles.{pile_word, levels}

-- the text does not begin with the word
abbrev pub Lacks : List ℕ → List ℕ → Type 0
Lacks text w = (x : List ℕ) → text ≢ w ++ x

-- the text begins with the word of a pile of at most so many levels, and goes on with the rest
abbrev pub BeginsWithPile : List ℕ → ℕ → Pile → List ℕ → Type 0
BeginsWithPile text most p rest = (text ≡ pile_word p ++ rest) × (levels p ≤ most)

-- the text begins with the word of no pile of at most so many levels
abbrev pub LacksPile : List ℕ → ℕ → Type 0
LacksPile text most = (p : Pile) (x : List ℕ) → BeginsWithPile text most p x → ⊥
