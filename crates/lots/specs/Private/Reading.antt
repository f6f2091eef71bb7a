-- What reading answers: a value, or that there is none to read.
use Rattle.std.specs.Prelude.{Option, MatchOption}

-- the option holds what R holds of, and is empty where R holds of nothing
abbrev pub Reads : {X : Type 0} → (X → Type 0) → Option X → Type 0
Reads {X} R r = MatchOption r ((x : X) → R x → ⊥) R
