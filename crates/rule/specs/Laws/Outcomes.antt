-- What holds of an outcome, made weaker, or of one of two.
use Rattle.std.specs.Prelude.{◌≡◌, Bool, true, false, if◌then◌else◌, List, refl}
use Rattle.lots.specs.declared.Lot.{Lot}
use Rattle.rule.specs.Meanings.{Outcome, dead, to, Gives, Dies}

pub gives_weaker : (o : Outcome) (P Q : List Lot → Type 0) → ((U : List Lot) → P U → Q U) → Gives o P →
    Gives o Q
gives_weaker dead P Q f h = tt
gives_weaker (to U) P Q f h = f U h

pub dies_weaker : (o : Outcome) (P Q : Type 0) → (P → Q) → Dies o P → Dies o Q
dies_weaker dead P Q f h = f h
dies_weaker (to U) P Q f h = tt

-- where b says whether the table is dead, what holds both ways holds of the choice
pub gives_either : (o : Outcome) (P : List Lot → Type 0) (b : Bool) → Gives o P →
    Gives (if b then dead else o) P
gives_either o P true h = tt
gives_either o P false h = h

pub dies_either : (o : Outcome) (P : Type 0) (b : Bool) → (b ≡ true → P) → Dies o P →
    Dies (if b then dead else o) P
dies_either o P true d h = d refl
dies_either o P false d h = h
