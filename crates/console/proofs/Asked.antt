-- What the words of a line ask.
use Rattle.std.proofs.Common.{◌≡◌, ℕ, if◌then◌else◌, eqb, List, ◌∷◌, length, get_or, Ok, Err, Result, sym, refl, ap, ◌∙◌, subst}
use Rattle.lots.specs.Tables.{Table}
use Rattle.console.specs.Lines.{Name, overflow_call, rule_call, open_call, admit_call, narrow_call, tighten_call, solve_call, windows_call, word_of, Asks, Known}
use Rattle.console.specs.Private.Faults.{Makes, MakesNamed}
use Rattle.console.specs.declared.answers.Answer.{Answer}
use Rattle.console.specs.declared.answers.Fault.{Fault}
use Rattle.console.specs.declared.answers.Fault.TheVariants as fault

-- the name that a word is, by its first byte; of the two that begin with an `o`, overflow is the longer
abbrev name_by : ℕ → ℕ → Name
name_by b count =
    if eqb b 114 then rule_call
    else (if eqb b 97 then admit_call
    else (if eqb b 110 then narrow_call
    else (if eqb b 116 then tighten_call
    else (if eqb b 115 then solve_call
    else (if eqb b 119 then windows_call
    else (if eqb count 8 then overflow_call else open_call))))))

name_by_word : (n : Name) → name_by (get_or (word_of n) 0 0) (length (word_of n)) ≡ n
name_by_word overflow_call = refl
name_by_word rule_call = refl
name_by_word open_call = refl
name_by_word admit_call = refl
name_by_word narrow_call = refl
name_by_word tighten_call = refl
name_by_word solve_call = refl
name_by_word windows_call = refl

one_name : (n m : Name) → word_of n ≡ word_of m → n ≡ m
one_name n m same = sym (name_by_word n) ∙ ap (λ w. name_by (get_or w 0 0) (length w)) same ∙ name_by_word m

-- words that write no arguments of the call that they name write no call
unknown_arguments : (n : Name) (words : List (List ℕ)) → (Asks n words → ⊥) → Known (word_of n ∷ words) → ⊥
unknown_arguments n words none (m, named, asked) = none (subst (λ k. Asks k words) (sym (one_name n m named)) asked)

-- what came of the words after a name is what came of the whole line
named_line : (n : Name) (words : List (List ℕ)) (P Q : Table) (r : Result Answer Fault)
    → Makes n words P Q r → MakesNamed (word_of n ∷ words) P Q r
named_line n words P Q (Ok a) is = (n, refl, is)
named_line n words P Q (Err (fault.Refused refusal)) is = (n, refl, is)
named_line n words P Q (Err fault.Unknown) none = (unknown_arguments n words none.0, none.1)
named_line n words P Q (Err fault.Memory) same = same

-- the same, where the pieces ps of a line are the name and the words after it
pub makes_line : (n : Name) (ps words : List (List ℕ)) (P Q : Table) (r : Result Answer Fault)
    → ps ≡ word_of n ∷ words → Makes n words P Q r → MakesNamed ps P Q r
makes_line n ps words P Q r named is = rw named (named_line n words P Q r is)
