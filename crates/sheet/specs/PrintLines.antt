-- What is printed.
use Rattle.std.specs.Prelude.{ℕ, List, [], ◌∷◌, ◌++◌, length, take, codes}
use Rattle.lots.specs.Refusals.{refusal_number}
use Rattle.lots.specs.Texts.{numbers}
use Rattle.lots.specs.declared.Lot.{Lot}
use Rattle.lots.specs.declared.Refusal.{Refusal}
use Rattle.rule.specs.Verdicts.{shown_verdict}
use Rattle.rule.specs.declared.Verdict.{Verdict}
use Rattle.rule.specs.declared.Verdict.TheVariants.{Dead}
use Rattle.tree.specs.declared.Search.{Search}
use Rattle.tree.specs.declared.Search.TheVariants.{Best, None, Spent}
use Rattle.sheet.specs.Lines.{newline}

abbrev pub ended_line : List ℕ → List ℕ
ended_line bs = bs ++ newline ∷ []

-- a line of a word and some numbers
abbrev pub numbers_line : List ℕ → List ℕ → List ℕ
numbers_line word ns = ended_line (word ++ numbers ns)

-- a line of a word, some numbers and a name
abbrev pub named_line : List ℕ → List ℕ → List ℕ → List ℕ
named_line word ns w = ended_line (word ++ (numbers ns ++ (codes " " ++ w)))

abbrev pub narrow_print : List ℕ
narrow_print = ended_line (codes "H done")

-- a line for each lot: its window, and its name
abbrev pub window_lines : List (List ℕ) → List Lot → List ℕ
window_lines names [] = []
window_lines [] (x ∷ xs) = []
window_lines (w ∷ ws) (x ∷ xs) = named_line (codes "W") (x.est ∷ x.lct ∷ []) w ++ window_lines ws xs

-- the windows are not printed where the verdict is dead
abbrev pub windows_unless_dead : Verdict → List (List ℕ) → List Lot → List ℕ
windows_unless_dead Dead names T = []
windows_unless_dead v names T = window_lines names T

-- the verdict v after k applications, where T are the lots afterwards
abbrev pub tighten_print : Verdict → ℕ → List (List ℕ) → List Lot → List ℕ
tighten_print v k names T =
    numbers_line (codes "T " ++ shown_verdict v) (k ∷ []) ++ windows_unless_dead v names T

-- a line for each lot: its start, and its name
abbrev pub start_lines : List (List ℕ) → List ℕ → List ℕ
start_lines names [] = []
start_lines [] (s ∷ ss) = []
start_lines (w ∷ ws) (s ∷ ss) = named_line (codes "A") (s ∷ []) w ++ start_lines ws ss

-- the answer of a search, where the first places of ss hold the starts
abbrev pub solve_print : Search → List (List ℕ) → List ℕ → List ℕ
solve_print (Best e k) names ss =
    numbers_line (codes "S best") (e ∷ k ∷ []) ++ start_lines names (take (length names) ss)
solve_print (None k) names ss = numbers_line (codes "S none") (k ∷ [])
solve_print (Spent k) names ss = numbers_line (codes "S spent") (k ∷ [])

-- a refusal at the line with the number k
abbrev pub refusal_print : Refusal → ℕ → List ℕ
refusal_print e k = numbers_line (codes "R") (refusal_number e ∷ k ∷ [])
