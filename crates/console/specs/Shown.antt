-- The line that is written for an answer.
use Rattle.std.specs.Prelude.{ℕ, List, ◌++◌, vec_items, codes, decimal}
use Rattle.std.specs.List.{flat_map}
use Rattle.lots.specs.Refusals.{refusal_number}
use Rattle.lots.specs.Texts.{numbers}
use Rattle.lots.specs.declared.Lot.{Lot}
use Rattle.rule.specs.Verdicts.{shown_verdict}
use Rattle.tree.specs.declared.Search.{Search}
use Rattle.tree.specs.declared.Search.TheVariants.{Best, None, Spent}
use Rattle.console.specs.declared.answers.Answer.{Answer}
use Rattle.console.specs.declared.answers.Answer.TheVariants.{Overflow, Applied, Done, Admitted, Tightened, Windows, Solved, Refused, Unknown}

-- a lot, as `est,lct,p,c`
abbrev pub shown_cell : Lot → List ℕ
shown_cell x =
    decimal x.est ++ (codes "," ++ (decimal x.lct ++ (codes "," ++ (decimal x.p ++ (codes "," ++ decimal x.c)))))

-- the cells, each after a space
abbrev pub shown_cells : List Lot → List ℕ
shown_cells T = flat_map (λ x. codes " " ++ shown_cell x) T

-- the answer of a search, and the starts of the best schedule
abbrev pub shown_search : Search → List ℕ → List ℕ
shown_search (Best end nodes) starts =
    codes "best " ++ (decimal end ++ (codes " " ++ (decimal nodes ++ numbers starts)))
shown_search (None nodes) starts = codes "none " ++ decimal nodes
shown_search (Spent nodes) starts = codes "spent " ++ decimal nodes

-- the line of an answer
abbrev pub shown_answer : Answer → List ℕ
shown_answer (Overflow left points) = decimal left ++ (codes " " ++ decimal points)
shown_answer (Applied verdict lots) = shown_verdict verdict ++ shown_cells (vec_items lots)
shown_answer Done = codes "ok"
shown_answer (Admitted number) = decimal number
shown_answer (Tightened verdict applications) = shown_verdict verdict ++ (codes " " ++ decimal applications)
shown_answer (Windows capacity lots) = decimal capacity ++ shown_cells (vec_items lots)
shown_answer (Solved search starts) = shown_search search (vec_items starts)
shown_answer (Refused refusal) = codes "refused " ++ decimal (refusal_number refusal)
shown_answer Unknown = codes "unknown"
