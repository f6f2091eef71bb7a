-- What lines ask, and what is answered to them.
use Rattle.std.specs.Prelude.{◌≡◌, ℕ, ◌⊎◌, List, [], ◌∷◌, length, take, drop, replicate, Some, None, Ok, Err, vec_items, codes, Option, Result, slice_index, slice_index_or}
use Rattle.std.specs.Global.{Vec}
use Rattle.std.specs.List.{AllZip}
use Rattle.lots.specs.declared.Lot.{Lot}
use Rattle.lots.specs.declared.Refusal.{Refusal}
use Rattle.elastic.specs.Overflow.{OverflowAnswered}
use Rattle.rule.specs.Meanings.{Applied}
use Rattle.rule.specs.declared.Verdict.{Verdict}
use Rattle.lots.specs.Tables.{blank, Table}
use Rattle.lots.specs.Texts.{space}
use Rattle.tree.specs.Answer.{Solved}
use Rattle.tree.specs.declared.Search.{Search}
use Rattle.plan.specs.Calls.{Opened, Admitted, Narrowed, Tightened}
use Rattle.console.specs.Piles.{pile_meaning, Names}
use Rattle.console.specs.declared.piles.Pile.{Pile}
use Rattle.console.specs.declared.answers.Answer.{Answer}
use Rattle.console.specs.declared.answers.Answer.TheVariants as answer
use Rattle.console.specs.Syntax.{Number, Budget, Cell, lot_numbers, pieces}

-- the calls, by name
pub data Name : Type 0 where
  overflow_call : Name
  rule_call : Name
  open_call : Name
  admit_call : Name
  narrow_call : Name
  tighten_call : Name
  solve_call : Name
  windows_call : Name

-- the first word of a line that makes the call
abbrev pub word_of : Name → List ℕ
word_of overflow_call = codes "overflow"
word_of rule_call = codes "rule"
word_of open_call = codes "open"
word_of admit_call = codes "admit"
word_of narrow_call = codes "narrow"
word_of tighten_call = codes "tighten"
word_of solve_call = codes "solve"
word_of windows_call = codes "windows"

-- the words write the table of the capacity C and the lots T: `C CELL..`
abbrev pub TableForm : List (List ℕ) → ℕ → List Lot → Type 0
TableForm words C T = Number (slice_index_or words 0 []) C × AllZip Cell (drop 1 words) T

-- `PILE C CELL..`
abbrev pub RuleForm : List (List ℕ) → Pile → ℕ → List Lot → Type 0
RuleForm words p C T = Names (slice_index_or words 0 []) p × TableForm (drop 1 words) C T

-- the words are just these numbers
abbrev pub NumbersForm : List (List ℕ) → List ℕ → Type 0
NumbersForm words ns = AllZip Number words ns

-- `PILE BUDGET TRAIL STARTS`
abbrev pub SolveForm : List (List ℕ) → Pile → ℕ → ℕ → ℕ → Type 0
SolveForm words p budget cells places =
    Names (slice_index_or words 0 []) p
    × Budget (slice_index_or words 1 []) budget
    × NumbersForm (drop 2 words) (cells ∷ places ∷ [])

-- the words after the name write some arguments of the call
abbrev pub Asks : Name → List (List ℕ) → Type 0
Asks overflow_call words = (C : ℕ) × (T : List Lot) × TableForm words C T
Asks rule_call words = (p : Pile) × (C : ℕ) × (T : List Lot) × RuleForm words p C T
Asks open_call words = (C : ℕ) × NumbersForm words (C ∷ [])
Asks admit_call words = (x : Lot) × NumbersForm words (lot_numbers x)
Asks narrow_call words = (i from to : ℕ) × NumbersForm words (i ∷ from ∷ to ∷ [])
Asks tighten_call words = (p : Pile) × AllZip Names words (p ∷ [])
Asks solve_call words =
    (p : Pile) × (budget cells places : ℕ) × SolveForm words p budget cells places
Asks windows_call words = words ≡ []

-- the words write a call that the program knows
abbrev pub Known : List (List ℕ) → Type 0
Known words = (n : Name) × (slice_index_or words 0 [] ≡ word_of n) × Asks n (drop 1 words)

-- the answer that tells a result: what f makes of its value, or the refusal
abbrev pub answer_telling : {X : Type 0} → (X → Answer) → Result X Refusal → Answer
answer_telling f (Ok x) = f x
answer_telling f (Err refusal) = answer.Refused refusal

-- the answer tells a result that is right for the call, by f
abbrev pub Tells : {X : Type 0} → (Result X Refusal → Type 0) → (X → Answer) → Answer → Type 0
Tells {X} Right f a = (r : Result X Refusal) × Right r × (a ≡ answer_telling f r)

-- the answer tells the result of a search of n lots, where us is what the place for starts holds
abbrev pub TellsSearch : ℕ → List ℕ → Result Search Refusal → Answer → Type 0
TellsSearch n us (Ok search) a =
    (starts : Vec ℕ) × (vec_items starts ≡ take n us) × (a ≡ answer.Solved search starts)
TellsSearch n us (Err refusal) a = a ≡ answer.Refused refusal

-- what is answered to a call, where the words after its name write the arguments, and the plan holds P
-- before and Q after
abbrev pub Answers : Name → List (List ℕ) → Table → Table → Answer → Type 0
Answers overflow_call words P Q a =
    (C : ℕ) × (T : List Lot) × TableForm words C T
    × (Q ≡ P) × Tells (OverflowAnswered C T) (λ n. answer.Overflow n.0 n.1) a
Answers rule_call words P Q a =
    (p : Pile) × (C : ℕ) × (T : List Lot) × RuleForm words p C T
    × (lots : Vec Lot) × (Q ≡ P)
    × Tells (Applied (pile_meaning p) C T (vec_items lots)) (λ v. answer.Applied v lots) a
Answers open_call words P Q a =
    (C : ℕ) × NumbersForm words (C ∷ []) × Tells (Opened C P Q) (λ _. answer.Done) a
Answers admit_call words P Q a =
    (x : Lot) × NumbersForm words (lot_numbers x)
    × Tells (Admitted x P Q) (λ n. answer.Admitted n) a
Answers narrow_call words P Q a =
    (i from to : ℕ) × NumbersForm words (i ∷ from ∷ to ∷ [])
    × Tells (Narrowed i from to P Q) (λ _. answer.Done) a
Answers tighten_call words P Q a =
    (p : Pile) × AllZip Names words (p ∷ [])
    × (v : Verdict) × (k : ℕ) × Tightened (pile_meaning p) P Q v k × (a ≡ answer.Tightened v k)
Answers solve_call words P Q a =
    (p : Pile) × (budget cells places : ℕ) × SolveForm words p budget cells places
    × (ds : List Lot) × (us : List ℕ) × (r : Result Search Refusal)
    × Solved (pile_meaning p) P.capacity P.lots budget
    (replicate cells blank) ds (replicate places 0) us r
    × (Q ≡ P) × TellsSearch (length P.lots) us r a
Answers windows_call words P Q a =
    (words ≡ [])
    × (lots : Vec Lot) × (vec_items lots ≡ P.lots) × (Q ≡ P) × (a ≡ answer.Windows P.capacity lots)

-- what is answered to the words of a line that write a call
abbrev pub Made : List (List ℕ) → Table → Table → Answer → Type 0
Made words P Q a =
    (n : Name) × (slice_index_or words 0 [] ≡ word_of n) × Answers n (drop 1 words) P Q a

-- the byte `#`
abbrev pub hash : ℕ
hash = 35

-- the line is passed over: it is empty, or begins with `#`
abbrev pub PassedOver : List ℕ → Type 0
PassedOver line = (length line ≡ 0) ⊎ (slice_index line 0 ≡ hash)

-- what is answered to the line, whose words are parted by single spaces, where the plan holds P before
-- and Q after
abbrev pub Answered : List ℕ → Table → Table → Option Answer → Type 0
Answered line P Q None = PassedOver line × (Q ≡ P)
Answered line P Q (Some a) =
    (PassedOver line → ⊥)
    × (Made (pieces space line) P Q a
    ⊎ ((Known (pieces space line) → ⊥) × (Q ≡ P) × (a ≡ answer.Unknown)))
