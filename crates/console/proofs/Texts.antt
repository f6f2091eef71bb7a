-- A line that writes a call is ASCII, and so it is text.
use Rattle.std.proofs.Common.{ℕ, ◌<◌, List, [], ◌∷◌, codes, IsUtf8, IsAscii, subst, arith, rules}
use Rattle.std.specs.List.{AllByRecursion, AllZip, join_with_byte}
use Rattle.std.proofs.ByRecursion.{IsAscii-from_all}
use Rattle.std.proofs.lemmas.Fmt.{IsAscii-from_digits}
use Rattle.std.proofs.lemmas.List.Splits.{join_with_byte-slice_split}
use Rattle.std.proofs.lemmas.Str.{IsAscii-append, IsUtf8-from_ascii}
use Rattle.std.proofs.lemmas.Str.Ascii.{IsAscii-nil, IsAscii-cons}
use Rattle.lots.specs.Texts.{space}
use Rattle.lots.specs.declared.Lot.{Lot}
use Rattle.console.specs.Lines.{Name, overflow_call, rule_call, open_call, admit_call, narrow_call, tighten_call, solve_call, windows_call, word_of, TableForm, RuleForm, NumbersForm, SolveForm, Asks, Known}
use Rattle.console.specs.Piles.{pile_word, Names}
use Rattle.console.specs.declared.piles.Pile.{Pile, Idle, Overload, TimeTable, NotFirst, House, Turned', Both'}
use Rattle.console.specs.Syntax.{Number, NumberOf, Cell, pieces, comma}
use Rattle.console.proofs.Numerals.{decimals}

joined_ascii : (c : ℕ) → c < 128 → (ws : List (List ℕ)) → AllByRecursion IsAscii ws → IsAscii (join_with_byte c ws)
joined_ascii c ascii [] h = IsAscii-nil
joined_ascii c ascii (w ∷ []) h = h.0
joined_ascii c ascii (w ∷ v ∷ ws) h = IsAscii-append w _ h.0 (IsAscii-cons c _ ascii (joined_ascii c ascii (v ∷ ws) h.1))

ascii_from_pieces : (c : ℕ) (bs : List ℕ) → c < 128 → AllByRecursion IsAscii (pieces c bs) → IsAscii bs
ascii_from_pieces c bs ascii h = subst IsAscii (join_with_byte-slice_split c bs) (joined_ascii c ascii (pieces c bs) h)

ascii_from_each : {Y : Type 0} (R : List ℕ → Y → Type 0) → ((w : List ℕ) (y : Y) → R w y → IsAscii w) → (ws : List (List ℕ)) (ys : List Y) → AllZip R ws ys → AllByRecursion IsAscii ws
ascii_from_each R ascii [] [] h = tt
ascii_from_each R ascii [] (y ∷ ys) h = absurd h
ascii_from_each R ascii (w ∷ ws) [] h = absurd h
ascii_from_each R ascii (w ∷ ws) (y ∷ ys) h = (ascii w y h.0, ascii_from_each R ascii ws ys h.1)

number_ascii : {bits : ℕ} (w : List ℕ) (n : ℕ) → NumberOf bits w n → IsAscii w
number_ascii w n is = IsAscii-from_digits w (decimals.to w is.digits_only)

cell_ascii : (w : List ℕ) (x : Lot) → Cell w x → IsAscii w
cell_ascii w x is = ascii_from_pieces comma w (omega arith) (ascii_from_each Number number_ascii (pieces comma w) _ is)

pile_ascii : (p : Pile) → IsAscii (pile_word p)
pile_ascii Idle = IsAscii-from_all (codes "idle") (search rules)
pile_ascii Overload = IsAscii-from_all (codes "overload") (search rules)
pile_ascii TimeTable = IsAscii-from_all (codes "timetable") (search rules)
pile_ascii NotFirst = IsAscii-from_all (codes "notfirst") (search rules)
pile_ascii House = IsAscii-from_all (codes "house") (search rules)
pile_ascii (Turned' a p) =
    let after = IsAscii-append (pile_word p) (codes ")") (pile_ascii p) (IsAscii-from_all (codes ")") (search rules)) in
    IsAscii-append (codes "turned(") _ (IsAscii-from_all (codes "turned(") (search rules)) after
pile_ascii (Both' a p b q) =
    let after = IsAscii-append (pile_word q) (codes ")") (pile_ascii q) (IsAscii-from_all (codes ")") (search rules)) in
    let second = IsAscii-append (codes ",") _ (IsAscii-from_all (codes ",") (search rules)) after in
    IsAscii-append (codes "both(") _ (IsAscii-from_all (codes "both(") (search rules)) (IsAscii-append (pile_word p) _ (pile_ascii p) second)

table_ascii : (words : List (List ℕ)) (C : ℕ) (T : List Lot) → TableForm words C T → AllByRecursion IsAscii words
table_ascii [] C T is = tt
table_ascii (word ∷ words) C T is = (number_ascii word C is.0, ascii_from_each Cell cell_ascii words T is.1)

named_ascii : (w : List ℕ) (p : Pile) → Names w p → IsAscii w
named_ascii w p is = rw is.0 (pile_ascii p)

rule_ascii : (words : List (List ℕ)) (p : Pile) (C : ℕ) (T : List Lot) → RuleForm words p C T → AllByRecursion IsAscii words
rule_ascii [] p C T is = tt
rule_ascii (word ∷ words) p C T is = (named_ascii word p is.0, table_ascii words C T is.1)

solve_ascii : (words : List (List ℕ)) (p : Pile) (budget cells places : ℕ) → SolveForm words p budget cells places → AllByRecursion IsAscii words
solve_ascii [] p budget cells places is = tt
solve_ascii (pile ∷ []) p budget cells places is = (named_ascii pile p is.0, tt)
solve_ascii (pile ∷ number ∷ words) p budget cells places is =
    (named_ascii pile p is.0, (number_ascii number budget is.1, ascii_from_each Number number_ascii words _ is.2))

name_ascii : (n : Name) → IsAscii (word_of n)
name_ascii overflow_call = IsAscii-from_all (codes "overflow") (search rules)
name_ascii rule_call = IsAscii-from_all (codes "rule") (search rules)
name_ascii open_call = IsAscii-from_all (codes "open") (search rules)
name_ascii admit_call = IsAscii-from_all (codes "admit") (search rules)
name_ascii narrow_call = IsAscii-from_all (codes "narrow") (search rules)
name_ascii tighten_call = IsAscii-from_all (codes "tighten") (search rules)
name_ascii solve_call = IsAscii-from_all (word_of solve_call) (search rules)
name_ascii windows_call = IsAscii-from_all (codes "windows") (search rules)

numbers_ascii : (words : List (List ℕ)) (ns : List ℕ) → NumbersForm words ns → AllByRecursion IsAscii words
numbers_ascii words ns is = ascii_from_each Number number_ascii words ns is

asked_ascii : (n : Name) (words : List (List ℕ)) → Asks n words → AllByRecursion IsAscii words
asked_ascii overflow_call words (C, T, is) = table_ascii words C T is
asked_ascii rule_call words (p, C, T, is) = rule_ascii words p C T is
asked_ascii open_call words (C, is) = numbers_ascii words _ is
asked_ascii admit_call words (x, is) = numbers_ascii words _ is
asked_ascii narrow_call words (i, a, b, is) = numbers_ascii words _ is
asked_ascii tighten_call words (p, is) = ascii_from_each Names named_ascii words (p ∷ []) is
asked_ascii solve_call words is = solve_ascii words is.0 is.1 is.2 is.3 is.4
asked_ascii windows_call words is = rw is tt

known_ascii : (words : List (List ℕ)) → Known words → AllByRecursion IsAscii words
known_ascii [] known = tt
known_ascii (word ∷ words) (n, named, asked) = (rw named (name_ascii n), asked_ascii n words asked)

pub text_from_known : (line : List ℕ) → Known (pieces space line) → IsUtf8 line
text_from_known line known = IsUtf8-from_ascii line (ascii_from_pieces space line (omega arith) (known_ascii (pieces space line) known))
