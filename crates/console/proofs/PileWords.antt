-- Texts that begin with the word of a pile.
use Rattle.std.proofs.Common.{◌≡◌, ℕ, ◌+◌, ◌-◌, ◌*◌, ◌≤◌, ◌<◌, List, [], ◌++◌, drop, get_or, codes, Some, None, Option, Ok, Err, Result, MatchOption, MatchResult, ◌≢◌, sym, ap, ◌∙◌, subst, arith}
use Rattle.std.proofs.lemmas.List.{append-nil, append_assoc, append_cancel_left}
use Rattle.std.specs.Option.{ok_or}
use Rattle.std.specs.Str.Pattern.{FindsTextPrefix, StripsPrefix}
use Rattle.std.specs.Result.{IsErrAnd}
use Rattle.console.specs.Private.Faults.{Unread}
use Rattle.console.specs.Piles.{pile_word, levels, max_levels, Names}
use Rattle.console.specs.Private.Front.{Lacks, BeginsWithPile, LacksPile}
use Rattle.console.specs.declared.answers.Fault.{Fault}
use Rattle.console.specs.declared.answers.Fault.TheVariants as fault
use Rattle.console.specs.declared.piles.Pile.{Pile, Idle, Overload, TimeTable, NotFirst, House, Turned', Both'}

-- a text of which `strip_prefix` cuts off the word w
pub stripped : (w text rest : List ℕ) → StripsPrefix (FindsTextPrefix w) text rest → text ≡ w ++ rest
stripped w text rest (n, found, left, count) = found.1 ∙ ap (λ l. w ++ l) (sym left)

pub some_level : (p : Pile) → 0 < levels p
some_level (Turned' a p) = omega arith
some_level (Both' a p b q) = omega arith
some_level _ = omega arith

turned_word : (a : _) (p : Pile) (x : List ℕ) → pile_word (Turned' a p) ++ x ≡ codes "turned(" ++ (pile_word p ++ (codes ")" ++ x))
turned_word a p x = ap (λ l. codes "turned(" ++ l) (append_assoc (pile_word p) (codes ")") x)

both_word : (a b : _) (p q : Pile) (x : List ℕ) → pile_word (Both' a p b q) ++ x ≡ codes "both(" ++ (pile_word p ++ (codes "," ++ (pile_word q ++ (codes ")" ++ x))))
both_word a b p q x =
    ap (λ l. codes "both(" ++ l) (append_assoc (pile_word p) (codes "," ++ (pile_word q ++ codes ")")) x)
    ∙ ap (λ l. codes "both(" ++ (pile_word p ++ (codes "," ++ l))) (append_assoc (pile_word q) (codes ")") x)

-- a number by which the first two bytes of a word tell which pile it is
abbrev sign : List ℕ → ℕ
sign bs = 2 * get_or bs 0 0 + get_or bs 1 0

-- a text has one rest after the word of a pile
pub same_rest : (p q : Pile) (x y : List ℕ) → pile_word p ++ x ≡ pile_word q ++ y → x ≡ y
same_rest Idle Idle x y h = append_cancel_left (codes "idle") x y h
same_rest Overload Overload x y h = append_cancel_left (codes "overload") x y h
same_rest TimeTable TimeTable x y h = append_cancel_left (codes "timetable") x y h
same_rest NotFirst NotFirst x y h = append_cancel_left (codes "notfirst") x y h
same_rest House House x y h = append_cancel_left (codes "house") x y h
same_rest (Turned' a p) (Turned' b q) x y h =
    ap (drop 1) (same_rest p q (codes ")" ++ x) (codes ")" ++ y) (ap (drop 7) (sym (turned_word a p x) ∙ h ∙ turned_word b q y)))
same_rest (Both' a p b q) (Both' c r d s) x y h =
    let second = same_rest p r _ _ (ap (drop 5) (sym (both_word a b p q x) ∙ h ∙ both_word c d r s y)) in
    ap (drop 1) (same_rest q s (codes ")" ++ x) (codes ")" ++ y) (ap (drop 1) second))
same_rest p q x y h = absurd (omega (arith, ap sign h))

pub no_level : (text : List ℕ) (n : ℕ) → n ≡ 0 → LacksPile text n
no_level text n none p x is = omega (arith, some_level p, is.1)

-- a pile whose word begins with `turned(` is another turned
within_turned : (text rest : List ℕ) (n : ℕ) → text ≡ codes "turned(" ++ rest → (p : Pile) (x : List ℕ) → BeginsWithPile text n p x → (q : Pile) × BeginsWithPile rest (n - 1) q (codes ")" ++ x)
within_turned text rest n start (Turned' a p) x is = (p, (ap (drop 7) (sym start ∙ is.0 ∙ turned_word a p x), omega (arith, is.1)))
within_turned text rest n start p x is = absurd (omega (arith, ap sign (sym start ∙ is.0)))

pub nothing_turned : (text rest : List ℕ) (n : ℕ) → text ≡ codes "turned(" ++ rest → LacksPile rest (n - 1) → LacksPile text n
nothing_turned text rest n start none p x is = let w = within_turned text rest n start p x is in none w.0 _ w.1

pub turned_unclosed : (text rest after : List ℕ) (n : ℕ) (q : Pile) → text ≡ codes "turned(" ++ rest → BeginsWithPile rest (n - 1) q after → Lacks after (codes ")") → LacksPile text n
turned_unclosed text rest after n q start within lacks p x is = let w = within_turned text rest n start p x is in lacks x (same_rest q w.0 _ _ (sym within.0 ∙ w.1.0))

-- a pile whose word begins with `both(` is two others, one after the other
within_both : (text rest : List ℕ) (n : ℕ) → text ≡ codes "both(" ++ rest → (p : Pile) (x : List ℕ) → BeginsWithPile text n p x
    → (q r : Pile) × BeginsWithPile rest (n - 1) q (codes "," ++ (pile_word r ++ (codes ")" ++ x))) × (levels r ≤ n - 1)
within_both text rest n start (Both' a p b q) x is = (p, q, (ap (drop 5) (sym start ∙ is.0 ∙ both_word a b p q x), omega (arith, is.1)), omega (arith, is.1))
within_both text rest n start p x is = absurd (omega (arith, ap sign (sym start ∙ is.0)))

pub no_first : (text rest : List ℕ) (n : ℕ) → text ≡ codes "both(" ++ rest → LacksPile rest (n - 1) → LacksPile text n
no_first text rest n start none p x is = let w = within_both text rest n start p x is in none w.0 _ w.2

module _ (text rest after : List ℕ) (n : ℕ) (q : Pile) (start : text ≡ codes "both(" ++ rest) (first : BeginsWithPile rest (n - 1) q after) where
  -- what follows the first of two piles
  second_too : (p : Pile) (x : List ℕ) → BeginsWithPile text n p x → (r : Pile) × (after ≡ codes "," ++ (pile_word r ++ (codes ")" ++ x))) × (levels r ≤ n - 1)
  second_too p x is = let w = within_both text rest n start p x is in (w.1, same_rest q w.0 _ _ (sym first.0 ∙ w.2.0), w.3)

  pub both_uncut : Lacks after (codes ",") → LacksPile text n
  both_uncut lacks p x is = let w = second_too p x is in lacks _ w.1

  pub no_second : (other : List ℕ) → after ≡ codes "," ++ other → LacksPile other (n - 1) → LacksPile text n
  no_second other cut none p x is = let w = second_too p x is in none w.0 _ (ap (drop 1) (sym cut ∙ w.1), w.2)

  pub both_unclosed : (other end : List ℕ) (r : Pile) → after ≡ codes "," ++ other → BeginsWithPile other (n - 1) r end → Lacks end (codes ")") → LacksPile text n
  both_unclosed other end r cut second lacks p x is =
      let w = second_too p x is in
      lacks x (same_rest r w.0 _ _ (sym second.0 ∙ ap (drop 1) (sym cut ∙ w.1)))

-- a pile whose word begins with neither stands alone
pub alone : (text : List ℕ) (n : ℕ) → Lacks text (codes "turned(") → Lacks text (codes "both(") → LacksPile text 1 → LacksPile text n
alone text n no_turned no_both none (Turned' a p) x is = no_turned _ (is.0 ∙ turned_word a p x)
alone text n no_turned no_both none (Both' a p b q) x is = no_both _ (is.0 ∙ both_word a b p q x)
alone text n no_turned no_both none p x is = none p x (is.0, omega arith)

-- a pile that stands alone has one of the five names
pub no_name : (text : List ℕ) → Lacks text (codes "idle") → Lacks text (codes "overload") → Lacks text (codes "timetable") → Lacks text (codes "notfirst") → Lacks text (codes "house") → LacksPile text 1
no_name text i o t n h Idle x is = i x is.0
no_name text i o t n h Overload x is = o x is.0
no_name text i o t n h TimeTable x is = t x is.0
no_name text i o t n h NotFirst x is = n x is.0
no_name text i o t n h House x is = h x is.0
no_name text i o t n h (Turned' a p) x is = omega (arith, some_level p, is.1)
no_name text i o t n h (Both' a p b q) x is = omega (arith, some_level p, is.1)

-- the whole word is the text, and what follows is empty
whole : (w : List ℕ) (p : Pile) → Names w p → BeginsWithPile w max_levels p []
whole w p named = (named.0 ∙ sym (append-nil (pile_word p)), named.1)

pub names_none : (w : List ℕ) → LacksPile w max_levels → (p : Pile) → Names w p → ⊥
names_none w none p named = none p [] (whole w p named)

pub text_left : (w rest : List ℕ) (n : ℕ) (q : Pile) → BeginsWithPile w n q rest → rest ≢ [] → (p : Pile) → Names w p → ⊥
text_left w rest n q begins left p named = left (same_rest q p rest [] (sym begins.0 ∙ (whole w p named).0))

-- a fault that is handed on, where what it says of one text says as much of another
pub handed_on : {X : Type 0} (P : X → Type 0) (Q R : Type 0) (r : Result X Fault) (f : Fault) → IsErrAnd r (λ g. g ≡ f) → Unread f Q → (Q → R) → MatchResult r P (λ g. Unread g R)
handed_on P Q R (Ok x) f same unread weaker = absurd same
handed_on P Q R (Err g) f same unread weaker = subst (λ h. Unread h R) (sym same) (said f unread) where
  said : (h : Fault) → Unread h Q → Unread h R
  said fault.Unknown u = weaker u
  said (fault.Refused refusal) u = u
  said fault.Memory u = u

-- an option that is read as unknown where it is empty
pub or_unknown : {X : Type 0} (P Q : X → Type 0) (N M : Type 0) (o : Option X) → MatchOption o N P → (N → M) → ((x : X) → P x → Q x) → MatchResult (ok_or o fault.Unknown) Q (λ g. Unread g M)
or_unknown P Q N M None none n q = n none
or_unknown P Q N M (Some x) some n q = q x some
