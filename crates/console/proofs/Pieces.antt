-- What a call of `next` takes from a text that is cut at an ASCII character.
use Rattle.std.proofs.Common.{◌≡◌, ℕ, ◌<◌, Bool, false, if◌then◌else◌, eqb, true, List, [], ◌∷◌, ◌++◌, take, drop, Some, None, Option, sym, refl, ap, ◌∙◌, arith, rules, Bor, MatchOption}
use Rattle.std.specs.declared.str.Split.{Split}
use Rattle.std.specs.Iterator.{YieldsFirstRef, MakesProgress, item_count}
use Rattle.std.specs.List.{All}
use Rattle.std.specs.Str.{NoCharPasses}
use Rattle.std.specs.Str.Iter.{split_text, split_has_more, split_pattern, split_steps}
use Rattle.std.specs.Str.Pattern.{FindsChar}
use Rattle.std.proofs.lemmas.Bool.{eq-eqb, ne_eqb}
use Rattle.std.proofs.lemmas.List.{take-append-drop}
use Rattle.std.proofs.lemmas.List.Elements.{All-from_get_or}
use Rattle.std.proofs.lemmas.List.Splits.{slice_split_none, slice_split_at}
use Rattle.std.proofs.lemmas.Str.{len_utf8_bounds}
use Rattle.std.proofs.lemmas.Str.Pattern.{NoCharPasses-char, drop_at_char}
use Rattle.console.specs.Syntax.{pieces}
use Rattle.console.specs.Private.Parts.{pieces_to_come}

no_mark : (c : ℕ) (bs : List ℕ) → c < 128 → NoCharPasses (λ d. eqb d c) bs → All (λ b. eqb b c ≡ false) bs
no_mark c bs ascii none = All-from_get_or (λ b. eqb b c ≡ false) bs 0 (λ i within. ne_eqb _ c (NoCharPasses-char c bs i none ascii within))

pieces_at_mark : (c : ℕ) (w x : List ℕ) (more : Bool) (rest : List ℕ) → c < 128 → (o : Option (ℕ × ℕ)) → FindsChar c w o
    → MatchOption o ((x ≡ w) × (more ≡ false)) (λ q. 0 < q.1 → (x ≡ take q.0 w) × (more ≡ true) × (rest ≡ drop q.1 w)) → pieces c w ≡ x ∷ (if more then pieces c rest else [])
pieces_at_mark c w x more rest ascii None finds is = rw (is.0, is.1) (slice_split_none (λ b. eqb b c) w (no_mark c w ascii finds))
pieces_at_mark c w x more rest ascii (Some q) finds is =
    let cut = is (omega (arith, finds.1.ends, (len_utf8_bounds c).0)) in
    let whole = sym (take-append-drop q.0 w) ∙ ap (λ ys. take q.0 w ++ ys) (drop_at_char c w q.0 q.1 finds.1 ascii) in
    rw (cut.0, cut.1, cut.2) (ap (pieces c) whole ∙ slice_split_at (λ b. eqb b c) (take q.0 w) c (drop q.1 w) (no_mark c (take q.0 w) ascii finds.0) (eq-eqb c c refl))

pub next_piece : (s t : Split ℕ) (r : Option (Bor (List ℕ))) → split_pattern s < 128 → split_steps FindsChar (λ c d. d ≡ c) s r t → YieldsFirstRef (λ (ps : List (List ℕ)). ps) (pieces_to_come s) r (pieces_to_come t)
next_piece s t None ascii step = (rw (← step.0) refl, rw (step.1, ← step.0) refl)
next_piece s t (Some x) ascii step =
    let parted = step.1.1.1 in
    rw (← step.0, step.1.0) (pieces_at_mark (split_pattern s) (split_text s) x.now (split_has_more t) (split_text t) ascii parted.0 parted.1 parted.2)

pub progress : (s t : List (List ℕ)) (r : Option (Bor (List ℕ))) → YieldsFirstRef (λ (ps : List (List ℕ)). ps) s r t → MakesProgress (λ _. Unit {0}) (item_count (λ (ps : List (List ℕ)). ps)) s r t
progress s t None step = search rules
progress s t (Some x) step = search rules
