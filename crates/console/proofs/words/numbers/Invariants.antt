use Rattle.std.proofs.Common.{◌≡◌, ℕ, ◌+◌, List, ◌++◌, length, take}
use Rattle.std.specs.List.{AllZip}
use Rattle.console.specs.Syntax.{Number}
use Rattle.console.proofs.words.numbers.Given as goal

-- Whatever the parts left write follows the numbers so far, and where they do not write what is still wanted, the parts do not write all.
abbrev pub invariant-loop-slot : goal.invariant-loop-slot
invariant-loop-slot g l = record {
  count : length l.slot-items ≡ g.row.N;
  reads : (ns : List ℕ) → AllZip Number l.parts ns → AllZip Number l.fn.parts (take l.slot-index l.slot-items ++ ns);
  stops : ((ns : List ℕ) → l.slot-index + length ns ≡ g.row.N → AllZip Number l.parts ns → ⊥) → (ns : List ℕ) → length ns ≡ g.row.N → AllZip Number l.fn.parts ns → ⊥;
}
