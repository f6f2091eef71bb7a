use Rattle.std.proofs.Common.{List, ◌++◌, vec_items}
use Rattle.std.specs.List.{AllZip}
use Rattle.lots.specs.declared.Lot.{Lot}
use Rattle.console.specs.Syntax.{Cell}
use Rattle.console.proofs.words.cells.Given as goal

-- Whatever reads the words left reads all words after the lots so far, and where nothing does, nothing reads all words.
abbrev pub invariant-loop-word : goal.invariant-loop-word
invariant-loop-word l = record {
  reads : (T : List Lot) → AllZip Cell l.word-iterator T → AllZip Cell l.fn.words (vec_items l.lots ++ T);
  stops : ((T : List Lot) → AllZip Cell l.word-iterator T → ⊥) → (T : List Lot) → AllZip Cell l.fn.words T → ⊥;
}
