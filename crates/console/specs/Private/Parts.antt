-- What a cut text has still to give.
use Rattle.std.specs.Prelude.{ℕ, if◌then◌else◌, List, []}
use Rattle.std.specs.declared.str.Split.{Split}
use Rattle.std.specs.Str.Iter.{split_text, split_has_more, split_pattern}
use Rattle.console.specs.Syntax.{pieces}

-- the pieces that a cut text has still to give
abbrev pub pieces_to_come : Split ℕ → List (List ℕ)
pieces_to_come s = if split_has_more s then pieces (split_pattern s) (split_text s) else []
