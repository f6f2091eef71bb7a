-- What is seen of a profile: its table, and which of its lots were added.
use Rattle.std.specs.Prelude.{ℕ, Bool, false, List, slice_index_or}
use Rattle.lots.specs.declared.Lot.{Lot}
use Rattle.lots.specs.declared.table.Table.{Table}
use Rattle.elastic.specs.Marked.{marked_lots}
use Rattle.elastic.specs.declared.profile.Profile.{Profile}

abbrev pub table_of : Profile → Table
table_of p = p.table

-- a mark for each lot, by number: whether it was added
abbrev pub marks_of : Profile → List Bool
marks_of p = p.added

-- whether the lot of the number k was added
abbrev pub is_added : Profile → ℕ → Bool
is_added p k = slice_index_or (marks_of p) k false

abbrev pub added_lots : Profile → List Lot
added_lots p = marked_lots (marks_of p) (table_of p).lots.now
