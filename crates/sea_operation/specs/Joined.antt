-- The pairs of linked rows after an operation.
use Rattle.std.specs.Prelude.{ℕ, ◌==◌, ◌&&◌, List, ◌++◌, map, filter, Bool, not, if◌then◌else◌, Option, option_and_then}
use Rattle.std.specs.List.{filter_map, list_any}
use Rattle.std.specs.Option.{option_map_or}
use Rattle.sea_text.specs.Distinct.{is_among}
use Rattle.sea_cell.specs.declared.keys.RowId.{RowId}
use Rattle.sea_cell.specs.declared.column.Column.{Column}
use Rattle.sea_cell.specs.declared.column.LinkEnd.{LinkEnd}
use Rattle.sea_links.specs.Pairs.{is_of, side}
use Rattle.sea_links.specs.declared.pair.LinkPair.{LinkPair}
use Rattle.sea_schema.specs.Tables.{column_named, is_link_among}
use Rattle.sea_operation.specs.declared.operation.Op.{Op}
use Rattle.sea_operation.specs.declared.operation.Op.TheVariants.{DeleteTable, DeleteColumn, DeleteRows, AddLink, RemoveLink}

-- the link's end in the column of a name, where that is a link column
abbrev pub end_named : List Column → List ℕ → Option LinkEnd
end_named columns name = option_and_then (λ column. column.other) (column_named columns name)

-- the texts of ids
abbrev pub texts_of_ids : List RowId → List (List ℕ)
texts_of_ids ids = map (λ id. id.0) ids

-- the pair of a row at this end of a link with another row
abbrev pub joined : LinkEnd → RowId → RowId → LinkPair
joined end row other = record { link = end.link; first = if end.first then row else other; second = if end.first then other else row }

-- the pairs with those of a row at this end and other rows, in their order
abbrev pub with_joined : List LinkPair → RowId → List RowId → LinkEnd → List LinkPair
with_joined pairs row others end = pairs ++ map (joined end row) others

-- the pair joins a row at this end with one of these
abbrev pub joins_one : LinkEnd → RowId → List (List ℕ) → LinkPair → Bool
joins_one end row others pair = is_of end.link end.first row pair && is_among others (side (not end.first) pair).0

abbrev pub joins_none : LinkEnd → RowId → List (List ℕ) → LinkPair → Bool
joins_none end row others pair = not (joins_one end row others pair)

-- the pairs without those of a row at this end and other rows
abbrev pub without_joined : List LinkPair → RowId → List RowId → LinkEnd → List LinkPair
without_joined pairs row others end = filter (joins_none end row (texts_of_ids others)) pairs

-- the pair has one of these rows at this end
abbrev pub has_row_at : List (List ℕ) → LinkPair → LinkEnd → Bool
has_row_at ids pair end = (pair.link == end.link) && is_among ids (side end.first pair).0

-- the pair has none of these rows of a table whose link columns are these ends
abbrev pub has_no_row : List LinkEnd → List (List ℕ) → LinkPair → Bool
has_no_row ends ids pair = not (list_any (has_row_at ids pair) ends)

-- the ends of links that columns are
abbrev pub ends_of : List Column → List LinkEnd
ends_of columns = filter_map (λ column. column.other) columns

-- a pair of another link than these
abbrev pub is_of_others : List ℕ → LinkPair → Bool
is_of_others links pair = not (is_link_among links pair.link)

-- The pairs after an operation on a table with these columns, with which these links go. Pairs are added in the order in
-- which the operation names the other rows.
abbrev pub pairs_after : List Column → List ℕ → Op → List LinkPair → List LinkPair
pairs_after columns links (AddLink _ column row others) pairs = option_map_or (with_joined pairs row others) (end_named columns column) pairs
pairs_after columns links (RemoveLink _ column row others) pairs = option_map_or (without_joined pairs row others) (end_named columns column) pairs
pairs_after columns links (DeleteRows _ ids) pairs = filter (has_no_row (ends_of columns) (texts_of_ids ids)) pairs
pairs_after columns links (DeleteColumn _ _) pairs = filter (is_of_others links) pairs
pairs_after columns links (DeleteTable _) pairs = filter (is_of_others links) pairs
pairs_after columns links _ pairs = pairs
