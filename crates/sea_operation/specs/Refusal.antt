-- Why a base refuses an operation: the first refusal that holds, in one order, with its first place in the operation.
-- Places go by the operation's text with the members of each object in byte order, so an insert_table's columns
-- stand before its table, and a column's name before its options.
use Rattle.std.specs.Prelude.{ℕ, ◌+◌, ◌^◌, ◌&&◌, List, [], ◌∷◌, ◌++◌, length, map, nat_lt, pos, Bool, true, false, not, is_some, if◌then◌else◌, Option, Some, None, option_map, option_and_then, Result, Ok, Err}
use Rattle.std.specs.List.{find}
use Rattle.std.specs.Option.{option_map_or}
use Rattle.std.specs.Str.{bytes_eq}
use Rattle.sea_text.specs.Distinct.{once}
use Rattle.sea_cell.specs.Conversion.{cell_of}
use Rattle.sea_cell.specs.Kinds.{has_options}
use Rattle.sea_cell.specs.Sizes.{row_bytes_of}
use Rattle.sea_cell.specs.declared.keys.Moment.{Moment}
use Rattle.sea_cell.specs.declared.column.Column.{Column}
use Rattle.sea_cell.specs.declared.column.NewColumn.{NewColumn}
use Rattle.sea_cell.specs.declared.values.CellValue.{CellValue}
use Rattle.sea_cell.specs.declared.conversion.CellFault.{CellFault}
use Rattle.sea_cell.specs.declared.row.Row.{Row}
use Rattle.sea_cell.specs.declared.keys.RowId.{RowId}
use Rattle.sea_cell.specs.declared.keys.TableNo.{TableNo}
use Rattle.sea_cell.specs.declared.column.LinkEnd.{LinkEnd}
use Rattle.sea_cell.specs.declared.column.NewEnd.{NewEnd}
use Rattle.sea_cell.specs.declared.view.View.{View}
use Rattle.sea_schema.specs.Tables.{table_named, column_named, view_named}
use Rattle.sea_operation.specs.declared.operation.NewFilter.{NewFilter}
use Rattle.sea_operation.specs.declared.base.Plain.{Plain}
use Rattle.sea_operation.specs.declared.operation.NamedCell.{NamedCell}
use Rattle.sea_operation.specs.declared.operation.RowChange.{RowChange}
use Rattle.sea_operation.specs.declared.operation.Op.{Op}
use Rattle.sea_operation.specs.declared.operation.Op.TheVariants.{InsertTable, RenameTable, InsertColumn, RenameColumn, DeleteColumn, AddOptions, AppendRows, ModifyRows, AddLink, RemoveLink, InsertView, ModifyView, DeleteView}
use Rattle.sea_operation.specs.declared.refusal.Counter.{Counter}
use Rattle.sea_operation.specs.declared.refusal.Counter.TheVariants as counter
use Rattle.sea_operation.specs.declared.refusal.OpRefusal.{OpRefusal}
use Rattle.sea_operation.specs.declared.refusal.OpRefusal.TheVariants as refusal
use Rattle.sea_operation.specs.Base.{plain_named}
use Rattle.sea_operation.specs.Makes.{table_name, ids_named, cells_written, columns_made, links_made, tables_made, rows_made, rows_given}
use Rattle.sea_operation.specs.Names.{is_name, is_id, is_option, first_repeat}
use Rattle.sea_operation.specs.RowsOf.{ids_of, rows_of, changed_row}
use Rattle.sea_operation.specs.Joined.{end_named, texts_of_ids}
use Rattle.sea_operation.specs.Seen.{Seen, seen_of, columns_in, views_in, has_id}
use Rattle.sea_operation.specs.Viewed.{filter_of}

-- the first of two
abbrev pub or_else : {X : Type 0} → Option X → Option X → Option X
or_else None later = later
or_else (Some x) later = Some x

-- what the first element gives that gives something
abbrev pub first_at : {X Y : Type 0} → (X → Option Y) → List X → Option Y
first_at f [] = None
first_at f (x ∷ xs) = or_else (f x) (first_at f xs)

-- ---- NumbersSpent

-- a counter that would rise above its last value
abbrev pub spent : Counter → ℕ → ℕ → ℕ → Option OpRefusal
spent name value more last = if nat_lt 0 more && nat_lt last (value + more) then Some (refusal.NumbersSpent name) else None

-- each operation raises the version by one, and the next numbers by what it makes
abbrev pub numbers_spent : Seen → Op → Option OpRefusal
numbers_spent seen op =
    or_else (spent counter.Version seen.counters.version 1 (2 ^ 62))
    (or_else (spent counter.NextRow seen.counters.row (rows_made op) (2 ^ 62))
    (or_else (spent counter.NextTable seen.counters.table (tables_made op) 4294967295)
    (or_else (spent counter.NextColumn seen.counters.column (columns_made op) 4294967295)
    (spent counter.NextLink seen.counters.link (links_made op) 4294967295))))

-- ---- NoTable

-- a table that isn't there
abbrev pub missing_table : Seen → List ℕ → Option OpRefusal
missing_table seen name = if is_some (table_named seen.tables name) then None else Some (refusal.NoTable name)

-- the table of the other side of a new link, where there is to be one
abbrev pub missing_other : Seen → Option NewEnd → Option OpRefusal
missing_other seen None = None
missing_other seen (Some other) = missing_table seen other.table

abbrev pub no_table : Seen → Op → Option OpRefusal
no_table seen (InsertTable _ _) = None
no_table seen (InsertColumn table column) = or_else (missing_other seen column.other) (missing_table seen table)
no_table seen op = missing_table seen (table_name op)

-- ---- NoColumn

-- a column that isn't there
abbrev pub missing_column : List Column → List ℕ → Option OpRefusal
missing_column columns name = if is_some (column_named columns name) then None else Some (refusal.NoColumn name)

-- a member that names no column
abbrev pub missing_member : List Column → NamedCell → Option OpRefusal
missing_member columns cell = missing_column columns cell.name

-- a filter of no column
abbrev pub missing_filtered : List Column → NewFilter → Option OpRefusal
missing_filtered columns filter = missing_column columns filter.column

-- the first such member of some rows
unfoldable pub missing_in : List Column → List (List NamedCell) → Option OpRefusal
missing_in columns rows = first_at (λ cells. first_at (missing_member columns) cells) rows

abbrev pub no_column : Seen → Op → Option OpRefusal
no_column seen (RenameColumn table column _) = missing_column (columns_in seen table) column
no_column seen (DeleteColumn table column) = missing_column (columns_in seen table) column
no_column seen (AddOptions table column _) = missing_column (columns_in seen table) column
no_column seen (AddLink table column _ _) = missing_column (columns_in seen table) column
no_column seen (RemoveLink table column _ _) = missing_column (columns_in seen table) column
no_column seen (InsertView table view) = first_at (missing_filtered (columns_in seen table)) view.filters
no_column seen (ModifyView table view) = first_at (missing_filtered (columns_in seen table)) view.filters
no_column seen op = missing_in (columns_in seen (table_name op)) (cells_written op)

-- ---- NoView

-- a view that isn't there
abbrev pub missing_view : List View → List ℕ → Option OpRefusal
missing_view views name = if is_some (view_named views name) then None else Some (refusal.NoView name)

abbrev pub no_view : Seen → Op → Option OpRefusal
no_view seen (ModifyView table view) = missing_view (views_in seen table) view.name
no_view seen (DeleteView table name) = missing_view (views_in seen table) name
no_view seen _ = None

-- ---- NoRow

-- a row that isn't there
abbrev pub missing_row : Seen → List ℕ → List ℕ → Option OpRefusal
missing_row seen table id = if has_id seen table id then None else Some (refusal.NoRow id)

-- a row that isn't in the table of a number
abbrev pub missing_in_table : Seen → TableNo → RowId → Option OpRefusal
missing_in_table seen table id = if seen.has table id.0 then None else Some (refusal.NoRow id.0)

-- the first of some rows that isn't at the other end of a link
abbrev pub missing_others : Seen → List RowId → LinkEnd → Option OpRefusal
missing_others seen others end = first_at (missing_in_table seen end.table) others

-- the rows that are to be linked in a column, or not any more, and then the row that they are linked to
abbrev pub missing_linked : Seen → List ℕ → List ℕ → RowId → List RowId → Option OpRefusal
missing_linked seen table column row others = or_else (option_and_then (missing_others seen others) (end_named (columns_in seen table) column)) (missing_row seen table row.0)

abbrev pub no_row : Seen → Op → Option OpRefusal
no_row seen (AddLink table column row others) = missing_linked seen table column row others
no_row seen (RemoveLink table column row others) = missing_linked seen table column row others
no_row seen op = first_at (missing_row seen (table_name op)) (ids_named op)

-- ---- BadName

-- a text that is no name
abbrev pub bad_text : List ℕ → Option OpRefusal
bad_text name = if is_name name then None else Some (refusal.BadName name)

-- a text that is no id
abbrev pub bad_id : List ℕ → Option OpRefusal
bad_id id = if is_id id then None else Some (refusal.BadName id)

-- a text that is no option
abbrev pub bad_option : List ℕ → Option OpRefusal
bad_option option = if is_option option then None else Some (refusal.BadName option)

-- the name of a new link's other side, where there is to be one
abbrev pub bad_other : Option NewEnd → Option OpRefusal
bad_other None = None
bad_other (Some other) = bad_text other.name

-- a new column's name, and then its options or the name of its other side
abbrev pub bad_column : NewColumn → Option OpRefusal
bad_column column = or_else (bad_text column.name) (or_else (first_at bad_option column.options) (bad_other column.other))

abbrev pub bad_name : Op → Option OpRefusal
bad_name (InsertTable table columns) = or_else (first_at bad_column columns) (bad_text table)
bad_name (RenameTable _ to) = bad_text to
bad_name (InsertColumn _ column) = bad_column column
bad_name (RenameColumn _ _ to) = bad_text to
bad_name (AddOptions _ _ options) = first_at bad_option options
bad_name (AppendRows _ rows) = first_at (λ row. option_and_then bad_id row.id) rows
bad_name (InsertView _ view) = bad_text view.name
bad_name _ = None

-- ---- NameTaken

-- the name of a table that is there
abbrev pub taken_table : Seen → List ℕ → Option OpRefusal
taken_table seen name = if is_some (table_named seen.tables name) then Some (refusal.NameTaken name) else None

-- the name of a column that is there
abbrev pub taken_column : List Column → List ℕ → Option OpRefusal
taken_column columns name = if is_some (column_named columns name) then Some (refusal.NameTaken name) else None

-- nothing is in use but what the operation itself has
abbrev pub unused : List ℕ → Bool
unused text = false

-- the name of a view that is there
abbrev pub taken_view : List View → List ℕ → Option OpRefusal
taken_view views name = if is_some (view_named views name) then Some (refusal.NameTaken name) else None

-- the name of a new link's other side in its table
abbrev pub taken_other : Seen → Option NewEnd → Option OpRefusal
taken_other seen None = None
taken_other seen (Some other) = taken_column (columns_in seen other.table) other.name

-- a thing's own name counts as in use
abbrev pub name_taken : Seen → Op → Option OpRefusal
name_taken seen (InsertTable table columns) = or_else (option_map refusal.NameTaken (first_repeat unused [] (map (λ column. column.name) columns))) (taken_table seen table)
name_taken seen (RenameTable _ to) = taken_table seen to
name_taken seen (InsertColumn table column) = or_else (taken_column (columns_in seen table) column.name) (taken_other seen column.other)
name_taken seen (RenameColumn table _ to) = taken_column (columns_in seen table) to
name_taken seen (InsertView table view) = taken_view (views_in seen table) view.name
name_taken seen _ = None

-- ---- BadFilter

-- the place of the first filter that doesn't fit its column, counted from here
abbrev pub bad_filter_from : ℕ → List Column → List NewFilter → Option OpRefusal
bad_filter_from place columns [] = None
bad_filter_from place columns (filter ∷ filters) = if is_some (filter_of columns filter) then bad_filter_from (place + 1) columns filters else Some (refusal.BadFilter place)

abbrev pub bad_filter : Seen → Op → Option OpRefusal
bad_filter seen (InsertView table view) = bad_filter_from 0 (columns_in seen table) view.filters
bad_filter seen (ModifyView table view) = bad_filter_from 0 (columns_in seen table) view.filters
bad_filter seen _ = None

-- ---- BadCell

-- a cell that its column doesn't take
abbrev pub refused_value : List ℕ → Result CellValue CellFault → Option OpRefusal
refused_value name (Ok _) = None
refused_value name (Err fault) = Some (refusal.BadCell name fault)

abbrev pub refused_cell : List Column → NamedCell → Option OpRefusal
refused_cell columns cell = option_and_then (λ column. refused_value cell.name (cell_of column cell.word)) (column_named columns cell.name)

-- the first such cell of some rows
unfoldable pub refused_in : List Column → List (List NamedCell) → Option OpRefusal
refused_in columns rows = first_at (λ cells. first_at (refused_cell columns) cells) rows

abbrev pub bad_cell : Seen → Op → Option OpRefusal
bad_cell seen op = refused_in (columns_in seen (table_name op)) (cells_written op)

-- ---- DuplicateRow

-- ids that are given out count as well as given ones
abbrev pub duplicate_row : Seen → Op → Option OpRefusal
duplicate_row seen (AppendRows table rows) = option_map refusal.DuplicateRow (first_repeat (has_id seen table) [] (ids_of seen.counters.row rows))
duplicate_row seen op = option_map refusal.DuplicateRow (first_repeat unused [] (ids_named op))

-- ---- TooMany

-- more than a limit allows
abbrev pub above_limit : ℕ → ℕ → Option OpRefusal
above_limit limit count = if nat_lt limit count then Some (refusal.TooMany limit) else None

-- 500 options of a column, each of which counts once
abbrev pub many_options : List (List ℕ) → Option OpRefusal
many_options options = above_limit 500 (length (once options))

-- the options of the column of a name
abbrev pub options_in : List Column → List ℕ → List (List ℕ)
options_in columns name = option_map_or (λ column. column.options) (column_named columns name) []

-- one column more in the table of a new link's other side
abbrev pub many_columns_there : Seen → Option NewEnd → Option OpRefusal
many_columns_there seen None = None
many_columns_there seen (Some other) = above_limit 200 (length (columns_in seen other.table) + 1)

-- 1,000 rows or ids of an operation, 64 tables of a base, 200 columns and 50 views of a table, 20 filters of a view, and
-- 200,000 pairs of linked rows
abbrev pub too_many : Seen → Op → Option OpRefusal
too_many seen (InsertTable _ columns) = or_else (above_limit 64 (length seen.tables + 1)) (or_else (above_limit 200 (length columns)) (first_at (λ column. many_options column.options) columns))
too_many seen (InsertColumn table column) = or_else (above_limit 200 (length (columns_in seen table) + 1)) (or_else (many_columns_there seen column.other) (many_options column.options))
too_many seen (AddOptions table column options) = many_options (options_in (columns_in seen table) column ++ options)
too_many seen (AppendRows _ rows) = above_limit 1000 (length rows)
too_many seen (InsertView table view) = or_else (above_limit 50 (length (views_in seen table) + 1)) (above_limit 20 (length view.filters))
too_many seen (ModifyView _ view) = above_limit 20 (length view.filters)
too_many seen (AddLink _ _ _ others) = or_else (above_limit 1000 (length others)) (above_limit 200000 (seen.pair_count + length others))
too_many seen (RemoveLink _ _ _ others) = above_limit 1000 (length others)
too_many seen op = above_limit 1000 (length (ids_named op))

-- ---- RowTooBig

-- a row whose encoding is too long, or that has none
abbrev pub large_row : Row → Option OpRefusal
large_row row = if nat_lt 8192 (row_bytes_of row) then Some (refusal.RowTooBig (row_bytes_of row)) else None

-- the rows that an operation makes at a moment
abbrev pub new_rows : Seen → Moment → Op → List Row
new_rows seen moment op = rows_of (columns_in seen (table_name op)) moment seen.counters.row (rows_given op)

-- Each moment of the range takes the same bytes, so new rows are weighed as if they were made at the first of 1970.
abbrev pub some_moment : Moment
some_moment = record { 0 = pos 0 }

abbrev pub large_new_row : Seen → Op → Option OpRefusal
large_new_row seen op = first_at large_row (new_rows seen some_moment op)

-- ---- NotLink, LinkExists and NoLink

-- a column that is no link column
abbrev pub no_end : List Column → List ℕ → Option OpRefusal
no_end columns name = if is_some (end_named columns name) then None else Some (refusal.NotLink name)

abbrev pub not_link : Seen → Op → Option OpRefusal
not_link seen (AddLink table column _ _) = no_end (columns_in seen table) column
not_link seen (RemoveLink table column _ _) = no_end (columns_in seen table) column
not_link seen _ = None

-- the row of this id is linked to a row at this end
abbrev pub is_linked : Seen → LinkEnd → RowId → List ℕ → Bool
is_linked seen end row id = if end.first then seen.linked end.link row.0 id else seen.linked end.link id row.0

abbrev pub is_not_linked : Seen → LinkEnd → RowId → List ℕ → Bool
is_not_linked seen end row id = not (is_linked seen end row id)

-- linked, or not, as is asked
abbrev pub is_so_linked : Bool → Seen → LinkEnd → RowId → List ℕ → Bool
is_so_linked true = is_linked
is_so_linked false = is_not_linked

-- the first row that is linked already, or that stands twice
abbrev pub linked_already : Seen → RowId → List RowId → LinkEnd → Option OpRefusal
linked_already seen row others end = option_map refusal.LinkExists (first_repeat (is_linked seen end row) [] (texts_of_ids others))

abbrev pub link_exists : Seen → Op → Option OpRefusal
link_exists seen (AddLink table column row others) = option_and_then (linked_already seen row others) (end_named (columns_in seen table) column)
link_exists seen _ = None

-- the first row that isn't linked, or that stands twice
abbrev pub not_linked : Seen → RowId → List RowId → LinkEnd → Option OpRefusal
not_linked seen row others end = option_map refusal.NoLink (first_repeat (is_not_linked seen end row) [] (texts_of_ids others))

abbrev pub no_link : Seen → Op → Option OpRefusal
no_link seen (RemoveLink table column row others) = option_and_then (not_linked seen row others) (end_named (columns_in seen table) column)
no_link seen _ = None

-- ---- NotSelect and FirstColumn

-- a column whose cells are no options
abbrev pub not_select : Seen → Op → Option OpRefusal
not_select seen (AddOptions table column _) = option_and_then (λ found. if has_options found.kind then None else Some (refusal.NotSelect column)) (column_named (columns_in seen table) column)
not_select seen _ = None

-- the first column has the name
abbrev pub is_first : List Column → List ℕ → Bool
is_first [] name = false
is_first (column ∷ _) name = bytes_eq column.name name

abbrev pub first_column : Seen → Op → Option OpRefusal
first_column seen (DeleteColumn table column) = if is_first (columns_in seen table) column then Some (refusal.FirstColumn column) else None
first_column seen _ = None

-- ---- all of them

-- The first refusal that follows from what is seen of a base, in the order of the list in docs/formats.md. Changed rows
-- aside it is the first of all.
abbrev pub seen_refusal : Seen → Op → Option OpRefusal
seen_refusal seen op =
    or_else (numbers_spent seen op)
    (or_else (no_table seen op)
    (or_else (no_column seen op)
    (or_else (no_view seen op)
    (or_else (no_row seen op)
    (or_else (bad_name op)
    (or_else (name_taken seen op)
    (or_else (bad_filter seen op)
    (or_else (bad_cell seen op)
    (or_else (duplicate_row seen op)
    (or_else (too_many seen op)
    (or_else (large_new_row seen op)
    (or_else (not_link seen op)
    (or_else (not_select seen op)
    (or_else (link_exists seen op)
    (or_else (no_link seen op)
    (first_column seen op))))))))))))))))

-- a changed row that is too big
abbrev pub large_change : List Row → List Column → Moment → RowChange → Option OpRefusal
large_change rows columns moment change = option_and_then (λ row. large_row (changed_row columns moment change row)) (find (λ row. bytes_eq row.id.0 change.id.0) rows)

abbrev pub large_changed_row : Plain → Moment → Op → Option OpRefusal
large_changed_row base moment (ModifyRows table changes) = option_and_then (λ plain. first_at (large_change plain.rows plain.table.columns moment) changes) (plain_named base.tables table)
large_changed_row base moment _ = None

-- The first refusal. An operation that changes rows can have none that stands behind a row that is too big.
abbrev pub refusal_of : Plain → Moment → Op → Option OpRefusal
refusal_of base moment op = or_else (seen_refusal (seen_of base) op) (large_changed_row base moment op)
