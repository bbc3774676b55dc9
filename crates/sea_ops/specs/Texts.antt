-- The canonical text of an operation: compact JSON, the members of each object in byte order of their names.
use Rattle.std.specs.Prelude.{ℕ, ◌^◌, ℤ, pos, negsuc, List, [], ◌∷◌, map, nat_lt, Bool, if◌then◌else◌, Option, Some, None, codes}
use Rattle.serde_json.specs.Data.{Data, null, boolean, number, string, array, object, Members, no_members, member, put}
use Rattle.serde_json.specs.Find.{of_integer}
use Rattle.serde_json.specs.View.{items_of}
use Rattle.serde_json.specs.Written.{compact_text}
use Rattle.sea_cell.specs.Conversion.{texts_json, ids_json}
use Rattle.sea_cell.specs.Kinds.{word_of_kind}
use Rattle.sea_cell.specs.declared.keys.RowId.{RowId}
use Rattle.sea_cell.specs.declared.column.ColKind.{ColKind}
use Rattle.sea_cell.specs.declared.column.ColKind.TheVariants as kind
use Rattle.sea_cell.specs.declared.column.NewColumn.{NewColumn}
use Rattle.sea_cell.specs.declared.column.NewEnd.{NewEnd}
use Rattle.sea_cell.specs.declared.words.CellWord.{CellWord}
use Rattle.sea_cell.specs.declared.words.CellWord.TheVariants.{Null, Check, Whole, Text, List as TextList, Odd}
use Rattle.sea_operation.specs.declared.operation.NamedCell.{NamedCell}
use Rattle.sea_operation.specs.declared.operation.NewFilter.{NewFilter}
use Rattle.sea_operation.specs.declared.operation.NewView.{NewView}
use Rattle.sea_operation.specs.declared.operation.OpRow.{OpRow}
use Rattle.sea_operation.specs.declared.operation.RowChange.{RowChange}
use Rattle.sea_operation.specs.declared.operation.Op.{Op}
use Rattle.sea_operation.specs.declared.operation.Op.TheVariants as op

-- ---- words

-- an integer of 64 bits, with or without sign
abbrev pub is_whole : ℤ → Bool
is_whole (pos n) = nat_lt n (2 ^ 64)
is_whole (negsuc n) = nat_lt n (2 ^ 63)

-- what stands for all JSON that no column takes
abbrev pub odd : Data
odd = object no_members

-- an integer; one of more than 64 bits is no word of a cell
abbrev pub whole_json : ℤ → Data
whole_json whole = if is_whole whole then number (of_integer whole) else odd

-- the JSON that a cell's word came from, and what stands for Odd
abbrev pub json_of_word : CellWord → Data
json_of_word Null = null
json_of_word (Check check) = boolean check
json_of_word (Whole whole) = whole_json whole
json_of_word (Text text) = string text
json_of_word (TextList texts) = texts_json texts
json_of_word Odd = odd

-- ---- rows

-- the members, with each cell at its place among them
abbrev pub with_cells : List NamedCell → Members → Members
with_cells [] members = members
with_cells (cell ∷ cells) members = with_cells cells (put cell.name (json_of_word cell.word) members)

-- the members, with the id at its place among them, where there is one
abbrev pub with_id : Option (List ℕ) → Members → Members
with_id None members = members
with_id (Some id) members = put (codes "_id") (string id) members

-- a row: its cells, and its id
abbrev pub row_json : OpRow → Data
row_json row = object (with_id row.id (with_cells row.cells no_members))

-- cells, and the id of their row
abbrev pub with_id_json : List NamedCell → List ℕ → Data
with_id_json cells id = object (put (codes "_id") (string id) (with_cells cells no_members))

abbrev pub rows_json : List OpRow → Data
rows_json rows = array (items_of (map row_json rows))

-- the change of a row: the cells, and its id
abbrev pub change_json : RowChange → Data
change_json change = with_id_json change.cells change.id.0

abbrev pub changes_json : List RowChange → Data
changes_json changes = array (items_of (map change_json changes))

-- ---- columns

-- a column of a type that has nothing beside its name
abbrev pub plain_column_json : List ℕ → ColKind → Data
plain_column_json name kind = object (member (codes "name") (string name) (member (codes "type") (string (word_of_kind kind)) no_members))

-- a number column and its unit
abbrev pub number_column_json : List ℕ → List ℕ → Data
number_column_json name unit = object (member (codes "name") (string name) (member (codes "type") (string (codes "number")) (member (codes "unit") (string unit) no_members)))

-- a select column and its options
abbrev pub select_column_json : NewColumn → Data
select_column_json column = object (member (codes "name") (string column.name) (member (codes "options") (texts_json column.options) (member (codes "type") (string (word_of_kind column.kind)) no_members)))

-- the other side of a link column
abbrev pub other_members : Option NewEnd → Members → Members
other_members None members = members
other_members (Some end) members = member (codes "other") (string end.table) (member (codes "other_name") (string end.name) members)

-- a link column and its other side
abbrev pub link_column_json : NewColumn → Data
link_column_json column = object (member (codes "name") (string column.name) (other_members column.other (member (codes "type") (string (codes "link")) no_members)))

-- a column: its name and its type, and what its type has beside these
unfoldable pub column_of_kind_json : ColKind → NewColumn → Data
column_of_kind_json kind.Number column = number_column_json column.name column.unit
column_of_kind_json kind.Select column = select_column_json column
column_of_kind_json kind.Multi column = select_column_json column
column_of_kind_json kind.Link column = link_column_json column
column_of_kind_json other column = plain_column_json column.name other

abbrev pub column_json : NewColumn → Data
column_json column = column_of_kind_json column.kind column

abbrev pub columns_json : List NewColumn → Data
columns_json columns = array (items_of (map column_json columns))

-- ---- views

abbrev pub filter_json : NewFilter → Data
filter_json filter = object (member (codes "column") (string filter.column) (member (codes "predicate") (string filter.predicate) (member (codes "term") (json_of_word filter.term) no_members)))

abbrev pub filters_json : List NewFilter → Data
filters_json filters = array (items_of (map filter_json filters))

-- how the filters of a view are joined
abbrev pub conjunction_word : Bool → List ℕ
conjunction_word all = if all then codes "And" else codes "Or"

abbrev pub view_json : NewView → Data
view_json view = object (member (codes "conjunction") (string (conjunction_word view.all)) (member (codes "filters") (filters_json view.filters) (member (codes "name") (string view.name) no_members)))

-- ---- operations

-- the operation's name
abbrev pub op_member : List ℕ → Members → Members
op_member word members = member (codes "op") (string word) members

-- its table, and what stands behind it
abbrev pub table_member : List ℕ → Members → Members
table_member table members = member (codes "table") (string table) members

-- its column, and what stands behind it
abbrev pub column_member : List ℕ → Members → Members
column_member column members = member (codes "column") (string column) members

abbrev pub insert_table_json : List ℕ → List NewColumn → Data
insert_table_json table columns = object (member (codes "columns") (columns_json columns) (op_member (codes "insert_table") (table_member table no_members)))

abbrev pub rename_table_json : List ℕ → List ℕ → Data
rename_table_json table to = object (op_member (codes "rename_table") (table_member table (member (codes "to") (string to) no_members)))

abbrev pub delete_table_json : List ℕ → Data
delete_table_json table = object (op_member (codes "delete_table") (table_member table no_members))

abbrev pub insert_column_json : List ℕ → NewColumn → Data
insert_column_json table column = object (member (codes "column") (column_json column) (op_member (codes "insert_column") (table_member table no_members)))

abbrev pub rename_column_json : List ℕ → List ℕ → List ℕ → Data
rename_column_json table column to = object (column_member column (op_member (codes "rename_column") (table_member table (member (codes "to") (string to) no_members))))

abbrev pub delete_column_json : List ℕ → List ℕ → Data
delete_column_json table column = object (column_member column (op_member (codes "delete_column") (table_member table no_members)))

abbrev pub add_options_json : List ℕ → List ℕ → List (List ℕ) → Data
add_options_json table column options = object (column_member column (op_member (codes "add_options") (member (codes "options") (texts_json options) (table_member table no_members))))

abbrev pub append_rows_json : List ℕ → List OpRow → Data
append_rows_json table rows = object (op_member (codes "append_rows") (member (codes "rows") (rows_json rows) (table_member table no_members)))

abbrev pub modify_rows_json : List ℕ → List RowChange → Data
modify_rows_json table changes = object (op_member (codes "modify_rows") (member (codes "rows") (changes_json changes) (table_member table no_members)))

abbrev pub delete_rows_json : List ℕ → List RowId → Data
delete_rows_json table ids = object (member (codes "ids") (ids_json ids) (op_member (codes "delete_rows") (table_member table no_members)))

-- the links of a row with others, by the operation's name
abbrev pub links_json : List ℕ → List ℕ → List ℕ → RowId → List RowId → Data
links_json word table column row others = object (column_member column (op_member word (member (codes "others") (ids_json others) (member (codes "row") (string row.0) (table_member table no_members)))))

-- a view, by the operation's name
abbrev pub put_view_json : List ℕ → List ℕ → NewView → Data
put_view_json word table view = object (op_member word (table_member table (member (codes "view") (view_json view) no_members)))

abbrev pub delete_view_json : List ℕ → List ℕ → Data
delete_view_json table view = object (op_member (codes "delete_view") (table_member table (member (codes "view") (string view) no_members)))

-- an operation
abbrev pub json_of : Op → Data
json_of (op.InsertTable table columns) = insert_table_json table columns
json_of (op.RenameTable table to) = rename_table_json table to
json_of (op.DeleteTable table) = delete_table_json table
json_of (op.InsertColumn table column) = insert_column_json table column
json_of (op.RenameColumn table column to) = rename_column_json table column to
json_of (op.DeleteColumn table column) = delete_column_json table column
json_of (op.AddOptions table column options) = add_options_json table column options
json_of (op.AppendRows table rows) = append_rows_json table rows
json_of (op.ModifyRows table changes) = modify_rows_json table changes
json_of (op.DeleteRows table ids) = delete_rows_json table ids
json_of (op.AddLink table column row others) = links_json (codes "add_link") table column row others
json_of (op.RemoveLink table column row others) = links_json (codes "remove_link") table column row others
json_of (op.InsertView table view) = put_view_json (codes "insert_view") table view
json_of (op.ModifyView table view) = put_view_json (codes "modify_view") table view
json_of (op.DeleteView table view) = delete_view_json table view

-- the canonical text of an operation
unfoldable pub text_of : Op → List ℕ
text_of op = compact_text (json_of op)
