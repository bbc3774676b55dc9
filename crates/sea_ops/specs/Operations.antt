-- Which operation a JSON text is: one object with the members of its form and no others.
use Rattle.std.specs.Prelude.{ℕ, ◌+◌, ◌==◌, ◌&&◌, List, [], ◌∷◌, map, Bool, true, false, not, is_some, if◌then◌else◌, Option, Some, None, option_map, option_and_then, codes}
use Rattle.std.specs.List.{list_all}
use Rattle.std.specs.Option.{option_map_or}
use Rattle.std.specs.Str.{bytes_eq, is_utf8}
use Rattle.serde_json.specs.Data.{Data, Items, no_items, item, Members, no_members, member}
use Rattle.serde_json.specs.Find.{get, get_member, as_str, as_array, as_object}
use Rattle.serde_json.specs.Read.{read}
use Rattle.sea_cell.specs.Kinds.{kind_of}
use Rattle.sea_cell.specs.Words.{texts_of, word_of}
use Rattle.sea_cell.specs.declared.keys.RowId.{RowId}
use Rattle.sea_cell.specs.declared.column.ColKind.{ColKind}
use Rattle.sea_cell.specs.declared.column.ColKind.TheVariants as kind
use Rattle.sea_cell.specs.declared.column.NewColumn.{NewColumn}
use Rattle.sea_operation.specs.declared.operation.NamedCell.{NamedCell}
use Rattle.sea_operation.specs.declared.operation.NewFilter.{NewFilter}
use Rattle.sea_operation.specs.declared.operation.NewView.{NewView}
use Rattle.sea_operation.specs.declared.operation.Op.{Op}
use Rattle.sea_operation.specs.declared.operation.Op.TheVariants as op
use Rattle.sea_operation.specs.declared.operation.OpRow.{OpRow}
use Rattle.sea_operation.specs.declared.operation.RowChange.{RowChange}

-- ---- members

-- how many members there are
abbrev pub count_of : Members → ℕ
count_of no_members = 0
count_of (member _ _ members) = count_of members + 1

-- an object with this many members
abbrev pub has_members : ℕ → Data → Bool
has_members count json = option_map_or (λ members. count_of members == count) (as_object json) false

-- the text under a name
abbrev pub text_at : List ℕ → Data → Option (List ℕ)
text_at name json = option_and_then as_str (get name json)

-- the array under a name
abbrev pub items_at : List ℕ → Data → Option Items
items_at name json = option_and_then as_array (get name json)

-- the texts of the array under a name, which has nothing but texts
abbrev pub texts_at : List ℕ → Data → Option (List (List ℕ))
texts_at name json = option_and_then texts_of (items_at name json)

-- what each item of an array is, if each is something
abbrev pub each_of : {X : Type 0} → (Data → Option X) → Items → Option (List X)
each_of f no_items = Some []
each_of f (item json items) = option_and_then (λ x. option_map (λ xs. x ∷ xs) (each_of f items)) (f json)

-- what each item of the array under a name is
abbrev pub each_at : {X : Type 0} → (Data → Option X) → List ℕ → Data → Option (List X)
each_at f name json = option_and_then (each_of f) (items_at name json)

-- an id
abbrev pub row_id : List ℕ → RowId
row_id text = record { 0 = text }

-- the ids of the array under a name
abbrev pub ids_at : List ℕ → Data → Option (List RowId)
ids_at name json = option_map (map row_id) (texts_at name json)

-- one member more where there is one of this name
abbrev pub count_at : List ℕ → Data → ℕ
count_at name json = if is_some (get name json) then 1 else 0

-- ---- columns

-- the unit of a number column, which may be left out
abbrev pub unit_of : Option Data → Option (List ℕ)
unit_of None = Some []
unit_of (Some json) = as_str json

-- the options of a select column, which may be left out
abbrev pub options_of : Option Data → Option (List (List ℕ))
options_of None = Some []
options_of (Some json) = option_and_then texts_of (as_array json)

-- a column of a name and a type, and nothing more
abbrev pub plain_column : ColKind → List ℕ → NewColumn
plain_column kind name = record { name = name; kind = kind; unit = []; options = []; other = None }

-- a number column
abbrev pub number_column : List ℕ → List ℕ → NewColumn
number_column name unit = record { name = name; kind = kind.Number; unit = unit; options = []; other = None }

-- a select column
abbrev pub select_column : ColKind → List ℕ → List (List ℕ) → NewColumn
select_column kind name options = record { name = name; kind = kind; unit = []; options = options; other = None }

-- a link column, with the other table and the name of the column there
abbrev pub link_column : List ℕ → List ℕ → List ℕ → NewColumn
link_column name table other = record { name = name; kind = kind.Link; unit = []; options = []; other = Some (record { table = table; name = other }) }

-- `name` and `type`, and no more
abbrev pub plain_of : ColKind → Data → List ℕ → Option NewColumn
plain_of kind json name = if has_members 2 json then Some (plain_column kind name) else None

-- these two, and maybe a `unit`
abbrev pub number_of : Data → List ℕ → Option NewColumn
number_of json name = if has_members (2 + count_at (codes "unit") json) json then option_map (number_column name) (unit_of (get (codes "unit") json)) else None

-- these two, and maybe `options`
abbrev pub select_of : ColKind → Data → List ℕ → Option NewColumn
select_of kind json name = if has_members (2 + count_at (codes "options") json) json then option_map (select_column kind name) (options_of (get (codes "options") json)) else None

-- these two, `other` and `other_name`
abbrev pub link_of : Data → List ℕ → Option NewColumn
link_of json name = if has_members 4 json then option_and_then (λ table. option_map (link_column name table) (text_at (codes "other_name") json)) (text_at (codes "other") json) else None

-- what a column object of this type and name is
unfoldable pub column_of_kind : ColKind → Data → List ℕ → Option NewColumn
column_of_kind kind.Number json name = number_of json name
column_of_kind kind.Select json name = select_of kind.Select json name
column_of_kind kind.Multi json name = select_of kind.Multi json name
column_of_kind kind.Link json name = link_of json name
column_of_kind other json name = plain_of other json name

-- the column that an object is
abbrev pub column_of_json : Data → Option NewColumn
column_of_json json = option_and_then (λ kind. option_and_then (column_of_kind kind json) (text_at (codes "name") json)) (option_and_then kind_of (text_at (codes "type") json))

-- ---- rows

-- the cells of a row: its members but for the id
abbrev pub cells_of_members : Members → List NamedCell
cells_of_members no_members = []
cells_of_members (member name json members) =
    if bytes_eq (codes "_id") name then cells_of_members members else record { name = name; word = word_of json } ∷ cells_of_members members

-- a row with the id that is given, which has to be a text
abbrev pub row_with_id : List NamedCell → Option Data → Option OpRow
row_with_id cells None = Some (record { id = None; cells = cells })
row_with_id cells (Some id) = option_map (λ text. record { id = Some text; cells = cells }) (as_str id)

abbrev pub row_of_json : Data → Option OpRow
row_of_json json = option_and_then (λ members. row_with_id (cells_of_members members) (get_member (codes "_id") members)) (as_object json)

-- a row with an id, as the change of the row that has it
abbrev pub change_of_row : OpRow → Option RowChange
change_of_row row = option_map (λ id. record { id = row_id id; cells = row.cells }) row.id

abbrev pub change_of_json : Data → Option RowChange
change_of_json json = option_and_then change_of_row (row_of_json json)

-- ---- views

-- And is all of the filters, Or any of them
abbrev pub conjunction_of : List ℕ → Option Bool
conjunction_of text = if bytes_eq text (codes "And") then Some true else (if bytes_eq text (codes "Or") then Some false else None)

abbrev pub new_filter : List ℕ → List ℕ → Data → NewFilter
new_filter column predicate term = record { column = column; predicate = predicate; term = word_of term }

-- `column`, `predicate` and `term`; any text may be the predicate, and anything the term
abbrev pub filter_of_json : Data → Option NewFilter
filter_of_json json = if has_members 3 json then option_and_then (λ column. option_and_then (λ predicate. option_map (new_filter column predicate) (get (codes "term") json)) (text_at (codes "predicate") json)) (text_at (codes "column") json) else None

abbrev pub new_view : List ℕ → Bool → List NewFilter → NewView
new_view name all filters = record { name = name; all = all; filters = filters }

-- `name`, `conjunction` and `filters`
abbrev pub view_of_json : Data → Option NewView
view_of_json json = if has_members 3 json then option_and_then (λ name. option_and_then (λ all. option_map (new_view name all) (each_at filter_of_json (codes "filters") json)) (option_and_then conjunction_of (text_at (codes "conjunction") json))) (text_at (codes "name") json) else None

-- ---- operations

-- a type of which the first column of a table may be
abbrev pub may_be_first : ColKind → Bool
may_be_first kind.Text = true
may_be_first kind.Number = true
may_be_first kind.Date = true
may_be_first kind.Select = true
may_be_first _ = false

-- a link column
abbrev pub is_link : ColKind → Bool
is_link kind.Link = true
is_link _ = false

-- the columns of a new table: at least one, the first of a type that may be it, and no link
abbrev pub make_table : List NewColumn → Bool
make_table [] = false
make_table (column ∷ columns) = may_be_first column.kind && list_all (λ other. not (is_link other.kind)) columns

-- a column that leads to no table, or to another than its own
abbrev pub leads_away : List ℕ → NewColumn → Bool
leads_away table column = option_map_or (λ end. not (bytes_eq end.table table)) column.other true

-- what passes a test
abbrev pub where_ : {X : Type 0} → (X → Bool) → X → Option X
where_ test x = if test x then Some x else None

unfoldable pub insert_table_of : Data → List ℕ → Option Op
insert_table_of json table = if has_members 3 json then option_map (op.InsertTable table) (option_and_then (where_ make_table) (each_at column_of_json (codes "columns") json)) else None

unfoldable pub rename_table_of : Data → List ℕ → Option Op
rename_table_of json table = if has_members 3 json then option_map (op.RenameTable table) (text_at (codes "to") json) else None

unfoldable pub delete_table_of : Data → List ℕ → Option Op
delete_table_of json table = if has_members 2 json then Some (op.DeleteTable table) else None

unfoldable pub insert_column_of : Data → List ℕ → Option Op
insert_column_of json table = if has_members 3 json then option_map (op.InsertColumn table) (option_and_then (where_ (leads_away table)) (option_and_then column_of_json (get (codes "column") json))) else None

unfoldable pub rename_column_of : Data → List ℕ → Option Op
rename_column_of json table = if has_members 4 json then option_and_then (λ column. option_map (op.RenameColumn table column) (text_at (codes "to") json)) (text_at (codes "column") json) else None

unfoldable pub delete_column_of : Data → List ℕ → Option Op
delete_column_of json table = if has_members 3 json then option_map (op.DeleteColumn table) (text_at (codes "column") json) else None

unfoldable pub add_options_of : Data → List ℕ → Option Op
add_options_of json table = if has_members 4 json then option_and_then (λ column. option_map (op.AddOptions table column) (texts_at (codes "options") json)) (text_at (codes "column") json) else None

unfoldable pub append_rows_of : Data → List ℕ → Option Op
append_rows_of json table = if has_members 3 json then option_map (op.AppendRows table) (each_at row_of_json (codes "rows") json) else None

unfoldable pub modify_rows_of : Data → List ℕ → Option Op
modify_rows_of json table = if has_members 3 json then option_map (op.ModifyRows table) (each_at change_of_json (codes "rows") json) else None

unfoldable pub delete_rows_of : Data → List ℕ → Option Op
delete_rows_of json table = if has_members 3 json then option_map (op.DeleteRows table) (ids_at (codes "ids") json) else None

unfoldable pub add_link_of : Data → List ℕ → Option Op
add_link_of json table = if has_members 5 json then option_and_then (λ column. option_and_then (λ row. option_map (op.AddLink table column (row_id row)) (ids_at (codes "others") json)) (text_at (codes "row") json)) (text_at (codes "column") json) else None

unfoldable pub remove_link_of : Data → List ℕ → Option Op
remove_link_of json table = if has_members 5 json then option_and_then (λ column. option_and_then (λ row. option_map (op.RemoveLink table column (row_id row)) (ids_at (codes "others") json)) (text_at (codes "row") json)) (text_at (codes "column") json) else None

unfoldable pub insert_view_of : Data → List ℕ → Option Op
insert_view_of json table = if has_members 3 json then option_map (op.InsertView table) (option_and_then view_of_json (get (codes "view") json)) else None

unfoldable pub modify_view_of : Data → List ℕ → Option Op
modify_view_of json table = if has_members 3 json then option_map (op.ModifyView table) (option_and_then view_of_json (get (codes "view") json)) else None

unfoldable pub delete_view_of : Data → List ℕ → Option Op
delete_view_of json table = if has_members 3 json then option_map (op.DeleteView table) (text_at (codes "view") json) else None

-- an operation on views by its name
unfoldable pub view_op : List ℕ → Data → List ℕ → Option Op
view_op word json table =
    if bytes_eq word (codes "insert_view") then insert_view_of json table
    else (if bytes_eq word (codes "modify_view") then modify_view_of json table
    else (if bytes_eq word (codes "delete_view") then delete_view_of json table
    else None))

-- one on links, or one of those above
unfoldable pub link_op : List ℕ → Data → List ℕ → Option Op
link_op word json table =
    if bytes_eq word (codes "add_link") then add_link_of json table
    else (if bytes_eq word (codes "remove_link") then remove_link_of json table
    else view_op word json table)

-- one on rows, or one of those above
unfoldable pub row_op : List ℕ → Data → List ℕ → Option Op
row_op word json table =
    if bytes_eq word (codes "append_rows") then append_rows_of json table
    else (if bytes_eq word (codes "modify_rows") then modify_rows_of json table
    else (if bytes_eq word (codes "delete_rows") then delete_rows_of json table
    else link_op word json table))

-- one on columns, or one of those above
unfoldable pub column_op : List ℕ → Data → List ℕ → Option Op
column_op word json table =
    if bytes_eq word (codes "insert_column") then insert_column_of json table
    else (if bytes_eq word (codes "rename_column") then rename_column_of json table
    else (if bytes_eq word (codes "delete_column") then delete_column_of json table
    else (if bytes_eq word (codes "add_options") then add_options_of json table
    else row_op word json table)))

-- one on tables, or one of those above
unfoldable pub table_op : List ℕ → Data → List ℕ → Option Op
table_op word json table =
    if bytes_eq word (codes "insert_table") then insert_table_of json table
    else (if bytes_eq word (codes "rename_table") then rename_table_of json table
    else (if bytes_eq word (codes "delete_table") then delete_table_of json table
    else column_op word json table))

-- The operation that a JSON value is: each names itself and its table.
abbrev pub op_of_json : Data → Option Op
op_of_json json = option_and_then (λ word. option_and_then (table_op word json) (text_at (codes "table") json)) (text_at (codes "op") json)

-- the operation that a text is, which has to be UTF-8
abbrev pub op_of : List ℕ → Option Op
op_of text = if is_utf8 text then option_and_then op_of_json (read text) else None
