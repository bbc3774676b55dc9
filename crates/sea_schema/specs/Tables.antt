-- Tables without their rows: how their parts are found by name, and how they are made and changed.
use Rattle.std.specs.Prelude.{ℕ, ◌+◌, ◌==◌, List, [], ◌∷◌, ◌++◌, map, filter, Bool, true, false, not, if◌then◌else◌, Option, Some, None, option_map}
use Rattle.std.specs.List.{find, list_any, filter_map}
use Rattle.std.specs.Option.{option_map_or}
use Rattle.std.specs.Str.{bytes_eq}
use Rattle.sea_text.specs.Distinct.{once}
use Rattle.sea_cell.specs.declared.keys.ColKey.{ColKey}
use Rattle.sea_cell.specs.declared.column.ColKind.TheVariants.{Link}
use Rattle.sea_cell.specs.declared.column.Column.{Column}
use Rattle.sea_cell.specs.declared.column.LinkEnd.{LinkEnd}
use Rattle.sea_cell.specs.declared.column.NewColumn.{NewColumn}
use Rattle.sea_cell.specs.declared.view.Filter.{Filter}
use Rattle.sea_cell.specs.declared.view.View.{View}
use Rattle.sea_schema.specs.declared.table.Table.{Table}

-- ---- found by name

-- the table of a name
abbrev pub table_named : List Table → List ℕ → Option Table
table_named tables name = find (λ table. bytes_eq table.name name) tables

-- the column of a name
abbrev pub column_named : List Column → List ℕ → Option Column
column_named columns name = find (λ column. bytes_eq column.name name) columns

-- the key of the column of a name
abbrev pub key_named : List Column → List ℕ → Option ColKey
key_named columns name = option_map (λ column. column.key) (column_named columns name)

-- the view of a name
abbrev pub view_named : List View → List ℕ → Option View
view_named views name = find (λ view. bytes_eq view.name name) views

-- ---- made

-- A new column, of another type than link. Repeats among its options count once.
abbrev pub column_of : ℕ → NewColumn → Column
column_of key column = record { key = record { 0 = key }; name = column.name; kind = column.kind; unit = column.unit; options = once column.options; other = None }

-- new columns whose keys are given from here
abbrev pub columns_of : ℕ → List NewColumn → List Column
columns_of key [] = []
columns_of key (column ∷ columns) = column_of key column ∷ columns_of (key + 1) columns

-- a new table, without views
abbrev pub table_of : ℕ → ℕ → List ℕ → List NewColumn → Table
table_of number key name columns = record { no = record { 0 = number }; name = name; columns = columns_of key columns; views = [] }

-- ---- changed

-- the table with another name
abbrev pub with_name : List ℕ → Table → Table
with_name to table = record table { name = to }

-- the table with one column more, at the end
abbrev pub with_column : ℕ → NewColumn → Table → Table
with_column key column table = record table { columns = table.columns ++ column_of key column ∷ [] }

-- a change of the column of a name, if it is that one
abbrev pub if_named : List ℕ → (Column → Column) → Column → Column
if_named name change column = if bytes_eq column.name name then change column else column

abbrev pub column_with_name : List ℕ → Column → Column
column_with_name to column = record column { name = to }

-- the table with another name for a column
abbrev pub with_column_name : List ℕ → List ℕ → Table → Table
with_column_name name to table = record table { columns = map (if_named name (column_with_name to)) table.columns }

-- the options that aren't there yet come at the end
abbrev pub column_with_options : List (List ℕ) → Column → Column
column_with_options options column = record column { options = once (column.options ++ options) }

-- the table with more options for a column
abbrev pub with_options : List ℕ → List (List ℕ) → Table → Table
with_options name options table = record table { columns = map (if_named name (column_with_options options)) table.columns }

-- a column of another name
abbrev pub has_other_name : List ℕ → Column → Bool
has_other_name name column = not (bytes_eq column.name name)

-- a filter of another column than this one
abbrev pub is_of_other : Option ColKey → Filter → Bool
is_of_other None it = true
is_of_other (Some key) it = not (it.column.0 == key.0)

-- a view without its filters of a column
abbrev pub without_filters : Option ColKey → View → View
without_filters key view = record view { filters = filter (is_of_other key) view.filters }

-- the table without a column, and without the filters that ask for its cells
abbrev pub without_column : List ℕ → Table → Table
without_column name table = record table {
  columns = filter (has_other_name name) table.columns;
  views = map (without_filters (key_named table.columns name)) table.views;
}

-- a view of this name
abbrev pub is_view : List ℕ → View → Bool
is_view name view = bytes_eq view.name name

-- this view in the place of the one of its name
abbrev pub if_view : View → View → View
if_view new view = if is_view new.name view then new else view

-- the views with this one in the place of the one of its name, else at the end
abbrev pub put_view : View → List View → List View
put_view view views = if list_any (is_view view.name) views then map (if_view view) views else views ++ view ∷ []

-- the table with a view, in the place of the one of its name, else at the end
abbrev pub with_view : View → Table → Table
with_view view table = record table { views = put_view view table.views }

-- a view of another name
abbrev pub is_other_view : List ℕ → View → Bool
is_other_view name view = not (bytes_eq view.name name)

-- the table without a view
abbrev pub without_view : List ℕ → Table → Table
without_view name table = record table { views = filter (is_other_view name) table.views }

-- ---- links

-- one end of a link: a column of this name that says where its other end is
abbrev pub link_column : ℕ → List ℕ → LinkEnd → Column
link_column key name end = record { key = record { 0 = key }; name = name; kind = Link; unit = []; options = []; other = Some end }

-- the table with an end of a link, at the end
abbrev pub with_link_column : ℕ → List ℕ → LinkEnd → Table → Table
with_link_column key name end table = record table { columns = table.columns ++ link_column key name end ∷ [] }

-- the link that ends in a column
abbrev pub link_of : Column → Option ℕ
link_of column = option_map (λ end. end.link) column.other

-- the links that end in these columns
abbrev pub links_of : List Column → List ℕ
links_of columns = filter_map link_of columns

-- a column of this name
abbrev pub has_name : List ℕ → Column → Bool
has_name name column = bytes_eq column.name name

-- the links that end in the column of a name
abbrev pub links_named : List ℕ → List Column → List ℕ
links_named name columns = links_of (filter (has_name name) columns)

-- a link is one of these
abbrev pub is_link_among : List ℕ → ℕ → Bool
is_link_among links link = list_any (λ one. one == link) links

-- a column that is an end of one of these links
abbrev pub is_end_of : List ℕ → Column → Bool
is_end_of links column = option_map_or (is_link_among links) (link_of column) false

-- a column that is an end of none of these links
abbrev pub is_of_no_link : List ℕ → Column → Bool
is_of_no_link links column = not (is_end_of links column)

-- the table without its ends of these links
abbrev pub without_links : List ℕ → Table → Table
without_links links table = record table { columns = filter (is_of_no_link links) table.columns }
