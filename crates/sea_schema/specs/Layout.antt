-- The tables of a base without their rows, the numbers that come next, and how they are changed.
use Rattle.std.specs.Prelude.{ℕ, ◌+◌, List, [], ◌∷◌, ◌++◌, map, filter, length, Bool, true, false, not, if◌then◌else◌, Option, Some, None}
use Rattle.std.specs.Option.{option_map_or}
use Rattle.std.specs.Str.{bytes_eq}
use Rattle.sea_cell.specs.declared.column.LinkEnd.{LinkEnd}
use Rattle.sea_cell.specs.declared.column.NewColumn.{NewColumn}
use Rattle.sea_cell.specs.declared.column.NewEnd.{NewEnd}
use Rattle.sea_schema.specs.declared.table.Table.{Table}
use Rattle.sea_schema.specs.Tables.{table_named, table_of, with_column, without_column, with_link_column, links_of, links_named, without_links}

-- What contracts see of a schema: its tables in order of number, and the numbers that come next.
pub record Layout : Type 0 where
  pub tables : List Table
  pub next_table : ℕ
  pub next_column : ℕ
  pub next_link : ℕ

-- no tables, and each number begins at 1
abbrev pub empty_layout : Layout
empty_layout = record { tables = []; next_table = 1; next_column = 1; next_link = 1 }

-- a change of the table of a name, if it is that one
abbrev pub if_table : List ℕ → (Table → Table) → Table → Table
if_table name change table = if bytes_eq table.name name then change table else table

-- a change of the table of a name
abbrev pub in_table : List ℕ → (Table → Table) → Layout → Layout
in_table name change layout = record layout { tables = map (if_table name change) layout.tables }

-- one table more, at the end, with the number that comes next, and its columns with the keys that come next
abbrev pub with_table : List ℕ → List NewColumn → Layout → Layout
with_table name columns layout = record layout {
  tables = layout.tables ++ table_of layout.next_table layout.next_column name columns ∷ [];
  next_table = layout.next_table + 1;
  next_column = layout.next_column + length columns;
}

-- a table of another name
abbrev pub is_other_table : List ℕ → Table → Bool
is_other_table name table = not (bytes_eq table.name name)

-- a table goes, and its number is not given again
abbrev pub without_table : List ℕ → Layout → Layout
without_table name layout = record layout { tables = filter (is_other_table name) layout.tables }

-- ---- columns that are added, and links

-- one column more at the end of a table, no link column, with the key that comes next
abbrev pub with_plain_column : List ℕ → NewColumn → Layout → Layout
with_plain_column table column layout = record (in_table table (with_column layout.next_column column) layout) { next_column = layout.next_column + 1 }

-- the number of the table of a name (0, which no table has, where there is none)
abbrev pub number_named : List Table → List ℕ → ℕ
number_named tables name = option_map_or (λ table. table.no.0) (table_named tables name) 0

-- an end of the link that comes next, whose other end is in the table of a name
abbrev pub end_towards : List ℕ → Bool → Layout → LinkEnd
end_towards other is_first layout = record { link = layout.next_link; table = record { 0 = number_named layout.tables other }; first = is_first }

-- a link between two tables: the named side takes the key that comes next and is the first, the other side takes the key
-- after it
abbrev pub with_link : List ℕ → List ℕ → NewEnd → Layout → Layout
with_link table name other layout = record
    (in_table other.table (with_link_column (layout.next_column + 1) other.name (end_towards table false layout))
    (in_table table (with_link_column layout.next_column name (end_towards other.table true layout)) layout))
    { next_column = layout.next_column + 2; next_link = layout.next_link + 1 }

-- one column more at the end of a table, as a link column where it is to have another side
abbrev pub with_new_column_towards : Option NewEnd → List ℕ → NewColumn → Layout → Layout
with_new_column_towards None table column layout = with_plain_column table column layout
with_new_column_towards (Some other) table column layout = with_link table column.name other layout

abbrev pub with_new_column : List ℕ → NewColumn → Layout → Layout
with_new_column table column layout = with_new_column_towards column.other table column layout

-- how many keys a new column takes: a link column has a column on each side
abbrev pub keys_of_new : Option NewEnd → ℕ
keys_of_new None = 1
keys_of_new (Some other) = 2

-- how many links a new column makes
abbrev pub links_of_new : Option NewEnd → ℕ
links_of_new None = 0
links_of_new (Some other) = 1

-- ---- columns and tables that go, and their links with them

-- the links that end in the column of a name of the table of a name
abbrev pub links_of_column : List ℕ → List ℕ → List Table → List ℕ
links_of_column table column tables = option_map_or (λ found. links_named column found.columns) (table_named tables table) []

-- the links that end in the table of a name
abbrev pub links_of_table : List ℕ → List Table → List ℕ
links_of_table table tables = option_map_or (λ found. links_of found.columns) (table_named tables table) []

-- no table has an end of these links
abbrev pub without_ends : List ℕ → Layout → Layout
without_ends links layout = record layout { tables = map (without_links links) layout.tables }

-- a column of a table goes, and where it is an end of a link the other end goes too
abbrev pub without_column_of : List ℕ → List ℕ → Layout → Layout
without_column_of table column layout = without_ends (links_of_column table column layout.tables) (in_table table (without_column column) layout)

-- a table goes, and of its links the other ends go too
abbrev pub without_table_of : List ℕ → Layout → Layout
without_table_of table layout = without_ends (links_of_table table layout.tables) (without_table table layout)
