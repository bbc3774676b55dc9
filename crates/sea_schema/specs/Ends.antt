-- Where links end among tables: what the changes of links do, in other words.
use Rattle.std.specs.Prelude.{ℕ, ◌&&◌, ◌==◌, List, filter, length, Bool, false, not, if◌then◌else◌}
use Rattle.std.specs.List.{list_any, flat_map}
use Rattle.std.specs.Option.{option_map_or}
use Rattle.std.specs.Str.{bytes_eq}
use Rattle.sea_cell.specs.declared.column.Column.{Column}
use Rattle.sea_schema.specs.declared.table.Table.{Table}
use Rattle.sea_schema.specs.Tables.{has_name, is_end_of}

-- a table of this name
abbrev pub is_named : List ℕ → Table → Bool
is_named name table = bytes_eq table.name name

-- how many tables have this name
abbrev pub count_named : List ℕ → List Table → ℕ
count_named name tables = length (filter (is_named name) tables)

-- the columns of all tables
abbrev pub columns_of_all : List Table → List Column
columns_of_all tables = flat_map (λ table. table.columns) tables

-- some column of the tables is an end of one of these links
abbrev pub have_ends : List ℕ → List Table → Bool
have_ends links tables = list_any (is_end_of links) (columns_of_all tables)

-- a column that is the first end of this link, or its other end
abbrev pub is_end_on : ℕ → Bool → Column → Bool
is_end_on link is_first column = option_map_or (λ end. (end.link == link) && (if is_first then end.first else not end.first)) column.other false

-- how many first ends, or other ends, of a link the tables have
abbrev pub count_ends : ℕ → Bool → List Table → ℕ
count_ends link is_first tables = length (filter (is_end_on link is_first) (columns_of_all tables))

-- some table of this name has a column of this name
abbrev pub have_column : List ℕ → List ℕ → List Table → Bool
have_column table column tables = list_any (has_name column) (columns_of_all (filter (is_named table) tables))

-- a filter of some view asks for the cells of the column of this key
abbrev pub have_filters : ℕ → List Table → Bool
have_filters key tables = list_any (λ table. list_any (λ view. list_any (λ one. one.column.0 == key) view.filters) table.views) tables
