-- Which rows a view selects.
use Rattle.std.specs.Prelude.{◌==◌, List, [], ◌∷◌, map, filter, Bool, true, false, Option}
use Rattle.std.specs.List.{find, list_all, list_any}
use Rattle.std.specs.Option.{option_map_or}
use Rattle.sea_cell.specs.Cells.{cell_in}
use Rattle.sea_cell.specs.declared.row.Row.{Row}
use Rattle.sea_cell.specs.declared.keys.ColKey.{ColKey}
use Rattle.sea_cell.specs.declared.keys.RowId.{RowId}
use Rattle.sea_cell.specs.declared.column.Column.{Column}
use Rattle.sea_cell.specs.declared.view.Filter.{Filter}
use Rattle.sea_cell.specs.declared.view.View.{View}
use Rattle.sea_filter.specs.Comparison.{met}

-- the column of a key
abbrev pub column_of : List Column → ColKey → Option Column
column_of columns key = find (λ column. column.key.0 == key.0) columns

-- a row meets a filter by its cell under the filter's column
abbrev pub meets_filter : List Column → Row → Filter → Bool
meets_filter columns row filter = option_map_or (λ column. met filter.test (cell_in row column) filter.term) (column_of columns filter.column) false

-- all filters are met, or any of them is
abbrev pub meets_filters : Bool → List Column → Row → List Filter → Bool
meets_filters true columns row filters = list_all (meets_filter columns row) filters
meets_filters false columns row filters = list_any (meets_filter columns row) filters

-- A row is one that a view selects. A view without filters selects all rows.
abbrev pub meets_these : Bool → List Column → Row → List Filter → Bool
meets_these all columns row [] = true
meets_these all columns row (filter ∷ filters) = meets_filters all columns row (filter ∷ filters)

abbrev pub meets : View → List Column → Row → Bool
meets view columns row = meets_these view.all columns row view.filters

-- the ids of the rows that a view selects, in their order
abbrev pub selected : View → List Column → List Row → List RowId
selected view columns rows = map (λ row. row.id) (filter (meets view columns) rows)
