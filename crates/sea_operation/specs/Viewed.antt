-- The views that operations put into tables.
use Rattle.std.specs.Prelude.{List, Option, option_map, option_and_then}
use Rattle.std.specs.List.{filter_map}
use Rattle.sea_cell.specs.Predicates.{test_of, term_of}
use Rattle.sea_cell.specs.declared.column.Column.{Column}
use Rattle.sea_cell.specs.declared.view.Filter.{Filter}
use Rattle.sea_cell.specs.declared.view.Test.{Test}
use Rattle.sea_cell.specs.declared.view.View.{View}
use Rattle.sea_cell.specs.declared.words.CellWord.{CellWord}
use Rattle.sea_schema.specs.Tables.{column_named}
use Rattle.sea_operation.specs.declared.operation.NewFilter.{NewFilter}
use Rattle.sea_operation.specs.declared.operation.NewView.{NewView}

-- a filter of a column by a test, where its term fits
abbrev pub filter_by : Column → CellWord → Test → Option Filter
filter_by column word test = option_map (λ term. record { column = column.key; test = test; term = term }) (term_of column.kind test word)

-- a filter, where its predicate is one for its column and its term fits
abbrev pub filter_of : List Column → NewFilter → Option Filter
filter_of columns new = option_and_then (λ column. option_and_then (filter_by column new.term) (test_of new.predicate)) (column_named columns new.column)

-- a view of a table with these columns, with those of its filters that fit
abbrev pub view_of : List Column → NewView → View
view_of columns new = record { name = new.name; all = new.all; filters = filter_map (filter_of columns) new.filters }
