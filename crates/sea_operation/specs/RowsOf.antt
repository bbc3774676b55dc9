-- The rows that an operation makes, changes and takes away.
use Rattle.std.specs.Prelude.{ℕ, ◌+◌, List, [], ◌∷◌, fold, decimal, Bool, not, Option, Some, None, Result, Ok, Err, unwrap_or}
use Rattle.std.specs.List.{find}
use Rattle.std.specs.Str.{bytes_eq}
use Rattle.sea_text.specs.Distinct.{is_among}
use Rattle.sea_cell.specs.Cells.{with_cell}
use Rattle.sea_cell.specs.Conversion.{cell_of}
use Rattle.sea_cell.specs.declared.keys.ColKey.{ColKey}
use Rattle.sea_cell.specs.declared.keys.Moment.{Moment}
use Rattle.sea_cell.specs.declared.column.Column.{Column}
use Rattle.sea_cell.specs.declared.values.CellValue.{CellValue}
use Rattle.sea_cell.specs.declared.values.CellValue.TheVariants.{Empty}
use Rattle.sea_cell.specs.declared.conversion.CellFault.{CellFault}
use Rattle.sea_cell.specs.declared.row.Cell.{Cell}
use Rattle.sea_cell.specs.declared.row.Row.{Row}
use Rattle.sea_schema.specs.Tables.{column_named}
use Rattle.sea_operation.specs.declared.operation.NamedCell.{NamedCell}
use Rattle.sea_operation.specs.declared.operation.OpRow.{OpRow}
use Rattle.sea_operation.specs.declared.operation.RowChange.{RowChange}

-- the id of a new row: the one that is given, or `r` and the row's number in decimal
abbrev pub id_of : ℕ → OpRow → List ℕ
id_of number row = unwrap_or row.id (114 ∷ decimal number)

-- the ids of new rows that are numbered from here
abbrev pub ids_of : ℕ → List OpRow → List (List ℕ)
ids_of number [] = []
ids_of number (row ∷ rows) = id_of number row ∷ ids_of (number + 1) rows

-- the cells with what a member of an operation's row makes under its column
abbrev pub with_value : List Cell → ColKey → Result CellValue CellFault → List Cell
with_value cells key (Ok value) = with_cell cells key value
with_value cells key (Err _) = cells

abbrev pub with_found : List Cell → NamedCell → Option Column → List Cell
with_found cells member None = cells
with_found cells member (Some column) = with_value cells column.key (cell_of column member.word)

abbrev pub with_member : List Column → List Cell → NamedCell → List Cell
with_member columns cells member = with_found cells member (column_named columns member.name)

-- the cells of a new row, from the members of an operation's row
abbrev pub cells_of : List Column → List NamedCell → List Cell
cells_of columns members = fold (with_member columns) [] members

-- a new row: it was made and last changed when the operation was
abbrev pub row_of : List Column → Moment → ℕ → OpRow → Row
row_of columns moment number row = record { id = record { 0 = id_of number row }; number = number; made = moment; changed = moment; cells = cells_of columns row.cells }

-- new rows that are numbered from here
abbrev pub rows_of : List Column → Moment → ℕ → List OpRow → List Row
rows_of columns moment number [] = []
rows_of columns moment number (row ∷ rows) = row_of columns moment number row ∷ rows_of columns moment (number + 1) rows

-- a row that was made and last changed at a moment
abbrev pub stamped : Moment → Row → Row
stamped moment row = record row { made = moment; changed = moment }

-- the change of a row: given cells are replaced, and it was last changed when the operation was made
abbrev pub changed_row : List Column → Moment → RowChange → Row → Row
changed_row columns moment change row = record row { changed = moment; cells = fold (with_member columns) row.cells change.cells }

-- a change that is there
abbrev pub with_change : List Column → Moment → Option RowChange → Row → Row
with_change columns moment None row = row
with_change columns moment (Some change) row = changed_row columns moment change row

-- the change of the row of an id
abbrev pub change_of : List RowChange → List ℕ → Option RowChange
change_of changes id = find (λ change. bytes_eq change.id.0 id) changes

-- a row after an operation's changes of rows: as it was, unless one of them is its own
abbrev pub after_changes : List Column → Moment → List RowChange → Row → Row
after_changes columns moment changes row = with_change columns moment (change_of changes row.id.0) row

-- a row without its cell under a key
abbrev pub without_cell : Option ColKey → Row → Row
without_cell None row = row
without_cell (Some key) row = record row { cells = with_cell row.cells key Empty }

-- another row than those of some ids
abbrev pub has_other_id : List (List ℕ) → Row → Bool
has_other_id ids row = not (is_among ids row.id.0)
