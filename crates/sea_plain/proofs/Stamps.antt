-- New rows that are stamped with a moment are those that are made at it.
use Rattle.std.proofs.Common.{◌≡◌, ℕ, ◌+◌, List, [], ◌∷◌, map, refl, ap}
use Rattle.sea_cell.specs.declared.row.Row.{Row}
use Rattle.sea_cell.specs.declared.keys.Moment.{Moment}
use Rattle.sea_cell.specs.declared.column.Column.{Column}
use Rattle.sea_operation.specs.declared.operation.OpRow.{OpRow}
use Rattle.sea_operation.specs.RowsOf.{row_of, rows_of, stamped}

pub stamped_are_made : (columns : List Column) (one other : Moment) (number : ℕ) (rows : List OpRow) → map (stamped other) (rows_of columns one number rows) ≡ rows_of columns other number rows
stamped_are_made columns one other number [] = refl
stamped_are_made columns one other number (row ∷ rows) = ap (λ (rest : List Row). row_of columns other number row ∷ rest) (stamped_are_made columns one other (number + 1) rows)
