use Rattle.std.proofs.Common.{◌≡◌, map, take}
use Rattle.sea_cell.specs.Cells.{cell_in}
use Rattle.sea_drive.proofs.select.cells_of_row.Given as goal

abbrev pub invariant-loop-column : goal.invariant-loop-column
invariant-loop-column l = l.cells ≡ map (cell_in l.row) (take l.column-index l.columns)
