use Rattle.std.proofs.Common.{◌≡◌, map, take}
use Rattle.sea_cell.specs.Cells.{cell_in}
use Rattle.sea_drive.proofs.select.cells_of_rows.Given as goal

abbrev pub invariant-loop-row : goal.invariant-loop-row
invariant-loop-row l = l.all ≡ map (λ row. map (cell_in row) l.columns) (take l.row-index l.rows)
