use Rattle.std.proofs.Common.{◌≡◌, map, take}
use Rattle.sea_operation.specs.RowsOf.{without_cell}
use Rattle.sea_plain.proofs.changed.rows_without_cell.Given as goal

abbrev pub invariant-loop-row : goal.invariant-loop-row
invariant-loop-row l = l.new ≡ map (without_cell l.key) (take l.row-index l.rows)
