use Rattle.std.proofs.Common.{◌≡◌, drop}
use Rattle.sea_text.specs.Named.{listed}
use Rattle.sea_operation.specs.Refusal.{first_at, refused_cell}
use Rattle.sea_refusal.proofs.columns.bad_cell_in_row.Given as goal

abbrev pub invariant-loop-cell : goal.invariant-loop-cell
invariant-loop-cell l = first_at (refused_cell (listed l.columns)) (drop l.cell-index l.cells) ≡ first_at (refused_cell (listed l.columns)) l.cells
