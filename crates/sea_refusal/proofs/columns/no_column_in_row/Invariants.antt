use Rattle.std.proofs.Common.{◌≡◌, drop}
use Rattle.sea_text.specs.Named.{listed}
use Rattle.sea_operation.specs.Refusal.{first_at, missing_member}
use Rattle.sea_refusal.proofs.columns.no_column_in_row.Given as goal

abbrev pub invariant-loop-cell : goal.invariant-loop-cell
invariant-loop-cell l = first_at (missing_member (listed l.columns)) (drop l.cell-index l.cells) ≡ first_at (missing_member (listed l.columns)) l.cells
