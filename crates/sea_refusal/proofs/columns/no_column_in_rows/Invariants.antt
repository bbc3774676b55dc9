use Rattle.std.proofs.Common.{◌≡◌, drop, map}
use Rattle.sea_text.specs.Named.{listed}
use Rattle.sea_operation.specs.Refusal.{first_at, missing_member}
use Rattle.sea_refusal.proofs.columns.no_column_in_rows.Given as goal

abbrev pub invariant-loop-row : goal.invariant-loop-row
invariant-loop-row g l = first_at (λ cells. first_at (missing_member (listed l.columns)) cells) (map g.R.WritesCells.cells (drop l.row-index l.rows)) ≡ first_at (λ cells. first_at (missing_member (listed l.columns)) cells) (map g.R.WritesCells.cells l.rows)
