use Rattle.std.proofs.Common.{◌≡◌, map, take}
use Rattle.sea_text.specs.Named.{listed}
use Rattle.sea_operation.specs.RowsOf.{after_changes}
use Rattle.sea_plain.proofs.changed.rows_after_changes.Given as goal

abbrev pub invariant-loop-row : goal.invariant-loop-row
invariant-loop-row l = l.new ≡ map (after_changes (listed l.columns) l.moment l.changes) (take l.row-index l.rows)
