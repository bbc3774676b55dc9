use Rattle.std.proofs.Common.{◌≡◌, drop}
use Rattle.sea_operation.specs.Refusal.{first_at, bad_column}
use Rattle.sea_refusal.proofs.naming.bad_columns.Given as goal

abbrev pub invariant-loop-column : goal.invariant-loop-column
invariant-loop-column l = first_at bad_column (drop l.column-index l.columns) ≡ first_at bad_column l.columns
