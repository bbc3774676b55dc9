use Rattle.std.proofs.Common.{◌≡◌, drop}
use Rattle.sea_operation.specs.Refusal.{first_at, many_options}
use Rattle.sea_refusal.proofs.limits.many_options_of_columns.Given as goal

abbrev pub invariant-loop-column : goal.invariant-loop-column
invariant-loop-column l = first_at (λ column. many_options column.options) (drop l.column-index l.columns) ≡ first_at (λ column. many_options column.options) l.columns
