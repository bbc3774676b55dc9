use Rattle.std.proofs.Common.{◌≡◌, drop}
use Rattle.sea_operation.specs.Refusal.{first_at, large_row}
use Rattle.sea_refusal.proofs.limits.large_row_in.Given as goal

abbrev pub invariant-loop-row : goal.invariant-loop-row
invariant-loop-row l = first_at large_row (drop l.row-index l.rows) ≡ first_at large_row l.rows
