use Rattle.std.proofs.Common.{◌≡◌, drop, option_and_then}
use Rattle.sea_operation.specs.Refusal.{first_at, bad_id}
use Rattle.sea_refusal.proofs.naming.bad_row_id.Given as goal

abbrev pub invariant-loop-row : goal.invariant-loop-row
invariant-loop-row l = first_at (λ row. option_and_then bad_id row.id) (drop l.row-index l.rows) ≡ first_at (λ row. option_and_then bad_id row.id) l.rows
