use Rattle.std.proofs.Common.{◌≡◌, drop}
use Rattle.sea_text.specs.Named.{listed}
use Rattle.sea_operation.specs.Refusal.{first_at, large_change}
use Rattle.sea_refusal.proofs.limits.changes_fit_rows.Given as goal

abbrev pub invariant-loop-change : goal.invariant-loop-change
invariant-loop-change l = first_at (large_change l.rows (listed l.columns) l.moment) (drop l.change-index l.changes) ≡ first_at (large_change l.rows (listed l.columns) l.moment) l.changes
