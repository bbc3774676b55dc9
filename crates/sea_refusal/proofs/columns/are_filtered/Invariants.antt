use Rattle.std.proofs.Common.{◌≡◌, drop}
use Rattle.sea_text.specs.Named.{listed}
use Rattle.sea_operation.specs.Refusal.{first_at, missing_filtered}
use Rattle.sea_refusal.proofs.columns.are_filtered.Given as goal

abbrev pub invariant-loop-filter : goal.invariant-loop-filter
invariant-loop-filter l = first_at (missing_filtered (listed l.columns)) (drop l.filter-index l.filters) ≡ first_at (missing_filtered (listed l.columns)) l.filters
