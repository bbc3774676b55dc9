use Rattle.std.proofs.Common.{◌≡◌, drop}
use Rattle.sea_text.specs.Named.{listed}
use Rattle.sea_operation.specs.Refusal.{bad_filter_from}
use Rattle.sea_refusal.proofs.viewing.fit.Given as goal

abbrev pub invariant-loop-filter : goal.invariant-loop-filter
invariant-loop-filter l = (l.index ≡ l.filter-index) × (bad_filter_from l.index (listed l.columns) (drop l.filter-index l.filters) ≡ bad_filter_from 0 (listed l.columns) l.filters)
