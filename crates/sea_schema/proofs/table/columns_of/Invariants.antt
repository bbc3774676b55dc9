use Rattle.std.proofs.Common.{◌≡◌, ◌+◌, ◌++◌, drop}
use Rattle.sea_schema.specs.Tables.{columns_of}
use Rattle.sea_schema.proofs.table.columns_of.Given as goal

abbrev pub invariant-loop-column : goal.invariant-loop-column
invariant-loop-column l = (l.next ≡ l.key + l.column-index) × (l.made ++ columns_of l.next (drop l.column-index l.columns) ≡ columns_of l.key l.columns)
