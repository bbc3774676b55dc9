use Rattle.std.proofs.Common.{◌≡◌, ◌++◌, drop, filter}
use Rattle.sea_schema.specs.Tables.{is_of_other}
use Rattle.sea_schema.proofs.table.filters_without.Given as goal

-- what is kept so far and of what is left is kept of all
abbrev pub invariant-loop-filter : goal.invariant-loop-filter
invariant-loop-filter l = l.kept ++ filter (is_of_other l.column) (drop l.filter-index l.filters) ≡ filter (is_of_other l.column) l.filters
