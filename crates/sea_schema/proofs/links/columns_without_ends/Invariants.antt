use Rattle.std.proofs.Common.{◌≡◌, ◌++◌, drop, filter}
use Rattle.sea_schema.specs.Tables.{is_of_no_link}
use Rattle.sea_schema.proofs.links.columns_without_ends.Given as goal

-- what is kept so far and of what is left is kept of all
abbrev pub invariant-loop-column : goal.invariant-loop-column
invariant-loop-column l = l.kept ++ filter (is_of_no_link l.links) (drop l.column-index l.columns) ≡ filter (is_of_no_link l.links) l.columns
