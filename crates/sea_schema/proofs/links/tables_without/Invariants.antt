use Rattle.std.proofs.Common.{◌≡◌, map, take}
use Rattle.sea_schema.specs.Tables.{without_links}
use Rattle.sea_schema.proofs.links.tables_without.Given as goal

abbrev pub invariant-loop-table : goal.invariant-loop-table
invariant-loop-table l = l.new ≡ map (without_links l.links) (take l.table-index l.tables)
