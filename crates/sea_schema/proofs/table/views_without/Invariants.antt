use Rattle.std.proofs.Common.{◌≡◌, map, take}
use Rattle.sea_schema.specs.Tables.{without_filters}
use Rattle.sea_schema.proofs.table.views_without.Given as goal

abbrev pub invariant-loop-view : goal.invariant-loop-view
invariant-loop-view l = l.new ≡ map (without_filters l.column) (take l.view-index l.views)
