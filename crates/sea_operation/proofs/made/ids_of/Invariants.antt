use Rattle.std.proofs.Common.{◌≡◌, ◌+◌, ◌++◌, map, drop}
use Rattle.sea_operation.specs.RowsOf.{ids_of}
use Rattle.sea_operation.proofs.made.ids_of.Given as goal

abbrev pub invariant-loop-row : goal.invariant-loop-row
invariant-loop-row l = (l.next ≡ l.number + l.row-index) × (map (λ id. id.0) l.ids ++ ids_of l.next (drop l.row-index l.rows) ≡ ids_of l.number l.rows)
