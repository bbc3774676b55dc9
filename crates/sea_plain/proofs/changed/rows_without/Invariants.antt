use Rattle.std.proofs.Common.{◌≡◌, ◌++◌, map, drop, filter}
use Rattle.sea_operation.specs.RowsOf.{has_other_id}
use Rattle.sea_plain.proofs.changed.rows_without.Given as goal

-- what is kept so far and of what is left is kept of all
abbrev pub invariant-loop-row : goal.invariant-loop-row
invariant-loop-row l = l.kept ++ filter (has_other_id (map (λ id. id.0) l.ids)) (drop l.row-index l.rows) ≡ filter (has_other_id (map (λ id. id.0) l.ids)) l.rows
