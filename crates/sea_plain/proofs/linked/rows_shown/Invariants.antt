use Rattle.std.proofs.Common.{◌≡◌, map, take}
use Rattle.sea_plain.specs.Linked.{row_shown}
use Rattle.sea_plain.proofs.linked.rows_shown.Given as goal

abbrev pub invariant-loop-row : goal.invariant-loop-row
invariant-loop-row l = l.shown ≡ map (row_shown l.pairs l.columns) (take l.row-index l.rows)
