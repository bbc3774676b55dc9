use Rattle.std.proofs.Common.{◌≡◌, ◌++◌, map}
use Rattle.std.specs.Vec.Iter.{into_iter_items}
use Rattle.sea_operation.specs.RowsOf.{stamped}
use Rattle.sea_operation.proofs.made.stamped_rows.Given as goal

abbrev pub invariant-loop-row : goal.invariant-loop-row
invariant-loop-row l = l.shared.items ++ map (stamped l.moment) (into_iter_items l.row-iterator) ≡ map (stamped l.moment) (into_iter_items l.initial.row-iterator)
