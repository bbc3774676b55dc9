use Rattle.std.proofs.Common.{◌≡◌, ◌≤◌, length, drop}
use Rattle.sea_ops.specs.Straight.{are_in_order}
use Rattle.sea_ops.proofs.straight.are_in_order.Given as goal

abbrev pub invariant-loop-at : goal.invariant-loop-at
invariant-loop-at l = (l.at ≤ length l.cells) × (are_in_order (drop l.at l.cells) ≡ are_in_order l.cells)
