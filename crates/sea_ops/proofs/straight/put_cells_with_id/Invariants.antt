use Rattle.std.proofs.Common.{◌≡◌, ◌++◌, true, drop}
use Rattle.sea_ops.specs.Straight.{members_left, tokens_of_members}
use Rattle.sea_ops.proofs.straight.put_cells_with_id.Given as goal

abbrev pub invariant-loop-cell : goal.invariant-loop-cell
invariant-loop-cell l = (l.out.before ≡ l.initial.out.before) × (l.out.tokens ++ tokens_of_members (members_left l.pending l.id (drop l.cell-index l.cells)) ≡ l.initial.out.tokens ++ tokens_of_members (members_left true l.id l.cells))
