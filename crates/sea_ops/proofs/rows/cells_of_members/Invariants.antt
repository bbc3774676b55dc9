use Rattle.std.proofs.Common.{◌≡◌, ◌++◌}
use Rattle.serde_json.specs.View.{members_view}
use Rattle.sea_ops.specs.Operations.{cells_of_members}
use Rattle.sea_ops.proofs.rows.cells_of_members.Given as goal

-- the cells so far and those of the members that are left are those of all
abbrev pub invariant-loop-name : goal.invariant-loop-name
invariant-loop-name l = l.cells ++ cells_of_members (members_view l.name-iterator) ≡ cells_of_members (members_view l.members.entries)
