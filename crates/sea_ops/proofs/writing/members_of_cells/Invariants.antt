use Rattle.std.proofs.Common.{◌≡◌, drop}
use Rattle.serde_json.specs.Data.{no_members}
use Rattle.serde_json.specs.View.{members_view}
use Rattle.sea_ops.specs.Texts.{with_cells}
use Rattle.sea_ops.proofs.writing.members_of_cells.Given as goal

-- the members so far, with the cells that are left, are those of all
abbrev pub invariant-loop-cell : goal.invariant-loop-cell
invariant-loop-cell l = with_cells (drop l.cell-index l.cells) (members_view l.members.entries) ≡ with_cells l.cells no_members
