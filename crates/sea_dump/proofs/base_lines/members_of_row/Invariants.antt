use Rattle.std.proofs.Common.{◌≡◌, drop, fold}
use Rattle.serde_json.specs.Data.{no_members}
use Rattle.serde_json.specs.View.{members_view}
use Rattle.sea_dump.specs.Dump.{with_shown}
use Rattle.sea_dump.proofs.base_lines.members_of_row.Given as goal

-- the members so far, with the columns that are left, are those of all
abbrev pub invariant-loop-column : goal.invariant-loop-column
invariant-loop-column l = fold (with_shown l.row) (members_view l.members.entries) (drop l.column-index l.columns) ≡ fold (with_shown l.row) no_members l.columns
