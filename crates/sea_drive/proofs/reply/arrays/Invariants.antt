use Rattle.std.proofs.Common.{◌≡◌, map, take}
use Rattle.serde_json.specs.View.{view}
use Rattle.sea_drive.specs.Reply.{row_json}
use Rattle.sea_drive.proofs.reply.arrays.Given as goal

abbrev pub invariant-loop-row : goal.invariant-loop-row
invariant-loop-row l = map view l.items.items ≡ map row_json (take l.row-index l.rows)
