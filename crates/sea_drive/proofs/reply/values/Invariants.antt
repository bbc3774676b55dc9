use Rattle.std.proofs.Common.{◌≡◌, map, take}
use Rattle.serde_json.specs.View.{view}
use Rattle.sea_cell.specs.Conversion.{json_of}
use Rattle.sea_drive.proofs.reply.values.Given as goal

abbrev pub invariant-loop-cell : goal.invariant-loop-cell
invariant-loop-cell l = map view l.items.items ≡ map json_of (take l.cell-index l.cells)
