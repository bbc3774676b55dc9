use Rattle.std.proofs.Common.{◌≡◌, map, take}
use Rattle.serde_json.specs.View.{view}
use Rattle.sea_drive.specs.Fed.{entries_json as entries_json_of}
use Rattle.sea_drive.proofs.feed_text.entries_json.Given as goal

abbrev pub invariant-loop-at : goal.invariant-loop-at
invariant-loop-at l = map view l.items.items ≡ entries_json_of l.first (take l.at l.entries)
