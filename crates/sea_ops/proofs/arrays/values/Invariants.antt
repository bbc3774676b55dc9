use Rattle.std.proofs.Common.{◌≡◌, map, take}
use Rattle.serde_json.specs.View.{view}
use Rattle.sea_ops.proofs.arrays.values.Given as goal

-- the values so far are those of what was passed
abbrev pub invariant-loop-item : goal.invariant-loop-item
invariant-loop-item g l = map view l.values.items ≡ map g.T.ToJson.shown (take l.item-index l.list)
