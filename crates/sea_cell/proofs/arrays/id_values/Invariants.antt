use Rattle.std.proofs.Common.{◌≡◌, map, take}
use Rattle.serde_json.specs.View.{view}
use Rattle.serde_json.specs.Data.{string}
use Rattle.sea_cell.proofs.arrays.id_values.Given as goal

-- the values so far are those of what was passed
abbrev pub invariant-loop-id : goal.invariant-loop-id
invariant-loop-id l = map view l.values.items ≡ map (λ id. string id.0) (take l.id-index l.ids)
