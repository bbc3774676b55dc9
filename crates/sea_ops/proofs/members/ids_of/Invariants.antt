use Rattle.std.proofs.Common.{◌≡◌, ◌++◌, map, drop, option_map}
use Rattle.serde_json.specs.View.{items_view}
use Rattle.sea_cell.specs.Words.{texts_of}
use Rattle.sea_ops.specs.Operations.{row_id}
use Rattle.sea_ops.proofs.members.ids_of.Given as goal

-- the ids so far and those of what is left are those of all
abbrev pub invariant-loop-item : goal.invariant-loop-item
invariant-loop-item l = option_map (λ more. l.ids ++ map row_id more) (texts_of (items_view (drop l.item-index l.items))) ≡ option_map (map row_id) (texts_of (items_view l.items))
