use Rattle.std.proofs.Common.{◌≡◌, ◌++◌, drop, option_map}
use Rattle.serde_json.specs.View.{items_view}
use Rattle.sea_ops.specs.Operations.{each_of}
use Rattle.sea_ops.proofs.arrays.list_of.Given as goal

-- the things so far and those of what is left are those of all
abbrev pub invariant-loop-item : goal.invariant-loop-item
invariant-loop-item g l = option_map (λ more. l.list ++ more) (each_of g.T.OfJson.meaning (items_view (drop l.item-index l.items))) ≡ each_of g.T.OfJson.meaning (items_view l.items)
