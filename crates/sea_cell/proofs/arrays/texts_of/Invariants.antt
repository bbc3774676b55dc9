use Rattle.std.proofs.Common.{◌≡◌, ◌++◌, drop, option_map}
use Rattle.serde_json.specs.View.{items_view}
use Rattle.sea_cell.specs.Words.{texts_of}
use Rattle.sea_cell.proofs.arrays.texts_of.Given as goal

-- the texts so far and those of what is left are those of all
abbrev pub invariant-loop-item : goal.invariant-loop-item
invariant-loop-item l = option_map (λ more. l.texts ++ more) (texts_of (items_view (drop l.item-index l.items))) ≡ texts_of (items_view l.items)
