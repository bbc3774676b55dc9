use Rattle.std.proofs.Common.{◌≡◌, ℕ, List, map, take}
use Rattle.std.specs.BTreeSet.{contains_text}
use Rattle.sea_text.specs.Distinct.{is_among}
use Rattle.sea_operation.proofs.names.set_of.Given as goal

abbrev pub invariant-loop-item : goal.invariant-loop-item
invariant-loop-item g l = (name : List ℕ) → contains_text l.seen name ≡ is_among (map g.T.Named.name (take l.item-index l.items)) name
