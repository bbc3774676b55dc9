use Rattle.std.specs.BTreeMap.{get_by_text}
use Rattle.sea_text.specs.Named.{has_another_name}
use Rattle.sea_text.proofs.PlacesLaws.{IsPlacedSoFar}
use Rattle.sea_text.proofs.indexed.places_without.Given as goal

abbrev pub invariant-loop-item : goal.invariant-loop-item
invariant-loop-item g l = IsPlacedSoFar g.T.Named.name (has_another_name g.T.Named.name l.name) (get_by_text l.places) l.at l.item-index l.items
