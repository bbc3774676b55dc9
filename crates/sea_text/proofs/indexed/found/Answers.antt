use Rattle.std.proofs.Common.{Some, None, sym, ◌∙◌}
use Rattle.std.specs.BTreeMap.{get_by_text}
use Rattle.sea_text.proofs.NamesLaws.{named-at}
use Rattle.sea_text.proofs.indexed.found.Goals as goal

pub returns-in-Some : goal.returns-in-Some
returns-in-Some g c = c.item_at.ensures ∙ named-at g.T.Named.name (get_by_text c.args.places.now) c.args.items.now c.requires c.args.name.now (Some c.in-Some.at) (sym c.in-Some.is ∙ c.place.ensures)

pub returns-in-None : goal.returns-in-None
returns-in-None g c = named-at g.T.Named.name (get_by_text c.args.places.now) c.args.items.now c.requires c.args.name.now None (sym c.in-None.is ∙ c.place.ensures)
