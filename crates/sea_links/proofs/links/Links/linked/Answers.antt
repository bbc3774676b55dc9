use Rattle.std.proofs.Common.{◌∙◌}
use Rattle.sea_links.proofs.RemovalLaws.{has-number}
use Rattle.sea_links.proofs.links.Links.linked.Goals as goal

pub returns : goal.returns
returns c = rw (← c.self.view_is) (c.is_some.ensures ∙ has-number c.args.link c.args.first.now c.args.second.now c.self.inside.index.pairs.entries c.number_of.result c.number_of.ensures.none c.number_of.ensures.some)
