use Rattle.sea_links.specs.Pairs.{is_of_other}
use Rattle.sea_links.proofs.PairsLaws.{repeats-filter}
use Rattle.sea_links.proofs.links.Links.remove_row.Goals as goal

pub invariant_of-self : goal.invariant_of-self
invariant_of-self c = (c.drop_row.ensures.indexed, rw c.drop_row.ensures.left (repeats-filter (is_of_other c.args.link c.args.first c.args.id.now) _ c.self.invariant.1))
