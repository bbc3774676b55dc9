use Rattle.sea_links.specs.Pairs.{is_of_other_link}
use Rattle.sea_links.proofs.PairsLaws.{repeats-filter}
use Rattle.sea_links.proofs.links.Links.remove_link.Goals as goal

pub invariant_of-self : goal.invariant_of-self
invariant_of-self c = (c.drop_link.ensures.indexed, rw c.drop_link.ensures.left (repeats-filter (is_of_other_link c.args.link) _ c.self.invariant.1))
