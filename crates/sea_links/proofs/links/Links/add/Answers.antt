use Rattle.std.proofs.Common.{rules}
use Rattle.std.specs.Map.{values_of}
use Rattle.sea_links.proofs.PairsLaws.{repeats-push}
use Rattle.sea_links.proofs.links.Links.add.Goals as goal

pub invariant_of-self-2 : goal.invariant_of-self-2
invariant_of-self-2 c = (c.put.ensures.indexed, rw c.in_ok-put.ensures.ok (repeats-push (values_of c.self.inside.index.pairs.entries) (record { link = c.args.link; first = c.args.first.now; second = c.args.second.now }) (search rules) c.self.invariant.1))
