use Rattle.std.proofs.Common.{ap, ◌∙◌}
use Rattle.std.specs.Map.{values_of}
use Rattle.sea_links.specs.Pairs.{is_other_pair}
use Rattle.sea_links.proofs.PairsLaws.{repeats-filter}
use Rattle.sea_links.proofs.RemovalLaws.{has-numbered, gone-numbered}
use Rattle.sea_links.proofs.links.Links.remove.Goals as goal

pub invariant_of-self : goal.invariant_of-self
invariant_of-self c =
    let pairs = c.self.inside.index.pairs.entries in
    let left = ap values_of c.drop_number.ensures.entries ∙ gone-numbered c.args.link c.args.first.now c.args.second.now c.in-Some.number pairs c.self.invariant.1 c.in-Some.ensures.some in
    (c.drop_number.ensures.indexed, rw left (repeats-filter (is_other_pair c.args.link c.args.first.now c.args.second.now) (values_of pairs) c.self.invariant.1))

pub returns-clause-ok : goal.returns-clause-ok
returns-clause-ok c = rw (← c.self.view_is) (ap values_of c.drop_number.ensures.entries ∙ gone-numbered c.args.link c.args.first.now c.args.second.now c.in-Some.number c.self.inside.index.pairs.entries c.self.invariant.1 c.in-Some.ensures.some)

pub returns-clause-was : goal.returns-clause-was
returns-clause-was c = rw (← c.self.view_is) (has-numbered c.args.link c.args.first.now c.args.second.now c.in-Some.number c.self.inside.index.pairs.entries c.in-Some.ensures.some)
