use Rattle.std.proofs.Common.{[], map, not, ap, ◌∙◌}
use Rattle.sea_links.specs.Pairs.{side}
use Rattle.sea_links.proofs.LookLaws.{row-found}
use Rattle.sea_links.proofs.links.Links.of.Goals as goal

pub returns-in-Some : goal.returns-in-Some
returns-in-Some c =
    let it = c.self.inside.index in
    let others = ap (map (side (not c.args.first))) (row-found c.args.link c.args.first c.args.id.now it.pairs c.self.invariant.0.ordered c.in-Some.numbers.now.keys c.in-Some.ensures) in
    rw (← c.self.view_is) (rw others at c.sides_of.ensures)

pub returns-in-None : goal.returns-in-None
returns-in-None c =
    let it = c.self.inside.index in
    let others = ap (map (side (not c.args.first))) (row-found c.args.link c.args.first c.args.id.now it.pairs c.self.invariant.0.ordered [] c.in-None.ensures) in
    rw (← c.self.view_is) (c.new.ensures ∙ others)
