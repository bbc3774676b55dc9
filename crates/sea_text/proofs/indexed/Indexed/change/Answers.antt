use Rattle.std.specs.BTreeMap.{get_by_text}
use Rattle.sea_text.proofs.ChangesLaws.{places-tested}
use Rattle.sea_text.proofs.indexed.Indexed.change.Goals as goal

pub invariant_of-self : goal.invariant_of-self
invariant_of-self g c =
    let kept = places-tested g.T.Named.name c.args.name.now (g.C.ChangeOf.changed c.args.change.now) (get_by_text c.self.inside.places) c.self.inside.items c.as_slice.result.now c.in_ok-news.news c.as_slice-2.result.now c.are_named.result c.self.invariant c.as_slice.ensures c.in_ok-news.ensures c.as_slice-2.ensures c.are_named.ensures c.if-are_named.true in
    rw (c.put_changes.ensures (g.C.ChangeOf.changed c.args.change.now) kept.0) kept.1
