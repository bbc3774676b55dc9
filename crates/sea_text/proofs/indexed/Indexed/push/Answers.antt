use Rattle.std.proofs.Common.{◌∙◌}
use Rattle.std.specs.BTreeMap.{get_by_text}
use Rattle.std.specs.String.{string_bytes}
use Rattle.sea_text.proofs.PlacesLaws.{places-push}
use Rattle.sea_text.proofs.indexed.Indexed.push.Goals as goal

pub invariant_of-self-in-Ok : goal.invariant_of-self-in-Ok
invariant_of-self-in-Ok g c =
    rw c.in_ok-push.ensures.ok (places-push g.T.Named.name (get_by_text c.self.inside.places) (get_by_text c.add_place.new.places) c.self.inside.items c.args.item (string_bytes c.in_ok-name.name) c.len-at.result c.self.invariant c.len-at.ensures (c.in_ok-name.ensures.ok ∙ c.name.ensures) c.in-Ok.ensures.ok)
