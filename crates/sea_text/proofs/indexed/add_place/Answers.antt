use Rattle.std.proofs.Common.{Some, sym, ◌∙◌}
use Rattle.std.proofs.lemmas.Map.Text.{btree_map_updates_text}
use Rattle.std.specs.BTreeMap.{get_by_text}
use Rattle.std.specs.String.{string_bytes}
use Rattle.sea_text.proofs.PlacesLaws.{place-new}
use Rattle.sea_text.proofs.indexed.add_place.Goals as goal

pub returns-in_ok-insert-clause-ok : goal.returns-in_ok-insert-clause-ok
returns-in_ok-insert-clause-ok c = λ other.
    btree_map_updates_text _ c.args.places.now c.insert.new.self (Some c.args.at) c.in_ok-insert.ensures.updates other
    ∙ place-new (get_by_text c.args.places.now) (string_bytes c.args.name) c.args.at (rw (sym c.as_str.ensures.value) (sym c.contains_key.ensures ∙ c.if-not-contains_key.true)) other
