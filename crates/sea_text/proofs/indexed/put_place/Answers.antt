use Rattle.std.proofs.Common.{Some, cond, List, ℕ, ap, ◌∙◌}
use Rattle.std.proofs.lemmas.Map.Text.{btree_map_updates_text}
use Rattle.std.specs.BTreeMap.{get_by_text}
use Rattle.std.specs.Str.{bytes_eq}
use Rattle.sea_text.proofs.indexed.put_place.Goals as goal

pub returns : goal.returns
returns c = λ other.
    btree_map_updates_text _ c.args.places.now c.insert.new.self (Some c.args.at) c.in_ok-insert.ensures.updates other
    ∙ ap (λ (bytes : List ℕ). cond (bytes_eq bytes other) (Some c.args.at) (get_by_text c.args.places.now other)) c.in_ok-from_str.ensures.ok
