use Rattle.std.proofs.Common.{Some, ap, ◌∙◌, rules}
use Rattle.std.proofs.lemmas.Map.Text.{btree_map_updates_text}
use Rattle.std.specs.BTreeMap.{is_at}
use Rattle.std.specs.Ordering.{nat_cmp}
use Rattle.std.specs.Set.{remove_key}
use Rattle.sea_links.specs.Index.{keys_in}
use Rattle.sea_links.proofs.RowsLaws.{row-written}
use Rattle.sea_links.proofs.row_numbers.take_in_rows.Goals as goal

pub returns-in-Some : goal.returns-in-Some
returns-in-Some c =
    let left = c.remove.new.self in
    let new = c.get_mut.follows.lender left in
    row-written c.args.rows.now new c.args.id.now left (remove_key (is_at (nat_cmp c.args.number)))
    (btree_map_updates_text c.args.id.now c.args.rows.now new (Some left) ((c.get_mut.follows.holds left).3 (search rules)))
    (c.remove.ensures.keys ∙ ap (λ found. remove_key (is_at (nat_cmp c.args.number)) (keys_in found)) c.in-Some.ensures.value)
