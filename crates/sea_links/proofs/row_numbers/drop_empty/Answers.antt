use Rattle.std.proofs.Common.{None, sym, ap, ◌∙◌}
use Rattle.std.proofs.lemmas.Map.Text.{btree_map_updates_text}
use Rattle.sea_links.specs.Index.{keys_in}
use Rattle.sea_links.proofs.RowsLaws.{row-dropped, no-elements}
use Rattle.sea_links.proofs.row_numbers.drop_empty.Goals as goal

pub returns-then-is_empty : goal.returns-then-is_empty
returns-then-is_empty c =
    row-dropped c.args.rows.now c.remove.new.self c.args.id.now
    (btree_map_updates_text c.args.id.now c.args.rows.now c.remove.new.self None c.remove.ensures.updates)
    (sym (ap keys_in c.in-Some.ensures.value) ∙ no-elements c.in-Some.numbers.now.keys (c.is_empty.ensures.0 c.if-is_empty.true))
