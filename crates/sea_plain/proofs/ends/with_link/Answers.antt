use Rattle.sea_plain.proofs.Joining.{linked}
use Rattle.sea_plain.proofs.ends.with_link.Goals as goal

pub returns : goal.returns
returns c =
    linked c.args.base.now c.args.table.now c.args.name.now c.args.other.now _ _ _ _ _ _ _ _ _
    c.as_str.ensures c.as_str-to.ensures c.as_str-to_name.ensures
    c.end_towards-first.ensures c.end_towards-second.ensures
    c.as_slice.ensures c.in_ok-tables.ensures c.as_slice-2.ensures c.in_ok-linked.ensures
