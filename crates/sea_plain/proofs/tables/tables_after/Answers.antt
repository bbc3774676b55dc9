use Rattle.sea_operation.specs.Seen.{seen_of}
use Rattle.sea_plain.proofs.Numbers.{has_room}
use Rattle.sea_plain.proofs.tables.tables_after.Goals as goal

pub new_table-requires : goal.new_table-requires
new_table-requires c = rw (c.as_slice.ensures) (rw c.in-InsertTable.is at (has_room (seen_of c.args.base.now) c.args.op.now c.requires.room).columns)
