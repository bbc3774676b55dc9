use Rattle.sea_operation.specs.Seen.{seen_of}
use Rattle.sea_plain.proofs.Numbers.{has_room}
use Rattle.sea_plain.proofs.apply.applied.Goals as goal

pub raised-requires : goal.raised-requires
raised-requires c = rw c.rows_made.ensures (has_room (seen_of c.args.base.now) c.args.op.now c.requires.room).rows

pub raised_key-requires : goal.raised_key-requires
raised_key-requires c = rw c.tables_made.ensures (has_room (seen_of c.args.base.now) c.args.op.now c.requires.room).tables
