use Rattle.sea_operation.specs.Seen.{seen_of}
use Rattle.sea_plain.proofs.Numbers.{unspent}
use Rattle.sea_plain.proofs.apply.apply_plain.Goals as goal

pub applied-requires-clause-room : goal.applied-requires-clause-room
applied-requires-clause-room c = unspent (seen_of c.args.base.now) c.args.entry.now.op c.in_ok-rows.ensures.refused
