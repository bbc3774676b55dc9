use Rattle.std.proofs.Common.{refl, arith}
use Rattle.sea_core.proofs.preparation.record_of_next.Goals as goal

pub returns : goal.returns
returns c =
    let none = rw c.in_default.is at c.in_ok-payload.ensures.none in
    let long = c.long_fields_make_long_records.ensures c.args.version c.args.entry.now (none.0 refl) in
    let size = c.in_ok-record_length.ensures c.args.version in
    (omega (arith, size, c.log_size-size.ensures), omega (arith, long, size, c.log_size-size.ensures))
