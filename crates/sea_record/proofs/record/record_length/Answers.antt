use Rattle.std.proofs.Common.{length, ap, arith}
use Rattle.sea_record.proofs.Sizes.{length-record}
use Rattle.sea_record.proofs.record.record_length.Goals as goal

pub returns : goal.returns
returns c lsn = omega (arith, length-record lsn c.args.entry.now, ap length c.in_ok-op_text.ensures, ap length c.as_str.ensures)
