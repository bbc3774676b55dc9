use Rattle.sea_record.proofs.Fields.{puts_record}
use Rattle.sea_record.proofs.record.bytes_of_fields.Goals as goal

-- the fields are put one behind another
pub returns : goal.returns
returns c =
    puts_record c.args.lsn c.args.minutes c.args.user.now c.args.text.now _ _ _ _ _ _ c.new-out.ensures c.in_ok-put_u64.ensures.ok c.in_ok-put_u8.ensures.ok c.in_ok-put_u64-2.ensures.ok c.in_ok-put_bytes.ensures.ok
    c.in_ok-put_bytes-2.ensures.ok
