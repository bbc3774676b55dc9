use Rattle.sea_record.proofs.Fields.{reads_again}
use Rattle.sea_record.proofs.Places.{no_number, number_found, no_kind, kind_found, no_minutes, minutes_found, no_user, user_found, no_text, text_found}
use Rattle.sea_record.proofs.record.fields_of.Goals as goal

-- no number
pub returns-in_default : goal.returns-in_default
returns-in_default c = λ lsn minutes user text h e.
    let r = reads_again c.args.payload.now lsn minutes user text h e in
    no_number r c.in_default.ensures

-- no kind
pub returns-in_default-take_u8 : goal.returns-in_default-take_u8
returns-in_default-take_u8 c = λ lsn minutes user text h e.
    let r = reads_again c.args.payload.now lsn minutes user text h e in
    let one = number_found r c.in-Ok.lsn c.in-Ok.at c.in-Ok.ensures in
    no_kind r c.in-Ok.at one.1 c.in_default-take_u8.ensures

-- no minutes
pub returns-in_default-take_u64 : goal.returns-in_default-take_u64
returns-in_default-take_u64 c = λ lsn minutes user text h e.
    let r = reads_again c.args.payload.now lsn minutes user text h e in
    let one = number_found r c.in-Ok.lsn c.in-Ok.at c.in-Ok.ensures in
    let two = kind_found r c.in-Ok.at _ c.in-Ok-take_u8.at one.1 c.in-Ok-take_u8.ensures in
    no_minutes r c.in-Ok-take_u8.at two c.in_default-take_u64.ensures

-- no user
pub returns-in_default-take_bytes : goal.returns-in_default-take_bytes
returns-in_default-take_bytes c = λ lsn minutes user text h e.
    let r = reads_again c.args.payload.now lsn minutes user text h e in
    let one = number_found r c.in-Ok.lsn c.in-Ok.at c.in-Ok.ensures in
    let two = kind_found r c.in-Ok.at _ c.in-Ok-take_u8.at one.1 c.in-Ok-take_u8.ensures in
    let three = minutes_found r c.in-Ok-take_u8.at c.in-Ok-take_u64.minutes c.in-Ok-take_u64.at two c.in-Ok-take_u64.ensures in
    no_user r c.in-Ok-take_u64.at _ three.1 c.in_default-take_bytes.ensures

-- no text
pub returns-in_default-take_bytes-2 : goal.returns-in_default-take_bytes-2
returns-in_default-take_bytes-2 c = λ lsn minutes user text h e.
    let r = reads_again c.args.payload.now lsn minutes user text h e in
    let one = number_found r c.in-Ok.lsn c.in-Ok.at c.in-Ok.ensures in
    let two = kind_found r c.in-Ok.at _ c.in-Ok-take_u8.at one.1 c.in-Ok-take_u8.ensures in
    let three = minutes_found r c.in-Ok-take_u8.at c.in-Ok-take_u64.minutes c.in-Ok-take_u64.at two c.in-Ok-take_u64.ensures in
    let four = user_found r c.in-Ok-take_u64.at c.in-Ok-take_bytes.user c.in-Ok-take_bytes.at three.1 c.in-Ok-take_bytes.ensures in
    no_text r c.in-Ok-take_bytes.at _ four.1 c.in_default-take_bytes-2.ensures

-- all fields
pub returns : goal.returns
returns c = λ lsn minutes user text h e.
    let r = reads_again c.args.payload.now lsn minutes user text h e in
    let one = number_found r c.in-Ok.lsn c.in-Ok.at c.in-Ok.ensures in
    let two = kind_found r c.in-Ok.at _ c.in-Ok-take_u8.at one.1 c.in-Ok-take_u8.ensures in
    let three = minutes_found r c.in-Ok-take_u8.at c.in-Ok-take_u64.minutes c.in-Ok-take_u64.at two c.in-Ok-take_u64.ensures in
    let four = user_found r c.in-Ok-take_u64.at c.in-Ok-take_bytes.user c.in-Ok-take_bytes.at three.1 c.in-Ok-take_bytes.ensures in
    let five = text_found r c.in-Ok-take_bytes.at c.in-Ok-take_bytes-2.text _ four.1 c.in-Ok-take_bytes-2.ensures in
    (one.0, three.0, four.0, five)
