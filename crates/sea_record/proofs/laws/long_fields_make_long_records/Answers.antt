use Rattle.sea_record.proofs.Sizes.{long_record}
use Rattle.sea_record.proofs.laws.long_fields_make_long_records.Goals as goal

pub returns : goal.returns
returns c = long_record
